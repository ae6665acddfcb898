-- The value of a line, by the rows of the tenants.
use Rattle.std.proofs.Common.{◌≡◌, ℕ, ◌<◌, ℤ, pos, length, Option, Some, None, unwrap_or, option_and_then, refl, ap, ◌∙◌}
use Rattle.std.proofs.lemmas.List.Quantifiers.{position-Some}
use Rattle.rig_model.specs.config.Roster.{Rig, may_use}
use Rattle.rig_model.specs.declared.config.TenantConfig.{TenantConfig}
use Rattle.instant_engine.specs.Tenants.{tenant_at}
use Rattle.rig_model.specs.LineValues.{line_value, value_of_line, writer_of}
use Rattle.rig_model.specs.Row.{Row}
use Rattle.host_core.specs.HostStanding.{HostStanding, Stands, line_of}
use Rattle.rig_model.specs.HostState.{HostState, row_at}
use Rattle.rig_model.specs.Base.{Setting}
use Rattle.instant_engine.proofs.of_laws.Places.{nobody}

-- a tenant that may drive a line is one of the roster
pub writer_within : (config : Rig) (k t : ℕ) → writer_of config k ≡ Some t → t < length config.tenants
writer_within config k t is = (position-Some (λ (tenant : TenantConfig). may_use tenant.budgets.writes k) config.tenants t nobody is).0

-- rows that agree in the roster give lines the same value
pub same_values : (config : Rig) (f g : ℕ → Row) → ((t : ℕ) → t < length config.tenants → f t ≡ g t) → (k : ℕ) → value_of_line config f k ≡ value_of_line config g k
same_values config f g same k = by (writer_of config k) refl
  where
    value : (ℕ → Row) → Option ℕ → ℤ
    value rows o = unwrap_or (option_and_then (λ t. line_value (rows t) k) o) (pos 0)

    by : (o : Option ℕ) → writer_of config k ≡ o → value f o ≡ value g o
    by None is = refl
    by (Some t) is = ap (λ row. unwrap_or (line_value row k) (pos 0)) (same t (writer_within config k t is))

-- the value of a line in the host's code is its value in the rows that the code represents
pub line_of_rows : (setting : Setting) (host : HostStanding) (state : HostState) → Stands setting host state → (k : ℕ) → line_of host k ≡ value_of_line setting.config (row_at state) k
line_of_rows setting host state stands k =
    ap (λ (c : Rig). value_of_line c (λ t. (tenant_at host.tenants t).row) k) stands.same_config
    ∙ by (writer_of setting.config k) refl
  where
    rows : ℕ → Row
    rows t = (tenant_at host.tenants t).row

    value : (ℕ → Row) → Option ℕ → ℤ
    value given o = unwrap_or (option_and_then (λ t. line_value (given t) k) o) (pos 0)

    by : (o : Option ℕ) → writer_of setting.config k ≡ o → value rows o ≡ value (row_at state) o
    by None is = refl
    by (Some t) is = ap (λ row. unwrap_or (line_value row k) (pos 0)) (stands.each t (writer_within setting.config k t is))
