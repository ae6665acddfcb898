-- What always holds of a configuration: the ranges of its fields, different names, and lines that at most one tenant may drive.
use Rattle.std.specs.Prelude.{ℕ, Bool, true, false, not, ◌&&◌, ◌||◌, ◌==◌, nat_lt, List, [], ◌∷◌, length, map, codes, IsTrue}
use Rattle.std.specs.List.{list_all, list_any}
use Rattle.giotto_tasks.specs.Names.{same_name}
use Rattle.giotto_tasks.specs.Sound.{all_different}
use Rattle.rig_config.specs.Fields.{from_to, is_in_range}
use Rattle.rig_config.specs.Intervals.{is_in_order}
use Rattle.rig_config.specs.Roster.{Rig, may_use}
use Rattle.rig_config.specs.declared.Budgets.{Budgets}
use Rattle.rig_config.specs.declared.TenantConfig.{TenantConfig}
use Rattle.rig_config.specs.declared.faults.Field.TheVariants as field

abbrev pub is_lower : ℕ → Bool
is_lower c = from_to 97 122 c

-- a to z, 0 to 9 or _
abbrev pub is_byte_of_tenant_name : ℕ → Bool
is_byte_of_tenant_name c = is_lower c || from_to 48 57 c || c == 95

-- the words that begin an operator's lines and the host's replies
abbrev pub is_kept_word : List ℕ → Bool
is_kept_word x = same_name x (codes "op") || same_name x (codes "host")

-- a tenant's name: a to z, then a to z, 0 to 9 or _; neither `op` nor `host`
abbrev pub is_tenant_name : List ℕ → Bool
is_tenant_name [] = false
is_tenant_name (c ∷ cs) =
    is_in_range field.Name (length (c ∷ cs)) && (is_lower c && list_all is_byte_of_tenant_name cs && not (is_kept_word (c ∷ cs)))

-- a key: bytes from 0x21 to 0x7E
abbrev pub is_key : List ℕ → Bool
is_key key = is_in_range field.Key (length key) && list_all (from_to 33 126) key

abbrev pub are_lines : ℕ → List ℕ → Bool
are_lines lines ks = list_all (λ k. nat_lt k lines) ks

abbrev pub are_budgets : ℕ → Budgets → Bool
are_budgets lines b =
    are_lines lines b.reads && (are_lines lines b.writes
    && (is_in_range field.Bytes b.bytes && (is_in_range field.Ports b.ports && (is_in_range field.Tasks b.tasks && (is_in_range field.Modes b.modes
    && (is_in_range field.Steps b.steps && (is_in_range field.Trace b.trace && (is_in_range field.Offers b.offers && (is_in_range field.Binds b.binds && is_in_order b.bounds)))))))))

-- each field of the tenant is within its range
abbrev pub is_tenant_config : ℕ → TenantConfig → Bool
is_tenant_config lines t = is_tenant_name t.name && (is_key t.key && are_budgets lines t.budgets)

-- no line may be driven by both
abbrev pub drive_apart : TenantConfig → TenantConfig → Bool
drive_apart t u = not (list_any (may_use u.budgets.writes) t.budgets.writes)

-- no line may be driven by two tenants
abbrev pub all_drive_apart : List TenantConfig → Bool
all_drive_apart [] = true
all_drive_apart (t ∷ ts) = list_all (drive_apart t) ts && all_drive_apart ts

-- What always holds of a configuration: each field is within its range, names are different, and no two tenants may drive the same
-- line.
pub record IsConfig (rig : Rig) : Type 0 where
  pub lines : IsTrue (is_in_range field.Lines rig.lines)
  pub roster : IsTrue (is_in_range field.Tenant (length rig.tenants))
  pub tenants : IsTrue (list_all (is_tenant_config rig.lines) rig.tenants)
  pub names : IsTrue (all_different (map (λ (t : TenantConfig). t.name) rig.tenants))
  pub writes : IsTrue (all_drive_apart rig.tenants)
