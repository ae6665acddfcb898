-- Tenants read one after the other.
use Rattle.std.proofs.Common.{◌≡◌, ℕ, ◌+◌, ◌<◌, List, [], ◌∷◌, ◌++◌, length, get_or, drop, refl, ap, ◌∙◌, append_assoc, add-one, drop-cons, Some}
use Rattle.std.specs.Prelude.{Result, Ok, Err}
use Rattle.toml.specs.Data.{Data, Items, item, Members, as_table}
use Rattle.toml.specs.View.{view, items_view}
use Rattle.toml.specs.declared.value.Value.{Value}
use Rattle.rig_config.specs.Reading.{◌>>=◌, tenant_of, tenants_from}
use Rattle.rig_config.specs.declared.TenantConfig.{TenantConfig}
use Rattle.rig_config.specs.declared.faults.ConfigFault.{ConfigFault}

-- what is read, after tenants that were read before
abbrev pub behind : List TenantConfig → Result (List TenantConfig) ConfigFault → Result (List TenantConfig) ConfigFault
behind before (Ok others) = Ok (before ++ others)
behind before (Err fault) = Err fault

behind_one : (before : List TenantConfig) (x : TenantConfig) (others : Result (List TenantConfig) ConfigFault)
    → behind (before ++ x ∷ []) others ≡ behind before (others >>= (λ xs. Ok (x ∷ xs)))
behind_one before x (Ok xs) = ap Ok (append_assoc before (x ∷ []) xs)
behind_one before x (Err fault) = refl

-- the values from a place on: the one there, and those after it
items_at : (vs : List Value) (i : ℕ) (d : Value) → i < length vs → items_view (drop i vs) ≡ item (view (get_or vs i d)) (items_view (drop (i + 1) vs))
items_at vs i d lt = rw (add-one, drop-cons vs i d)

tenants_of_item : (version lines t : ℕ) (before : List TenantConfig) (value : Data) (others : Items) (fields : Members) (x : TenantConfig)
    → as_table value ≡ Some fields → tenant_of version lines t fields ≡ Ok x
    → behind (before ++ x ∷ []) (tenants_from version lines (t + 1) others) ≡ behind before (tenants_from version lines t (item value others))
tenants_of_item version lines t before value others fields x is_table is_tenant =
    behind_one before x (tenants_from version lines (t + 1) others) ∙ rw (is_table, is_tenant)

-- one more tenant
pub next_tenant : (version lines t : ℕ) (before : List TenantConfig) (vs : List Value) (value : Value) (fields : Members) (x : TenantConfig)
    → t < length vs → value ≡ get_or vs t value → as_table (view value) ≡ Some fields → tenant_of version lines t fields ≡ Ok x
    → behind (before ++ x ∷ []) (tenants_from version lines (t + 1) (items_view (drop (t + 1) vs))) ≡ behind before (tenants_from version lines t (items_view (drop t vs)))
next_tenant version lines t before vs value fields x lt here is_table is_tenant =
    rw (items_at vs t value lt, ← here) (tenants_of_item version lines t before (view value) (items_view (drop (t + 1) vs)) fields x is_table is_tenant)
