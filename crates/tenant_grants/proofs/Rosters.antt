-- A roster of names compared with that of a rig.
use Rattle.std.proofs.Common.{◌≡◌, ℕ, Bool, not, List, [], ◌∷◌, map, position, slice_get, Option, Some, None, option_map, unwrap_or, refl}
use Rattle.std.specs.List.{prefix_len}
use Rattle.std.specs.Option.{option_map_or}
use Rattle.std.proofs.lemmas.List.{length-map}
use Rattle.std.proofs.lemmas.Option.{slice_get-map}
use Rattle.rig_config.specs.declared.TenantConfig.{TenantConfig}
use Rattle.tenant_grants.specs.Grants.{name_of_place}

module _ {A B : Type 0} (f : A → B) where
  prefix_map : (p : B → Bool) (xs : List A) → prefix_len p (map f xs) ≡ prefix_len (λ x. p (f x)) xs
  prefix_map p [] = refl
  prefix_map p (x ∷ xs) = rw (prefix_map p xs) refl

  -- the first place that passes in a mapped list is the first whose image passes
  pub position_map : (p : B → Bool) (xs : List A) → position p (map f xs) ≡ position (λ x. p (f x)) xs
  position_map p xs = rw (prefix_map (λ y. not (p y)) xs, length-map xs f) refl

-- the name at a place is that of the tenant there
pub name_at_place : (tenants : List TenantConfig) (place : ℕ) → name_of_place (map (λ (t : TenantConfig). t.name) tenants) place ≡ option_map_or (λ (t : TenantConfig). t.name) (slice_get tenants place) []
name_at_place tenants place = rw (slice_get-map (λ (t : TenantConfig). t.name) tenants place) (by (slice_get tenants place))
  where
    by : (o : Option TenantConfig) → unwrap_or (option_map (λ (t : TenantConfig). t.name) o) [] ≡ option_map_or (λ (t : TenantConfig). t.name) o []
    by None = refl
    by (Some t) = refl
