-- Tenants that are the same are the same at rest.
use Rattle.std.proofs.Common.{◌≡◌, ◌↔◌, List, [], ◌∷◌, map, refl, sym, ap, ◌∙◌}
use Rattle.rig_model.specs.Row.{Row}
use Rattle.rig_model.specs.Tenancies.{Tenancy}
use Rattle.instant_engine.specs.state.Standing.{Standing, at_rest}
use Rattle.host_core.specs.SameHosts.{compared}

compared_at_rest : (xs : List Standing) → map compared (map at_rest xs) ≡ map compared xs
compared_at_rest [] = refl
compared_at_rest (x ∷ xs) = ap (λ (cs : List (Tenancy × Row)). compared x ∷ cs) (compared_at_rest xs)

pub same_rested : (xs ys : List Standing) → (map compared xs ≡ map compared ys) ↔ (map compared (map at_rest xs) ≡ map compared (map at_rest ys))
same_rested xs ys = (
  λ e. compared_at_rest xs ∙ (e ∙ sym (compared_at_rest ys)),
  λ e. sym (compared_at_rest xs) ∙ (e ∙ compared_at_rest ys),
)
