-- The whole host on the first run alongside beta, computed from the definitions.
use Rattle.std.proofs.Common.{◌≡◌, pos, [], ◌∷◌, refl, reverse, map}
use Rattle.std.specs.Prelude.{codes}
use Rattle.rig_model.specs.Row.{Row}
use Rattle.rig_model.specs.Host.{host_after}
use Rattle.rig_laws.proofs.FirstRun.{beside_beta}
use Rattle.rig_laws.proofs.Rig.{rig}

pub ports_beside_beta : map (λ (row : Row). row.ports) (host_after rig (reverse beside_beta)).rows
    ≡ ((codes "s", pos 9) ∷ (codes "a", pos 6) ∷ (codes "o", pos 6) ∷ (codes "T.i", pos 9) ∷ [])
    ∷ ((codes "s", pos 9) ∷ (codes "a", pos 6) ∷ (codes "o", pos 6) ∷ (codes "T.i", pos 9) ∷ []) ∷ []
ports_beside_beta = refl
