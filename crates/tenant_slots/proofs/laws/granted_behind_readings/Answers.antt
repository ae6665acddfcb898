use Rattle.std.proofs.Common.{[], ◌∷◌, ◌++◌, refl}
use Rattle.tenant_slots.proofs.cited.Granted.{found_last, granted_in_order, granted_more}
use Rattle.tenant_slots.proofs.laws.granted_behind_readings.Goals as goal

pub returns-clause-newest : goal.returns-clause-newest
returns-clause-newest c = λ p readings granted ports x z different. granted_more p readings granted ((x, z) ∷ granted) ports x z different (λ n. refl)

pub returns-clause-last : goal.returns-clause-last
returns-clause-last c = λ p readings granted ports x z different none. granted_more p readings granted (granted ++ (x, z) ∷ []) ports x z different (found_last granted x z none)

pub returns-clause-all : goal.returns-clause-all
returns-clause-all c = λ p readings granted ports different names. granted_in_order p readings [] granted ports different names
