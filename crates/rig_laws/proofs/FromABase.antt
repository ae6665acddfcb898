-- The first run, cut after its second instant: the rest from that base gives what the whole gives, computed from the definitions.
use Rattle.std.proofs.Common.{◌≡◌, List, [], ◌∷◌, ◌++◌, refl, true, false, reverse}
use Rattle.std.specs.Prelude.{codes}
use Rattle.std.specs.Fmt.{digits}
use Rattle.rig_model.specs.declared.events.Event.{Event}
use Rattle.rig_model.specs.Answers.{answers_of}
use Rattle.rig_model.specs.Host.{host_after}
use Rattle.rig_model.specs.Legal.{is_legal, counts}
use Rattle.rig_model.specs.Base.{Setting}
use Rattle.rig_laws.proofs.FirstRun.{answered, tick, completed, shown, loaded_and_started}
use Rattle.rig_laws.proofs.Rig.{rig}

abbrev pub before : List Event
before = loaded_and_started 0 ++ tick 5 ∷ tick 7 ∷ []

abbrev pub rest : List Event
rest = completed 0 0 ∷ tick 9 ∷ shown 0 (codes "a") ∷ []

-- the rig after the second instant
abbrev pub from_there : Setting
from_there = record rig { base = host_after rig (reverse before) }

-- the job that the base awaits may be completed
pub rest_is_legal : is_legal from_there (reverse rest) ≡ true
rest_is_legal = refl

pub answers_of_rest : answers_of from_there (reverse rest) 0 ≡ answered (codes "ok port a 6" ∷ [])
unfolding digits
answers_of_rest = refl

pub same_end : host_after from_there (reverse rest) ≡ host_after rig (reverse (before ++ rest))
same_end = refl

-- a job that the base has counted is not counted again
abbrev pub behind_completion : Setting
behind_completion = record rig { base = host_after rig (reverse (before ++ completed 0 0 ∷ [])) }

pub counted_once : counts behind_completion [] (record { tenant = 0; tick = 0; task = codes "T" }) ≡ false
counted_once = refl
