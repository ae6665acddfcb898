-- How a script of which something is made is broken off.
use Rattle.std.proofs.Common.{ℕ, List, Option, Some, None, refl, inl, inr}
use Rattle.rig_model.specs.config.Roster.{Rig}
use Rattle.rig_model.specs.Script.{script_text_of}
use Rattle.rig_script.specs.BrokenOff.{ForNewHostReading}
use Rattle.rig_script.specs.cited.Heard.{IsHeardBrokenOff}
use Rattle.rig_script.specs.declared.faults.ScriptFault.{ScriptFault}
use Rattle.rig_script.specs.declared.faults.ScriptFault.TheVariants.{Memory}
use Rattle.rig_reports.specs.inner.Watched.{IsWatchedBrokenOff}

module _ (config : Rig) where
  -- as with a listener alone
  pub broken_with_listener : (known left : Option (List ℕ)) (Written : List ℕ → Type 0) (fault : ScriptFault)
      → ForNewHostReading config known (IsHeardBrokenOff left Written fault) → ForNewHostReading config known (IsWatchedBrokenOff left Written fault)
  broken_with_listener None left Written fault broken = λ setting of. tt
  broken_with_listener (Some bytes) left Written fault broken = λ setting of. elim (broken setting of) [
    | inl script ↦ inl (inr script)
    | inr all ↦ inr all
  ]

  -- all lines were answered
  pub broken_at_end : (known left : Option (List ℕ)) (Written : List ℕ → Type 0)
      → ForNewHostReading config known (λ setting bytes. Written (script_text_of setting bytes)) → ForNewHostReading config known (IsWatchedBrokenOff left Written Memory)
  broken_at_end None left Written written = λ setting of. tt
  broken_at_end (Some bytes) left Written written = λ setting of. inr (refl, written setting of)
