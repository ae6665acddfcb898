-- A script begins with a new host.
use Rattle.std.proofs.Common.{◌≡◌, ℕ, List, [], Option, Some, None, refl, sym, subst, inr}
use Rattle.std.specs.Prelude.{Result, Ok, Err, IfErr, OnOk}
use Rattle.rig_model.specs.Base.{IsBase, new_base, Setting}
use Rattle.host_core.specs.HostStanding.{HostStanding, Stands}
use Rattle.rig_model.specs.Plays.{IsSettingOf}
use Rattle.host_core.proofs.of_laws.LaterBase.{new_is_base}
use Rattle.rig_script.specs.cited.HostAnswers.{IsHostAfter}
use Rattle.rig_model.specs.TextLines.{cut}
use Rattle.rig_script.specs.Courses.{IsCourseOf}
use Rattle.rig_script.specs.declared.courses.Course.{Course}
use Rattle.rig_script.specs.cited.Heard.{ForHostReading}
use Rattle.rig_script.specs.cited.Past.{ForEachPastReading}
use Rattle.rig_model.specs.Script.{past_after, script_from, script_text_of}
use Rattle.rig_script.specs.BrokenOff.{AreBrokenOff, IsScriptBrokenOff, ForNewHostReading}
use Rattle.rig_script.specs.declared.faults.ScriptFault.{ScriptFault}
use Rattle.rig_model.specs.config.Roster.{Rig}

module _ (host : HostStanding) (config : Rig) (begins : (setting : Setting) → setting.config ≡ config → Stands setting host (new_base config 0)) where
  pub starts : (setting : Setting) → IsSettingOf config setting → IsHostAfter setting host []
  starts setting of = record {
    base = subst (IsBase setting.config) (sym of.new) (subst (λ (c : Rig). IsBase c (new_base config 0)) (sym of.same_config) (new_is_base config 0));
    legal = refl;
    stands = subst (Stands setting host) (sym of.new) (begins setting of.same_config);
  }

  -- what holds of this host holds of a new one
  pub from_new_host : (known : Option (List ℕ)) (Holds : Setting → List ℕ → Type 0) → ForHostReading host known Holds → ForNewHostReading config known Holds
  from_new_host known Holds goes = λ setting of. goes setting (starts setting of)

  -- how a script went
  pub course_from_new : (known left : Option (List ℕ)) (course : Course) → ForHostReading host known (λ setting bytes. IsCourseOf setting.config bytes left (past_after setting [] (cut bytes)) course)
      → ForNewHostReading config known (λ setting bytes. IsCourseOf config bytes left (past_after setting [] (cut bytes)) course)
  course_from_new None left course goes = λ setting of. tt
  course_from_new (Some bytes) left course goes = λ setting of.
      subst (λ (c : Rig). IsCourseOf c bytes left (past_after setting [] (cut bytes)) course) of.same_config (goes setting (starts setting of))

  -- what is written for the bytes that a reader is known to have
  pub written_from_start : {T E : Type 0} (r : Result T E) (known : Option (List ℕ)) (Written : List ℕ → Type 0)
      → OnOk r (ForEachPastReading (λ setting texts past. IsHostAfter setting host past) known (λ setting texts past bytes. Written (script_from setting past (cut bytes))))
      → OnOk r (ForNewHostReading config known (λ setting bytes. Written (script_text_of setting bytes)))
  written_from_start (Err e) known Written h = tt
  written_from_start (Ok x) None Written h = λ setting of. tt
  written_from_start (Ok x) (Some bytes) Written h = λ setting of. h setting [] [] (starts setting of)

  -- how it is broken off
  pub broken_from_start : {T : Type 0} (r : Result T ScriptFault) (known after : Option (List ℕ)) (Written : List ℕ → Type 0)
      → IfErr r (λ fault. ForEachPastReading (λ setting texts past. IsHostAfter setting host past) known (λ setting texts past bytes. AreBrokenOff after Written fault setting past bytes))
      → IfErr r (λ fault. ForNewHostReading config known (IsScriptBrokenOff after Written fault))
  broken_from_start (Ok x) known after Written h = tt
  broken_from_start (Err fault) None after Written h = λ setting of. tt
  broken_from_start (Err fault) (Some bytes) after Written h = λ setting of. inr (h setting [] [] (starts setting of))
