use Rattle.std.proofs.Common.{◌≡◌, length, drop}
use Rattle.std.specs.List.{find}
use Rattle.rig_model.specs.text.Program.{ModeDeclaration, GiottoProgram}
use Rattle.giotto_check.specs.cited.Slots.{slots_of}
use Rattle.giotto_check.specs.Slots.{valuation_of}
use Rattle.giotto_check.specs.cited.Timetables.{AreEach, IsExit}
use Rattle.rig_model.specs.Switches.{is_open, switch_taken}
use Rattle.tenant_slots.proofs.switches.first_open.Given as goal

abbrev pub invariant-loop-exit : goal.invariant-loop-exit
invariant-loop-exit l = record {
  time : l.due ≡ l.time;
  left : (p : GiottoProgram) (m : ModeDeclaration) → AreEach (IsExit p m) m.switches l.exits → length l.values ≡ slots_of p
      → find (is_open m l.time (valuation_of p l.values)) (drop l.exit-index m.switches) ≡ switch_taken m l.time (valuation_of p l.values);
}
