-- The records of the updates of a small mode and of a task's outputs, computed from the definitions.
use Rattle.std.proofs.Common.{◌≡◌, pos, [], ◌∷◌, Some, None, refl}
use Rattle.std.specs.Prelude.{codes}
use Rattle.giotto_tasks.specs.Names.{Valuation}
use Rattle.giotto_tasks.specs.Syntax.{number, port}
use Rattle.rig_model.specs.text.Program.{ModeDeclaration}
use Rattle.rig_model.specs.declared.trace.records.Happening.TheVariants as happening
use Rattle.rig_model.specs.FirstHalf.{outputs_happened}
use Rattle.rig_model.specs.Updates.{updates_happened}

-- mode m period 10 { actfreq 1 do a := o; actfreq 1 if 0 do b := 5; actfreq 2 do c := 7; }
abbrev mode : ModeDeclaration
mode = record {
  name = codes "m";
  period = 10;
  updates = record { frequency = 1; guard = None; actuator = codes "a"; value = port (codes "o") }
      ∷ record { frequency = 1; guard = Some (number (pos 0)); actuator = codes "b"; value = number (pos 5) }
      ∷ record { frequency = 2; guard = None; actuator = codes "c"; value = number (pos 7) } ∷ [];
  switches = [];
  invocations = [];
}

abbrev ports : Valuation
ports = (codes "a", pos 1) ∷ (codes "b", pos 2) ∷ (codes "c", pos 3) ∷ (codes "o", pos 4) ∷ []

pub at_the_start : updates_happened mode 0 mode.updates ports ≡ happening.Act (codes "a") (pos 4) ∷ happening.Act (codes "c") (pos 7) ∷ []
at_the_start = refl

pub at_half : updates_happened mode 5 mode.updates ports ≡ happening.Act (codes "c") (pos 7) ∷ []
at_half = refl

pub between : updates_happened mode 3 mode.updates ports ≡ []
between = refl

pub each_output : outputs_happened (codes "o" ∷ codes "p" ∷ []) (pos 4 ∷ pos 0 ∷ []) ≡ happening.Out (codes "o") (pos 4) ∷ happening.Out (codes "p") (pos 0) ∷ []
each_output = refl
