-- The example programs other than the adder.
use Rattle.std.proofs.Common.{◌≡◌, ℕ, pos, List, [], ◌∷◌, map, Some, None, refl}
use Rattle.std.specs.Prelude.{codes, Ok, if◌then◌else◌}
use Rattle.giotto_tasks.specs.Names.{same_name}
use Rattle.giotto_tasks.specs.Syntax.{number, port, binary, assign, finished, step}
use Rattle.giotto_tasks.specs.declared.operators.BinaryOperator.TheVariants.{Add, Greater}
use Rattle.giotto_text.specs.Parsing.{parsed}
use Rattle.giotto_text.specs.Program.{from_line, ModeDeclaration, GiottoProgram}

abbrev pub switcher_text : List ℕ
switcher_text =
    codes "sensor s := 0 line 0; output o := 0; task T(i) output o { o := i + 1; } mode m period 6 { exitfreq 3 if s > 4 do n; taskfreq 2 do T(s); } mode n period 9 { taskfreq 3 do T(s); } start m;"

abbrev pub switcher : GiottoProgram
switcher = record {
  sensors = record { name = codes "s"; initial = pos 0; source = from_line 0 } ∷ [];
  actuators = [];
  outputs = record { name = codes "o"; initial = pos 0 } ∷ [];
  tasks = record {
    name = codes "T";
    inputs = codes "i" ∷ [];
    outputs = codes "o" ∷ [];
    states = [];
    block = step (assign (codes "o") (binary Add (port (codes "i")) (number (pos 1)))) finished;
  } ∷ [];
  modes =
      record {
        name = codes "m";
        period = 6;
        updates = [];
        switches = record { frequency = 3; guard = Some (binary Greater (port (codes "s")) (number (pos 4))); target = codes "n"; destinations = [] } ∷ [];
        invocations = record { frequency = 2; guard = None; task = codes "T"; arguments = port (codes "s") ∷ [] } ∷ [];
      }
      ∷ record {
        name = codes "n";
        period = 9;
        updates = [];
        switches = [];
        invocations = record { frequency = 3; guard = None; task = codes "T"; arguments = port (codes "s") ∷ [] } ∷ [];
      } ∷ [];
  start = codes "m";
}

pub switcher_parsed : parsed switcher_text ≡ Ok switcher
switcher_parsed = refl

-- actuator a := 50; actuator b := 7; mode k period 1 { } start k;
abbrev pub two_constants : GiottoProgram
two_constants = record {
  sensors = [];
  actuators = record { name = codes "a"; initial = pos 50; line = None } ∷ record { name = codes "b"; initial = pos 7; line = None } ∷ [];
  outputs = [];
  tasks = [];
  modes = record { name = codes "k"; period = 1; updates = []; switches = []; invocations = [] } ∷ [];
  start = codes "k";
}

-- the switcher with a mode n that doesn't invoke T, so that a switch can interrupt T
abbrev pub broken_switcher : GiottoProgram
broken_switcher = record switcher { modes = map without_invocations switcher.modes }
  where
    without_invocations : ModeDeclaration → ModeDeclaration
    without_invocations m = if same_name m.name (codes "n") then record m { invocations = [] } else m
