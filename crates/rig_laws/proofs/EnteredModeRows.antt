-- Switches of a program, computed from the definition of the second half.
use Rattle.std.proofs.Common.{◌≡◌, ℕ, pos, List, [], ◌∷◌, Some, None, refl}
use Rattle.std.specs.Prelude.{codes, Ok}
use Rattle.giotto_tasks.specs.Names.{Valuation}
use Rattle.giotto_tasks.specs.Syntax.{number, port, binary, assign, finished, step}
use Rattle.giotto_tasks.specs.declared.operators.BinaryOperator.TheVariants.{Greater}
use Rattle.rig_model.specs.text.Parsing.{parsed}
use Rattle.rig_model.specs.text.Program.{from_line, GiottoProgram, TaskInvocation}
use Rattle.rig_model.specs.rules.Rules.{first_broken_rule}
use Rattle.rig_model.specs.declared.trace.records.Happening.TheVariants as happening
use Rattle.rig_model.specs.Row.{ActiveTask, Row, running, empty_row}
use Rattle.rig_model.specs.SecondHalf.{second_half_of}

-- In mode m, a sensor value above 4 switches to mode n, and one above 2 to m itself and exchanges x and y.
abbrev relay_text : List ℕ
relay_text =
    codes "sensor s := 0 line 0; output x := 0; output y := 0; task T(i) output x { x := i; } task U(i) output y { y := i; } mode m period 12 { exitfreq 6 if s > 4 do n; exitfreq 6 if s > 2 do m { x := y; y := x; }; taskfreq 3 do T(s); taskfreq 2 do U(s); } mode n period 24 { taskfreq 6 do T(s); taskfreq 4 do U(s); } start m;"

abbrev invocations : ℕ → ℕ → List TaskInvocation
invocations t u =
    record { frequency = t; guard = None; task = codes "T"; arguments = port (codes "s") ∷ [] }
    ∷ record { frequency = u; guard = None; task = codes "U"; arguments = port (codes "s") ∷ [] } ∷ []

abbrev relay : GiottoProgram
relay = record {
  sensors = record { name = codes "s"; initial = pos 0; source = from_line 0 } ∷ [];
  actuators = [];
  outputs = record { name = codes "x"; initial = pos 0 } ∷ record { name = codes "y"; initial = pos 0 } ∷ [];
  tasks =
      record { name = codes "T"; inputs = codes "i" ∷ []; outputs = codes "x" ∷ []; states = []; block = step (assign (codes "x") (port (codes "i"))) finished }
      ∷ record { name = codes "U"; inputs = codes "i" ∷ []; outputs = codes "y" ∷ []; states = []; block = step (assign (codes "y") (port (codes "i"))) finished } ∷ [];
  modes =
      record {
        name = codes "m";
        period = 12;
        updates = [];
        switches =
            record { frequency = 6; guard = Some (binary Greater (port (codes "s")) (number (pos 4))); target = codes "n"; destinations = [] }
            ∷ record {
              frequency = 6;
              guard = Some (binary Greater (port (codes "s")) (number (pos 2)));
              target = codes "m";
              destinations = (codes "x", port (codes "y")) ∷ (codes "y", port (codes "x")) ∷ [];
            } ∷ [];
        invocations = invocations 3 2;
      }
      ∷ record { name = codes "n"; period = 24; updates = []; switches = []; invocations = invocations 6 4 } ∷ [];
  start = codes "m";
}

pub relay_parsed : parsed relay_text ≡ Ok relay
relay_parsed = refl

pub relay_is_well_formed : first_broken_rule relay ≡ None
relay_is_well_formed = refl

abbrev ports : ℕ → ℕ → ℕ → ℕ → Valuation
ports s x y i = (codes "s", pos s) ∷ (codes "x", pos x) ∷ (codes "y", pos y) ∷ (codes "T.i", pos i) ∷ (codes "U.i", pos i) ∷ []

abbrev releases : ℕ → ℕ → List ActiveTask
releases n i =
    record { task = codes "T"; release = n; inputs = pos i ∷ []; states = [] }
    ∷ record { task = codes "U"; release = n; inputs = pos i ∷ []; states = [] } ∷ []

-- in mode m, at this mode time
abbrev at : ℕ → List ActiveTask → Row
at time active = record (empty_row 100) { state = running; program = Some relay; mode = codes "m"; mode_time = time; active = active; ports = ports 1 7 8 1 }

-- the second half of an instant at which the sensor reads s
abbrev behind : ℕ → Row → Row
behind s row = second_half_of ((0, pos s) ∷ []) [] row

-- T, of period 4, and U, of period 6, are two ticks into the round, ten ticks before their next common deadline. So n is entered ten ticks
-- before its end.
pub in_mid_round : behind 5 (at 2 (releases 98 1)) ≡ record (at 15 (releases 98 1)) {
  mode = codes "n";
  ports = ports 5 7 8 1;
  records = record { tick = 100; happening = happening.Mode (codes "n") } ∷ [];
  next_tick = 101;
}
in_mid_round = refl

-- A mode that is entered from itself continues at its mode time. Its destinations read the ports as they were before the switch.
pub into_itself : behind 3 (at 2 (releases 98 1)) ≡ record (at 3 (releases 98 1)) {
  ports = ports 3 8 7 1;
  records = record { tick = 100; happening = happening.Mode (codes "m") } ∷ [];
  next_tick = 101;
}
into_itself = refl

-- If no task is active, the target mode begins its round, and its own invocations are due.
pub at_the_start : behind 5 (at 0 []) ≡ record (at 1 (releases 100 5)) {
  mode = codes "n";
  ports = ports 5 7 8 5;
  records = record { tick = 100; happening = happening.Mode (codes "n") } ∷ [];
  next_tick = 101;
}
at_the_start = refl

-- If no guard holds, the mode doesn't change.
pub not_taken : behind 2 (at 2 (releases 98 1)) ≡ record (at 3 (releases 98 1)) { ports = ports 2 7 8 1; next_tick = 101 }
not_taken = refl
