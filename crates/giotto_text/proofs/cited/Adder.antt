-- The first example program: a task adds 1 to a sensor's reading, and an actuator gets the sum. Also tokens at their offsets.
use Rattle.std.proofs.Common.{ℕ, pos, List, [], ◌∷◌, None, codes}
use Rattle.giotto_tasks.specs.declared.names.Name.{Name}
use Rattle.giotto_tasks.specs.declared.operators.BinaryOperator.TheVariants.{Add}
use Rattle.giotto_tasks.specs.Syntax.{port, number, binary, assign, finished, step}
use Rattle.giotto_text.specs.declared.tokens.Keyword.{Keyword}
use Rattle.giotto_text.specs.declared.tokens.Symbol.{Symbol}
use Rattle.giotto_text.specs.declared.tokens.Token.TheVariants as tokens
use Rattle.giotto_text.specs.declared.tokens.PlacedToken.{PlacedToken}
use Rattle.giotto_text.specs.Program.{from_line, GiottoProgram}

abbrev pub adder_text : List ℕ
adder_text = codes "sensor s := 0 line 0; actuator a := 0; output o := 0; task T(i) output o { o := i + 1; } mode m period 2 { actfreq 1 do a := o; taskfreq 1 do T(s); } start m;"

abbrev pub adder : GiottoProgram
adder = record {
  sensors = record { name = codes "s"; initial = pos 0; source = from_line 0 } ∷ [];
  actuators = record { name = codes "a"; initial = pos 0; line = None } ∷ [];
  outputs = record { name = codes "o"; initial = pos 0 } ∷ [];
  tasks = record {
    name = codes "T";
    inputs = codes "i" ∷ [];
    outputs = codes "o" ∷ [];
    states = [];
    block = step (assign (codes "o") (binary Add (port (codes "i")) (number (pos 1)))) finished;
  } ∷ [];
  modes = record {
    name = codes "m";
    period = 2;
    updates = record { frequency = 1; guard = None; actuator = codes "a"; value = port (codes "o") } ∷ [];
    switches = [];
    invocations = record { frequency = 1; guard = None; task = codes "T"; arguments = port (codes "s") ∷ [] } ∷ [];
  } ∷ [];
  start = codes "m";
}

-- a token at its offset
abbrev pub word : Keyword → ℕ → PlacedToken
word k n = record { token = tokens.Keyword k; offset = n }

abbrev pub named : Name → ℕ → PlacedToken
named x n = record { token = tokens.Name x; offset = n }

abbrev pub count : ℕ → ℕ → PlacedToken
count k n = record { token = tokens.Number k; offset = n }

abbrev pub mark : Symbol → ℕ → PlacedToken
mark s n = record { token = tokens.Symbol s; offset = n }
