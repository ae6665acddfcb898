-- Texts and the programs that they read as.
use Rattle.std.proofs.Common.{◌≡◌, ℕ, ℤ, pos, negsuc, List, [], ◌∷◌, ◌++◌, Some, None, Ok, codes, refl}
use Rattle.giotto_tasks.specs.Syntax.{Block, number, port, unary, binary, assign, branch, repeat, finished, step}
use Rattle.giotto_tasks.specs.declared.operators.BinaryOperator.TheVariants as operators
use Rattle.giotto_tasks.specs.declared.operators.UnaryOperator.TheVariants as unary_operators
use Rattle.giotto_text.specs.Parsing.{parsed}
use Rattle.giotto_text.specs.Program.{from_line, from_grant, GiottoProgram}
use Rattle.giotto_text.proofs.cited.Adder.{adder_text, adder}

pub the_adder : parsed adder_text ≡ Ok adder
the_adder = refl

-- a program with each kind of line
abbrev every_line_text : List ℕ
every_line_text =
    codes "sensor s := 0 line 2; sensor g := -1 grant; actuator a := 5 line 3; actuator b := 0; output o := 0;\n"
    ++ codes "task T(x, y) output o state n := 7, k := -9223372036854775808 { if x > n { n := x; } else { repeat 3 { k := -k; } } o := (n + k) * 2; }\n"
    ++ codes "task U() { if 1 { } }\n"
    ++ codes "mode m period 6 { actfreq 1 if o != 0 do a := o; actfreq 2 do b := !o; exitfreq 3 if s do n { o := (-1); }; exitfreq 2 do m; taskfreq 1 if g do T(s, g + 1); taskfreq 2 do U(); }\n"
    ++ codes "mode n period 1 { } start m;"

abbrev every_line : GiottoProgram
every_line = record {
  sensors = record { name = codes "s"; initial = pos 0; source = from_line 2 } ∷ record { name = codes "g"; initial = negsuc 0; source = from_grant } ∷ [];
  actuators = record { name = codes "a"; initial = pos 5; line = Some 3 } ∷ record { name = codes "b"; initial = pos 0; line = None } ∷ [];
  outputs = record { name = codes "o"; initial = pos 0 } ∷ [];
  tasks =
      record {
        name = codes "T";
        inputs = codes "x" ∷ codes "y" ∷ [];
        outputs = codes "o" ∷ [];
        states = (codes "n", pos 7) ∷ (codes "k", negsuc 9223372036854775807) ∷ [];
        block =
            step (branch (binary operators.Greater (port (codes "x")) (port (codes "n")))
            (step (assign (codes "n") (port (codes "x"))) finished)
            (step (repeat 3 (step (assign (codes "k") (unary unary_operators.Negate (port (codes "k")))) finished)) finished))
            (step (assign (codes "o") (binary operators.Multiply (binary operators.Add (port (codes "n")) (port (codes "k"))) (number (pos 2)))) finished);
      } ∷ record { name = codes "U"; inputs = []; outputs = []; states = []; block = step (branch (number (pos 1)) finished finished) finished } ∷ [];
  modes =
      record {
        name = codes "m";
        period = 6;
        updates =
            record { frequency = 1; guard = Some (binary operators.NotEqual (port (codes "o")) (number (pos 0))); actuator = codes "a"; value = port (codes "o") }
            ∷ record { frequency = 2; guard = None; actuator = codes "b"; value = unary unary_operators.Not (port (codes "o")) } ∷ [];
        switches =
            record { frequency = 3; guard = Some (port (codes "s")); target = codes "n"; destinations = (codes "o", unary unary_operators.Negate (number (pos 1))) ∷ [] }
            ∷ record { frequency = 2; guard = None; target = codes "m"; destinations = [] } ∷ [];
        invocations =
            record { frequency = 1; guard = Some (port (codes "g")); task = codes "T"; arguments = port (codes "s") ∷ binary operators.Add (port (codes "g")) (number (pos 1)) ∷ [] }
            ∷ record { frequency = 2; guard = None; task = codes "U"; arguments = [] } ∷ [];
      } ∷ record { name = codes "n"; period = 1; updates = []; switches = []; invocations = [] } ∷ [];
  start = codes "m";
}

pub each_line : parsed every_line_text ≡ Ok every_line
each_line = refl

-- a program with one block
abbrev with_block : Block → GiottoProgram
with_block b = record {
  sensors = [];
  actuators = [];
  outputs = [];
  tasks = record { name = codes "T"; inputs = []; outputs = []; states = []; block = b } ∷ [];
  modes = [];
  start = codes "m";
}

-- an operand that is an operation is in parentheses
pub sum_of_sums : parsed (codes "task T() { x := (a - b) % (c / d); } start m;") ≡ Ok (with_block (step (assign (codes "x")
    (binary operators.Remainder (binary operators.Subtract (port (codes "a")) (port (codes "b"))) (binary operators.Divide (port (codes "c")) (port (codes "d"))))) finished))
sum_of_sums = refl

pub minus_minus : parsed (codes "task T() { x := -(-a); } start m;") ≡ Ok (with_block (step (assign (codes "x") (unary unary_operators.Negate (unary unary_operators.Negate (port (codes "a"))))) finished))
minus_minus = refl

pub compared : parsed (codes "task T() { x := (a == b) && (c <= d); } start m;") ≡ Ok (with_block (step (assign (codes "x")
    (binary operators.And (binary operators.Equal (port (codes "a")) (port (codes "b"))) (binary operators.AtMost (port (codes "c")) (port (codes "d"))))) finished))
compared = refl

pub or_not : parsed (codes "task T() { x := (a < b) || (!(c >= d)); } start m;") ≡ Ok (with_block (step (assign (codes "x")
    (binary operators.Or (binary operators.Less (port (codes "a")) (port (codes "b"))) (unary unary_operators.Not (binary operators.AtLeast (port (codes "c")) (port (codes "d")))))) finished))
or_not = refl

-- what leaves no trace: an empty "else", the empty braces of a switch, parentheses round a whole expression or a single operand,
-- leading zeros, "- 0"
pub empty_else : parsed (codes "task T() { if a { } else { } } start m;") ≡ parsed (codes "task T() { if a { } } start m;")
empty_else = refl

pub no_else : parsed (codes "task T() { if a { } } start m;") ≡ Ok (with_block (step (branch (port (codes "a")) finished finished) finished))
no_else = refl

pub empty_braces : parsed (codes "mode m period 1 { exitfreq 1 do m { }; } start m;") ≡ parsed (codes "mode m period 1 { exitfreq 1 do m; } start m;")
empty_braces = refl

pub more_parentheses : parsed (codes "task T() { x := ((a) + (1)); } start m;") ≡ parsed (codes "task T() { x := a + 1; } start m;")
more_parentheses = refl

-- a program with one output
abbrev with_output : ℤ → GiottoProgram
with_output z = record { sensors = []; actuators = []; outputs = record { name = codes "o"; initial = z } ∷ []; tasks = []; modes = []; start = codes "m" }

pub leading_zeros : parsed (codes "output o := 007; start m;") ≡ Ok (with_output (pos 7))
leading_zeros = refl

pub minus_zero : parsed (codes "output o := - 0; start m;") ≡ Ok (with_output (pos 0))
minus_zero = refl

pub least_initial : parsed (codes "output o := -9223372036854775808; start m;") ≡ Ok (with_output (negsuc 9223372036854775807))
least_initial = refl
