-- The greatest cost of example programs.
use Rattle.std.proofs.Common.{◌≡◌, pos, [], ◌∷◌, map, Some, codes, refl}
use Rattle.giotto_tasks.specs.Syntax.{number, port, binary, repeat, finished, step, Expression}
use Rattle.giotto_tasks.specs.declared.operators.BinaryOperator.TheVariants.{Add, Greater}
use Rattle.giotto_rules.specs.text.Program.{TaskDeclaration, ModeDeclaration, GiottoProgram}
use Rattle.giotto_rules.proofs.of_text.Adder.{adder}
use Rattle.giotto_rules.proofs.cited.ExamplePrograms.{switcher, two_constants}
use Rattle.giotto_rules.specs.Costs.{greatest_cost_of}

-- the body o := i + 1 is the most expensive part
pub adder_costs : greatest_cost_of adder ≡ 2
adder_costs = refl

pub switcher_costs : greatest_cost_of switcher ≡ 2
switcher_costs = refl

pub constants_cost_nothing : greatest_cost_of two_constants ≡ 0
constants_cost_nothing = refl

-- the adder with the body repeat 3333 { o := i + 1; }
abbrev repeater : GiottoProgram
repeater = record adder { tasks = map with_turns adder.tasks }
  where
    with_turns : TaskDeclaration → TaskDeclaration
    with_turns t = record t { block = step (repeat 3333 t.block) finished }

pub repeater_costs : greatest_cost_of repeater ≡ 10000
repeater_costs = refl

-- (o + 1) + 1
abbrev two_more : Expression
two_more = binary Add (binary Add (port (codes "o")) (number (pos 1))) (number (pos 1))

-- o > 4
abbrev large : Expression
large = binary Greater (port (codes "o")) (number (pos 4))

-- the adder with an update that is more expensive than its body: actfreq 1 if o > 4 do a := (o + 1) + 1;
abbrev dear_update : GiottoProgram
dear_update = record adder { modes = map with_update adder.modes }
  where
    with_update : ModeDeclaration → ModeDeclaration
    with_update m = record m { updates = record { frequency = 1; guard = Some large; actuator = codes "a"; value = two_more } ∷ [] }

pub dear_update_costs : greatest_cost_of dear_update ≡ 3
dear_update_costs = refl

-- the adder with a switch of two destinations, whose costs add up:
-- exitfreq 1 if o > 4 do m { o := (o + 1) + 1; o := (o + 1) + 1; };
abbrev dear_switch : GiottoProgram
dear_switch = record adder { modes = map with_switch adder.modes }
  where
    with_switch : ModeDeclaration → ModeDeclaration
    with_switch m = record m { switches = record { frequency = 1; guard = Some large; target = codes "m"; destinations = (codes "o", two_more) ∷ (codes "o", two_more) ∷ [] } ∷ [] }

pub dear_switch_costs : greatest_cost_of dear_switch ≡ 5
dear_switch_costs = refl
