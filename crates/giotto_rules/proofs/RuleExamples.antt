-- The rules of well-formedness on the example programs.
use Rattle.std.proofs.Common.{◌≡◌, refl, Some, None}
use Rattle.giotto_rules.specs.Rules.{first_broken_rule}
use Rattle.giotto_text.proofs.cited.Adder.{adder}
use Rattle.giotto_rules.proofs.cited.ExamplePrograms.{switcher, two_constants, broken_switcher}

pub adder_is_well_formed : first_broken_rule adder ≡ None
adder_is_well_formed = refl

pub switcher_is_well_formed : first_broken_rule switcher ≡ None
switcher_is_well_formed = refl

pub two_constants_is_well_formed : first_broken_rule two_constants ≡ None
two_constants_is_well_formed = refl

-- a switch that could interrupt a task that isn't continued
pub broken_switcher_breaks : first_broken_rule broken_switcher ≡ Some 10
broken_switcher_breaks = refl
