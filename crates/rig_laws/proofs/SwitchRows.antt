-- The switches of a small mode, computed from the definitions.
use Rattle.std.proofs.Common.{◌≡◌, ℤ, pos, [], ◌∷◌, Some, None, refl}
use Rattle.std.specs.Prelude.{codes}
use Rattle.giotto_tasks.specs.Names.{Valuation}
use Rattle.giotto_tasks.specs.Syntax.{number, port}
use Rattle.rig_model.specs.text.Program.{ModeSwitch, ModeDeclaration}
use Rattle.rig_model.specs.Switches.{switch_taken, with_destinations}

abbrev ports : ℤ → ℤ → Valuation
ports a b = (codes "a", a) ∷ (codes "b", b) ∷ []

-- a and b are exchanged, and a set to 7
abbrev exchange : ModeSwitch
exchange = record { frequency = 1; guard = Some (port (codes "b")); target = codes "m"; destinations = (codes "a", port (codes "b")) ∷ (codes "b", port (codes "a")) ∷ [] }

abbrev seven : ModeSwitch
seven = record { frequency = 2; guard = None; target = codes "n"; destinations = (codes "a", number (pos 7)) ∷ [] }

abbrev mode : ModeDeclaration
mode = record { name = codes "m"; period = 4; updates = []; switches = exchange ∷ seven ∷ []; invocations = [] }

-- both are due and their guards hold
pub first_of_two : switch_taken mode 4 (ports (pos 1) (pos 2)) ≡ Some exchange
first_of_two = refl

pub second_where_the_first_is_guarded : switch_taken mode 4 (ports (pos 1) (pos 0)) ≡ Some seven
second_where_the_first_is_guarded = refl

pub second_where_the_first_is_not_due : switch_taken mode 2 (ports (pos 1) (pos 2)) ≡ Some seven
second_where_the_first_is_not_due = refl

pub none_where_none_is_due : switch_taken mode 3 (ports (pos 1) (pos 2)) ≡ None
none_where_none_is_due = refl

-- each destination has the value of the other before the switch
pub exchanged : with_destinations exchange (ports (pos 1) (pos 2)) ≡ ports (pos 2) (pos 1)
exchanged = refl
