-- The ports that the adder begins with, computed from the definitions.
use Rattle.std.proofs.Common.{◌≡◌, pos, [], ◌∷◌, Some, None, refl}
use Rattle.std.specs.Prelude.{codes}
use Rattle.rig_model.proofs.of_text.Adder.{adder}
use Rattle.rig_model.specs.Ports.{initial_ports, value_of_port}

pub ports_of_adder : initial_ports adder ≡ (codes "s", pos 0) ∷ (codes "a", pos 0) ∷ (codes "o", pos 0) ∷ (codes "T.i", pos 0) ∷ []
ports_of_adder = refl

pub own_port_by_its_task : value_of_port adder (initial_ports adder) (Some (codes "T")) (codes "i") ≡ Some (pos 0)
own_port_by_its_task = refl

pub no_port_by_its_own_name : value_of_port adder (initial_ports adder) None (codes "i") ≡ None
no_port_by_its_own_name = refl

pub no_port_by_its_shown_name : value_of_port adder (initial_ports adder) None (codes "T.i") ≡ None
no_port_by_its_shown_name = refl

pub output_is_no_port_of_its_task : value_of_port adder (initial_ports adder) (Some (codes "T")) (codes "o") ≡ None
output_is_no_port_of_its_task = refl

pub task_is_no_port : value_of_port adder (initial_ports adder) None (codes "T") ≡ None
task_is_no_port = refl
