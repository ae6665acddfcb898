-- What the groups of a task's ports are called.
use Rattle.std.specs.Prelude.{ℕ, List, codes}
use Rattle.giotto_faults.specs.declared.ports.PortGroup.{PortGroup}
use Rattle.giotto_faults.specs.declared.ports.PortGroup.TheVariants.{Inputs, Outputs, States}

abbrev pub word_of_group : PortGroup → List ℕ
word_of_group Inputs = codes "inputs"
word_of_group Outputs = codes "outputs"
word_of_group States = codes "states"
