-- What a task takes from its ports and writes to them.
use Rattle.std.specs.Prelude.{ℤ, List}
use Rattle.giotto_tasks.specs.Names.{Valuation, values_of}
use Rattle.rig_model.specs.text.PortNames.{own_ports, with_values}
use Rattle.rig_model.specs.text.Program.{TaskDeclaration, names_of}

-- the values of a task's states, in their order
abbrev pub states_in : TaskDeclaration → Valuation → List ℤ
states_in t ports = values_of ports (own_ports t.name (names_of t.states))

-- the ports after a release: the task's inputs have these values
abbrev pub with_input_values : TaskDeclaration → List ℤ → Valuation → Valuation
with_input_values t inputs ports = with_values ports (own_ports t.name t.inputs) inputs

-- the ports after the end of a task: its outputs and its states have these values
abbrev pub with_results : TaskDeclaration → List ℤ → List ℤ → Valuation → Valuation
with_results t outputs states ports = with_values (with_values ports t.outputs outputs) (own_ports t.name (names_of t.states)) states
