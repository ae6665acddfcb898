-- Parts of programs.
use Rattle.std.proofs.Common.{◌≡◌, List}
use Rattle.std.specs.Arc.{arc_value}
use Rattle.std.proofs.lemmas.Slice.Zip.{firsts-zip}
use Rattle.giotto_text.specs.Program.{TaskDeclaration, ModeDeclaration, GiottoProgram, names_of}
use Rattle.giotto_text.specs.ProgramTrees.{task_of}
use Rattle.giotto_text.specs.declared.programs.Task.{Task}

abbrev pub with_tasks : GiottoProgram → List TaskDeclaration → GiottoProgram
with_tasks p ts = record { sensors = p.sensors; actuators = p.actuators; outputs = p.outputs; tasks = ts; modes = p.modes; start = p.start }

abbrev pub with_modes : GiottoProgram → List ModeDeclaration → GiottoProgram
with_modes p ms = record { sensors = p.sensors; actuators = p.actuators; outputs = p.outputs; tasks = p.tasks; modes = ms; start = p.start }

-- a task's states are those of its body
pub names_of_states : (t : Task) → names_of (task_of t).states ≡ (arc_value t.body).states
names_of_states t = firsts-zip (arc_value t.body).states t.states t.each_state
