-- Rules on the ports of a task: what it declares, and what its body uses.
use Rattle.std.specs.Prelude.{Bool, ◌&&◌, List, ◌++◌}
use Rattle.std.specs.List.{list_all}
use Rattle.giotto_tasks.specs.declared.names.Name.{Name}
use Rattle.giotto_tasks.specs.Names.{is_among}
use Rattle.giotto_tasks.specs.Sound.{all_different, block_reads_only, block_assigns_only}
use Rattle.giotto_tasks.specs.Syntax.{TaskBody}
use Rattle.giotto_text.specs.Program.{TaskDeclaration, body_of}
use Rattle.giotto_rules.specs.Names.{share_none}

-- These names are different, and none of them is a declared name.
abbrev pub keeps_own : List Name → List Name → Bool
keeps_own declared own = all_different own && share_none declared own

-- The outputs are different. The inputs and states are different too, and none of them is a declared name.
abbrev pub declares_own : List Name → TaskBody → Bool
declares_own declared b = all_different b.outputs && keeps_own declared (b.inputs ++ b.states)

-- The same for each task.
abbrev pub tasks_declare_own : List Name → List TaskDeclaration → Bool
tasks_declare_own declared ts = list_all (λ t. declares_own declared (body_of t)) ts

-- The body reads only the task's ports.
abbrev pub reads_own_ports : TaskBody → Bool
reads_own_ports b = block_reads_only (is_among (b.inputs ++ (b.states ++ b.outputs))) b.block

-- The body assigns only outputs and states of the task.
abbrev pub assigns_own_ports : TaskBody → Bool
assigns_own_ports b = block_assigns_only (is_among (b.outputs ++ b.states)) b.block

-- The body does both.
abbrev pub uses_own_ports : TaskBody → Bool
uses_own_ports b = reads_own_ports b && assigns_own_ports b
