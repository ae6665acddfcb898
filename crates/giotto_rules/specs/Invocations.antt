-- Whether an invocation has the arguments that its task takes.
use Rattle.std.specs.Prelude.{Bool, false, length, ◌==◌, Option, Some, None}
use Rattle.giotto_text.specs.Program.{TaskDeclaration, TaskInvocation, GiottoProgram}
use Rattle.giotto_rules.specs.Declarations.{task_named}

-- the task exists, and there are as many arguments as it has inputs
abbrev pub has_arguments_for : TaskInvocation → Option TaskDeclaration → Bool
has_arguments_for i None = false
has_arguments_for i (Some t) = length i.arguments == length t.inputs

-- the invocation has an argument for each input of its task
abbrev pub argument_for_each_input : GiottoProgram → TaskInvocation → Bool
argument_for_each_input p i = has_arguments_for i (task_named p i.task)
