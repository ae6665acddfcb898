-- The jobs of a tenant's active tasks, with what they compute.
use Rattle.std.specs.Prelude.{ℕ, ◌==◌, List, [], map, filter}
use Rattle.std.specs.Option.{option_map_or}
use Rattle.giotto_tasks.specs.declared.names.Name.{Name}
use Rattle.giotto_tasks.specs.Syntax.{TaskBody, finished}
use Rattle.rig_model.specs.text.Program.{GiottoProgram, body_of}
use Rattle.rig_model.specs.rules.Declarations.{task_named}
use Rattle.rig_model.specs.Row.{ActiveTask, Row}
use Rattle.tenant_jobs.specs.Jobs.{JobValue}
use Rattle.rig_model.specs.Jobs.{job_of}

-- the body of a program's task, or an empty one if there is no such task
abbrev pub body_in : GiottoProgram → Name → TaskBody
body_in p x = option_map_or body_of (task_named p x) (record { inputs = []; outputs = []; states = []; block = finished })

-- the job of an active task, for the program that released it
abbrev pub job_in : GiottoProgram → ℕ → ActiveTask → JobValue
job_in p t a = record { id = job_of t a; body = body_in p a.task; inputs = a.inputs; states = a.states }

-- the jobs that the instant of number n released, given the row after it
abbrev pub released_at : ℕ → ℕ → Row → List JobValue
released_at t n row = option_map_or (λ p. map (job_in p t) (filter (λ (a : ActiveTask). a.release == n) row.active)) row.program []
