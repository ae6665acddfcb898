-- The names of jobs, and the jobs of a tenant's active tasks.
use Rattle.std.specs.Prelude.{Bool, ◌&&◌, ◌==◌, ℕ, List}
use Rattle.giotto_tasks.specs.Names.{same_name}
use Rattle.rig_model.specs.declared.jobs.JobId.{JobId}
use Rattle.std.specs.List.{list_any}
use Rattle.rig_model.specs.Row.{ActiveTask, Row}

-- whether two names are of one job: tenant, release and task are equal
abbrev pub same_job : JobId → JobId → Bool
same_job i j = i.tenant == j.tenant && i.tick == j.tick && same_name i.task j.task

-- the job of an active task of the tenant at place t
abbrev pub job_of : ℕ → ActiveTask → JobId
job_of t a = record { tenant = t; tick = a.release; task = a.task }

-- one of these tasks of the tenant at place t has the job of this name
abbrev pub has_job : ℕ → List ActiveTask → JobId → Bool
has_job t tasks j = list_any (λ (a : ActiveTask). same_job (job_of t a) j) tasks

-- in this row of the job's tenant, the job's task is active with the job's release
abbrev pub is_active : Row → JobId → Bool
is_active row j = has_job j.tenant row.active j
