-- The table of the active tasks of all tenants, with the results that came.
use Rattle.std.specs.Prelude.{ℕ, Bool, List, Option, is_some, option_and_then, find}
use Rattle.rig_model.specs.declared.jobs.JobId.{JobId}
use Rattle.tenant_jobs.specs.declared.jobs.JobResult.{JobResult}
use Rattle.rig_model.specs.Jobs.{same_job}

-- an active task: the name of its job, and the job's result, if it came
pub record TableEntry : Type 0 where
  pub id : JobId
  pub result : Option JobResult

-- the active tasks
pub record TaskTable : Type 0 where
  pub entries : List TableEntry
  -- how many more entries fit
  pub room : ℕ

-- the entry of this name, if there is one
abbrev pub entry_in : List TableEntry → JobId → Option TableEntry
entry_in entries j = find (λ e. same_job e.id j) entries

-- the result of this name, if it came
abbrev pub result_in : List TableEntry → JobId → Option JobResult
result_in entries j = option_and_then (λ e. e.result) (entry_in entries j)

-- whether the result of this name came
abbrev pub has_result : List TableEntry → JobId → Bool
has_result entries j = is_some (result_in entries j)
