-- What is known of the table of active tasks, and of jobs with an entry.
use Rattle.std.specs.Prelude.{◌≤◌, ℕ, ℤ, Bool, List, Option, Some, is_some, not, ◌||◌, if◌then◌else◌, count_by}
use Rattle.std.specs.List.{list_all}
use Rattle.giotto_tasks.specs.Meaning.{outputs_of, states_of}
use Rattle.giotto_tasks.specs.Syntax.{TaskBody}
use Rattle.rig_model.specs.declared.jobs.JobId.{JobId}
use Rattle.tenant_jobs.specs.declared.jobs.JobResult.{JobResult}
use Rattle.tenant_jobs.specs.Finished.{TableEntry, entry_in, has_result}
use Rattle.tenant_jobs.specs.Jobs.{JobValue}
use Rattle.rig_model.specs.Jobs.{same_job}

-- the result of a body's computation, from these inputs and states
abbrev pub computed : TaskBody → List ℤ → List ℤ → JobResult
computed body inputs states = record { outputs = outputs_of body inputs states; states = states_of body inputs states }

-- the result of a job, which is that of its computation
abbrev pub result_of : JobValue → JobResult
result_of j = computed j.body j.inputs j.states

-- the entry of this name after a change: with this result if it is put in, else as before
abbrev pub entry_put : Bool → JobId → Option JobResult → List TableEntry → Option TableEntry
entry_put put j result entries = if put then Some (record { id = j; result = result }) else entry_in entries j

-- whether there is an entry of this name
abbrev pub is_entered : List TableEntry → JobId → Bool
is_entered entries j = is_some (entry_in entries j)

-- how many results came
abbrev pub result_count : List TableEntry → ℕ
result_count entries = count_by (λ e. is_some e.result) entries

-- whether the result of each entry came
abbrev pub is_complete : List TableEntry → Bool
is_complete entries = list_all (λ e. is_some e.result) entries

-- whether the result of the entry, if it came, came in the table too
abbrev pub is_included : List TableEntry → TableEntry → Bool
is_included entries e = not (is_some e.result) || has_result entries e.id

-- no two entries have the same name
abbrev pub NamesDiffer : List TableEntry → Type 0
NamesDiffer entries = (j : JobId) → count_by (λ e. same_job e.id j) entries ≤ 1
