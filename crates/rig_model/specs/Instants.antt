-- An instant of one tenant, and what an instant of all tenants is for one of them.
use Rattle.std.specs.Prelude.{List, ℕ, Bool, ℤ}
use Rattle.giotto_tasks.specs.declared.names.Name.{Name}
use Rattle.giotto_tasks.specs.Names.{Valuation}
use Rattle.rig_model.specs.FirstHalf.{first_half_of, unfinished_tasks}
use Rattle.rig_model.specs.Row.{Row}
use Rattle.rig_model.specs.SecondHalf.{second_half_of}
use Rattle.rig_model.specs.Readings.{Readings, readings_within}
use Rattle.rig_model.specs.Granted.{granted_to}
use Rattle.rig_model.specs.declared.jobs.JobId.{JobId}
use Rattle.rig_model.specs.Jobs.{job_of}

-- what an instant is for one tenant: the values of its lines, its due tasks that were not completed, and the values granted to its sensors
pub record LocalInstant : Type 0 where
  pub readings : Readings
  pub unfinished : List Name
  pub granted : Valuation

-- the row after both halves of an instant
abbrev pub after_instant : LocalInstant → Row → Row
after_instant i row = second_half_of i.readings i.granted (first_half_of i.unfinished row)

-- What an instant is for the tenant at place t, which may read these lines: their values, its due tasks that were not completed, and the
-- values granted to it. Granted values are taken after the first halves of all tenants, and before the second half of any. `rows` are the
-- rows before the instant.
abbrev pub local_instant : List Name → List ℕ → (ℕ → Row) → (JobId → Bool) → List ℤ → ℕ → LocalInstant
local_instant roster reads rows completed frame t =
    let left : ℕ → List Name = λ u. unfinished_tasks (λ a. completed (job_of u a)) (rows u) in
    record {
      readings = readings_within reads frame;
      unfinished = left t;
      granted = granted_to roster rows (λ u. first_half_of (left u) (rows u)) t;
    }
