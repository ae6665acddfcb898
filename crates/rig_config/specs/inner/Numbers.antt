-- The numbers among a tenant's budgets.
use Rattle.std.specs.Prelude.{ℕ, Bool, ◌&&◌, List, Result, Ok}
use Rattle.toml.specs.Data.{Members}
use Rattle.rig_config.specs.Fields.{is_in_range, tenant_field}
use Rattle.rig_config.specs.Intervals.{Interval}
use Rattle.rig_config.specs.Reading.{◌>>=◌, bounds_of, lines_in, number, read}
use Rattle.rig_config.specs.declared.Budgets.{Budgets}
use Rattle.rig_config.specs.declared.faults.ConfigFault.{ConfigFault}
use Rattle.rig_config.specs.declared.faults.Field.TheVariants as field
use Rattle.rig_config.specs.declared.reading.Numbers.{Numbers}

-- the numbers of the tenant at a place, in their order
unfoldable pub numbers_of : ℕ → Members → Result Numbers ConfigFault
numbers_of t fields = do
  bytes ← number (tenant_field t field.Bytes) fields
  ports ← number (tenant_field t field.Ports) fields
  tasks ← number (tenant_field t field.Tasks) fields
  modes ← number (tenant_field t field.Modes) fields
  steps ← number (tenant_field t field.Steps) fields
  trace ← number (tenant_field t field.Trace) fields
  offers ← number (tenant_field t field.Offers) fields
  binds ← number (tenant_field t field.Binds) fields
  Ok (record { bytes = bytes; ports = ports; tasks = tasks; modes = modes; steps = steps; trace = trace; offers = offers; binds = binds })

abbrev pub are_in_range : Numbers → Bool
are_in_range n =
    is_in_range field.Bytes n.bytes && (is_in_range field.Ports n.ports && (is_in_range field.Tasks n.tasks && (is_in_range field.Modes n.modes
    && (is_in_range field.Steps n.steps && (is_in_range field.Trace n.trace && (is_in_range field.Offers n.offers && is_in_range field.Binds n.binds))))))

abbrev pub budgets_with : List ℕ → List ℕ → Numbers → Interval → Budgets
budgets_with reads writes n bounds = record { reads = reads; writes = writes; bytes = n.bytes; ports = n.ports; tasks = n.tasks; modes = n.modes; steps = n.steps; trace = n.trace; offers = n.offers; binds = n.binds; bounds = bounds }

-- the budgets of the tenant at a place, by its line sets, its numbers and its bounds
abbrev pub budgets_by_parts_of : ℕ → ℕ → ℕ → Members → Result Budgets ConfigFault
budgets_by_parts_of version lines t fields = do
  reads ← read (lines_in lines) (tenant_field t field.Reads) fields
  writes ← read (lines_in lines) (tenant_field t field.Writes) fields
  n ← numbers_of t fields
  bounds ← bounds_of version t fields
  Ok (budgets_with reads writes n bounds)
