-- The one-tenant machine, and each tenant's view of what happens to all tenants. Lists have the newest first.
use Rattle.std.specs.Prelude.{ℕ, Bool, ◌==◌, if◌then◌else◌, ℤ, List, [], ◌∷◌}
use Rattle.rig_model.specs.declared.events.Event.{Event}
use Rattle.rig_model.specs.declared.events.Event.TheVariants.{Own, Tick, Done}
use Rattle.rig_model.specs.declared.jobs.JobId.{JobId}
use Rattle.tenant_lines.specs.declared.commands.Command.{Command}
use Rattle.tenant_lines.specs.config.Roster.{budgets_at}
use Rattle.rig_model.specs.Row.{Row}
use Rattle.rig_model.specs.Commands.{CommandOutcome, commanded}
use Rattle.rig_model.specs.Instants.{LocalInstant, after_instant, local_instant}
use Rattle.rig_model.specs.Completions.{has_completion}
use Rattle.rig_model.specs.HostState.{row_at}
use Rattle.rig_model.specs.Base.{Setting}
use Rattle.rig_model.specs.Tenancies.{roster_of, tenancy_at}

pub data LocalEvent : Type 0 where
  command : Command → LocalEvent
  instant : LocalInstant → LocalEvent

module _ (setting : Setting) where
  -- the step of a command of the tenant at place t: its row after it, and its reply
  abbrev pub after_command : ℕ → Command → Row → CommandOutcome
  after_command t c row = commanded (tenancy_at setting.config t) c row

  -- the one-tenant machine: the row after the tenant's own events, beginning with that of the base
  abbrev pub run_of : ℕ → List LocalEvent → Row
  run_of t [] = row_at setting.base t
  run_of t (command c ∷ past) = (after_command t c (run_of t past)).row
  run_of t (instant i ∷ past) = after_instant i (run_of t past)

  -- what an instant is for the tenant at place t, given the rows before it
  abbrev pub instant_for : (ℕ → Row) → (JobId → Bool) → List ℤ → ℕ → LocalInstant
  instant_for rows completed frame t = local_instant (roster_of setting.config) (budgets_at setting.config t).reads rows completed frame t

  -- A tenant's view: its own commands, and for each instant the values of its lines, its due tasks that were not completed, and the
  -- values granted to it. It has nothing else of other tenants.
  abbrev pub view_of : List Event → ℕ → List LocalEvent
  view_of [] t = []
  view_of (Own u c ∷ past) t = if u == t then command c ∷ view_of past t else view_of past t
  view_of (Done j ∷ past) t = view_of past t
  view_of (Tick frame ∷ past) t =
      instant (instant_for (λ u. run_of u (view_of past u)) (has_completion setting past) frame t) ∷ view_of past t

  -- the row of the tenant at place t after these events
  abbrev pub row_of : List Event → ℕ → Row
  row_of past t = run_of t (view_of past t)
