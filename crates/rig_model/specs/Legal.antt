-- Which lists of events can happen, and which completions count.
use Rattle.std.specs.Prelude.{◌≡◌, ℕ, ◌+◌, ◌-◌, ◌^◌, nat_lt, Bool, true, not, ◌&&◌, ◌||◌, ◌==◌, List, [], ◌∷◌, length}
use Rattle.rig_model.specs.declared.events.Event.{Event}
use Rattle.rig_model.specs.declared.events.Event.TheVariants.{Own, Tick, Done}
use Rattle.rig_model.specs.declared.jobs.JobId.{JobId}
use Rattle.tenant_lines.specs.config.Roster.{is_tenant}
use Rattle.rig_model.specs.Base.{IsBase, Setting}
use Rattle.rig_model.specs.Completions.{has_completion}
use Rattle.rig_model.specs.Jobs.{is_active}
use Rattle.rig_model.specs.HostState.{row_at}
use Rattle.rig_model.specs.Views.{row_of}

module _ (setting : Setting) where
  -- the number of the next instant
  abbrev pub next_tick : List Event → ℕ
  next_tick [] = setting.base.clock
  next_tick (Own t c ∷ past) = next_tick past
  next_tick (Tick frame ∷ past) = next_tick past + 1
  next_tick (Done j ∷ past) = next_tick past

  -- the job was active in the base or after some event of the list, which is so exactly from its release on
  abbrev pub was_released : List Event → JobId → Bool
  was_released [] j = is_active (row_at setting.base j.tenant) j
  was_released (e ∷ past) j = is_active (row_of setting (e ∷ past) j.tenant) j || was_released past j

  -- this event may come next: a command of a tenant of the roster, a frame with a value for each line at a tick below the greatest, or the
  -- completion of a job that was released
  abbrev pub may_follow : List Event → Event → Bool
  may_follow past (Own t c) = is_tenant setting.config t
  may_follow past (Tick frame) = length frame == setting.config.lines && nat_lt (next_tick past) (2 ^ 64 - 1)
  may_follow past (Done j) = was_released past j

  abbrev pub is_legal : List Event → Bool
  is_legal [] = true
  is_legal (e ∷ past) = may_follow past e && is_legal past

  -- A completion counts if its task is active with its release, and no completion of the job came before. In a legal list the second condition
  -- says that no earlier completion of the job counted, since a task that is active now has been active ever since its release.
  -- An event carries only the job's name. Its body, inputs and states are compared with those of `awaited_in`.
  abbrev pub counts : List Event → JobId → Bool
  counts past j = is_active (row_of setting past j.tenant) j && not (has_completion setting past j)

-- a list of events that can happen after its base
pub record IsHistory (setting : Setting) (past : List Event) : Type 0 where
  pub base : IsBase setting.config setting.base
  pub legal : is_legal setting past ≡ true
