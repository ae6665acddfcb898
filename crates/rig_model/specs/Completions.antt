-- The completions of a history.
use Rattle.std.specs.Prelude.{Bool, ◌||◌, List, [], ◌∷◌, ◌++◌, map, reverse}
use Rattle.rig_model.specs.declared.events.Event.{Event}
use Rattle.rig_model.specs.declared.events.Event.TheVariants.{Own, Tick, Done}
use Rattle.rig_model.specs.declared.jobs.JobId.{JobId}
use Rattle.rig_model.specs.Jobs.{same_job}
use Rattle.rig_model.specs.HostState.{is_counted}
use Rattle.rig_model.specs.Base.{Setting}

-- these events, the newest first, followed in time by the completions of these jobs, in the jobs' order
abbrev pub with_completions : List JobId → List Event → List Event
with_completions jobs past = reverse (map Done jobs) ++ past

module _ (setting : Setting) where
  -- the job has a completion among the events, or the base counts it
  abbrev pub has_completion : List Event → JobId → Bool
  has_completion [] j = is_counted setting.base j
  has_completion (Own t c ∷ past) j = has_completion past j
  has_completion (Tick frame ∷ past) j = has_completion past j
  has_completion (Done i ∷ past) j = same_job i j || has_completion past j
