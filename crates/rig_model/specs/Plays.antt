-- The answers to a list of events that is played on a new host, whole or only the kept part. The events are in their order, the oldest first.
use Rattle.std.specs.Prelude.{◌≡◌, ◌<◌, ◌+◌, ℕ, true, false, List, [], reverse, take, length, slice_index_or, Bool, ◌∷◌, ◌++◌, slice_get, Some}
use Rattle.rig_model.specs.declared.events.Event.{Event}
use Rattle.rig_model.specs.Answers.{answers_of}
use Rattle.rig_model.specs.Base.{new_base, Setting}
use Rattle.rig_model.specs.Legal.{is_legal}
use Rattle.tenant_lines.specs.config.Roster.{Rig}
use Rattle.rig_model.specs.Sources.{kept_of, sources_of, stays}

-- the setting of a new host of this configuration, whose first instant is 0
pub record IsSettingOf (config : Rig) (setting : Setting) : Type 0 where
  pub same_config : setting.config ≡ config
  pub new : setting.base ≡ new_base config 0

-- the events are legal, and each tenant's text, by its place, is its answers
pub record AreAnswers (setting : Setting) (events : List Event) (texts : List (List ℕ)) : Type 0 where
  pub legal : is_legal setting (reverse events) ≡ true
  pub as_many : length texts ≡ length setting.config.tenants
  pub each : (t : ℕ) → t < length setting.config.tenants → slice_index_or texts t [] ≡ answers_of setting (reverse events) t

-- the events before this place are legal, but not together with the event there
pub record IsLeastIllegal (setting : Setting) (events : List Event) (place : ℕ) : Type 0 where
  pub within : place < length events
  pub legal_before : is_legal setting (reverse (take place events)) ≡ true
  pub illegal_with : is_legal setting (reverse (take (place + 1) events)) ≡ false

-- The events are legal. `whole` is the answers to the tenant at place t over all events, and `kept` those over the events that are kept for
-- it. There is a mark for each event, which is set if the event stays among the sources after it.
pub record IsTrial (setting : Setting) (events : List Event) (t : ℕ) (whole kept : List ℕ) (marks : List Bool) : Type 0 where
  pub legal : is_legal setting (reverse events) ≡ true
  pub of_whole : whole ≡ answers_of setting (reverse events) t
  pub of_kept : kept ≡ answers_of setting (kept_of setting (reverse events) t) t
  pub as_many : length marks ≡ length events
  pub each : (later past : List Event) (e : Event) → reverse events ≡ later ++ e ∷ past
      → slice_get marks (length past) ≡ Some (stays (sources_of setting t later (e ∷ past)) e)
