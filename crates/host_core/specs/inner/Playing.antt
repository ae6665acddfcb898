-- What is known after a list of events was played.
use Rattle.std.specs.Prelude.{◌≡◌, ◌<◌, ⊤, ℕ, true, List, [], ◌∷◌, length, slice_index_or, None}
use Rattle.std.specs.List.{list_any}
use Rattle.rig_model.specs.declared.events.Event.{Event}
use Rattle.rig_model.specs.declared.events.Event.TheVariants.{Own, Tick, Done}
use Rattle.host_core.specs.declared.plays.Stage.{Stage}
use Rattle.rig_model.specs.declared.jobs.JobId.{JobId}
use Rattle.rig_model.specs.Answers.{answers_of}
use Rattle.rig_model.specs.Base.{IsBase, Setting}
use Rattle.rig_model.specs.Host.{host_after}
use Rattle.host_core.specs.HostStanding.{HostStanding, Stands, awaited_in}
use Rattle.rig_model.specs.Legal.{may_follow, was_released, is_legal}
use Rattle.rig_model.specs.Jobs.{same_job}
use Rattle.rig_model.specs.config.Roster.{Rig}

-- The host, each tenant's text and the names of the released jobs are those after these events, which have the newest first.
pub record IsPlayed (setting : Setting) (past : List Event) (host : HostStanding) (texts : List (List ℕ)) (released : List JobId) : Type 0 where
  pub base : IsBase setting.config setting.base
  pub legal : is_legal setting past ≡ true
  pub stands : Stands setting host (host_after setting past)
  pub as_many : length texts ≡ length setting.config.tenants
  pub each : (t : ℕ) → t < length setting.config.tenants → slice_index_or texts t [] ≡ answers_of setting past t
  pub names : (j : JobId) → list_any (λ r. same_job r j) released ≡ was_released setting past j

-- a stage on which these events were played
abbrev pub IsStage : Setting → List Event → Stage → Type 0
IsStage setting past stage = IsPlayed setting past stage.host stage.texts.items stage.released.keys

-- one more event is played, if it may come
abbrev pub IsPlayedOn : Event → Stage → Stage → Type 0
IsPlayedOn e before after = (setting : Setting) (past : List Event) → may_follow setting past e ≡ true → IsStage setting past before → IsStage setting (e ∷ past) after

-- the completion of a job that the host doesn't await
abbrev pub IsLate : Event → HostStanding → Type 0
IsLate (Own t c) host = ⊥
IsLate (Tick frame) host = ⊥
IsLate (Done j) host = awaited_in host j ≡ None

-- a command's tenant is one of the host, and has a text
abbrev pub HasPlace : Event → Rig → List (List ℕ) → Type 0
HasPlace (Own t c) config texts = (t < length config.tenants) × (t < length texts)
HasPlace (Tick frame) config texts = ⊤
HasPlace (Done j) config texts = ⊤
