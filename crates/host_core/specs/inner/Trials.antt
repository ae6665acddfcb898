-- What is known after a trial. A list of events that is named `past` has the newest first, and so have the notes of its events.
use Rattle.std.specs.Prelude.{◌≡◌, ◌+◌, ⊤, ℕ, Bool, ◌==◌, ◌&&◌, ◌||◌, if◌then◌else◌, List, [], ◌∷◌, length, reverse}
use Rattle.std.specs.List.{list_any}
use Rattle.host_core.specs.HostStanding.{HostStanding, ForEachState}
use Rattle.rig_model.specs.HostState.{row_at}
use Rattle.rig_model.specs.Base.{Setting}
use Rattle.rig_model.specs.Sources.{is_source, kept_of, sources_before, stays, suppliers_of}
use Rattle.rig_model.specs.declared.events.Event.{Event}
use Rattle.rig_model.specs.declared.events.Event.TheVariants.{Own, Tick, Done}
use Rattle.host_core.specs.declared.plays.Stage.{Stage}
use Rattle.host_core.specs.declared.trials.Flow.{Flow}
use Rattle.host_core.specs.inner.Playing.{IsStage}
use Rattle.rig_model.specs.Row.{Row}

-- one of these flows is from the tenant at place u to that at place t
abbrev pub has_flow : List Flow → ℕ → ℕ → Bool
has_flow flows t u = list_any (λ (f : Flow). t == f.consumer && f.supplier == u) flows

-- these flows are the binds in these rows
abbrev pub AreFlows : Setting → (ℕ → Row) → List Flow → Type 0
AreFlows setting rows flows = (t u : ℕ) → has_flow flows t u ≡ is_source (suppliers_of setting (rows t)) u

-- before an instant these are the host's flows; before any other event there are none
abbrev pub AreFlowsBefore : Event → HostStanding → List Flow → Type 0
AreFlowsBefore (Tick frame) host flows = ForEachState host (λ setting state. AreFlows setting (row_at state) flows)
AreFlowsBefore (Own t c) host flows = flows ≡ []
AreFlowsBefore (Done j) host flows = flows ≡ []

-- the tenant at place u is one of these sources, or one of these flows is from it to one of them
abbrev pub is_reached : List ℕ → List Flow → ℕ → Bool
is_reached sources flows u = is_source sources u || list_any (λ (f : Flow). is_source sources f.consumer && f.supplier == u) flows

-- these flows lead from the sources after an event to those before it
abbrev pub LeadBack : Setting → Event → List Event → List Flow → Type 0
LeadBack setting e past flows = (sources : List ℕ) (u : ℕ) → is_reached sources flows u ≡ is_source (sources_before setting e past sources) u

-- the same for each event of a list
abbrev pub AllLeadBack : Setting → List Event → List (List Flow) → Type 0
AllLeadBack setting [] noted = ⊤
AllLeadBack setting (e ∷ past) [] = ⊥
AllLeadBack setting (e ∷ past) (flows ∷ noted) = LeadBack setting e past flows × AllLeadBack setting past noted

-- one more event is noted, which comes next on a stage; the notes have the oldest first
pub record IsNoted (e : Event) (stage : Stage) (before after : List (List Flow)) : Type 0 where
  pub as_many : length after ≡ length before + 1
  pub lead_back : (setting : Setting) (past : List Event) → IsStage setting past stage → AllLeadBack setting past (reverse before) → AllLeadBack setting (e ∷ past) (reverse after)

module _ (setting : Setting) where
  -- for each event, whether it stays, if these are the sources at the end
  abbrev pub marks_from : List ℕ → List Event → List Bool
  marks_from sources [] = []
  marks_from sources (e ∷ past) = stays sources e ∷ marks_from (sources_before setting e past sources) past

-- the events whose mark is set
abbrev pub marked : List Event → List Bool → List Event
marked [] marks = []
marked (e ∷ es) [] = []
marked (e ∷ es) (m ∷ marks) = if m then e ∷ marked es marks else marked es marks

-- the stages on which a list, the oldest first, and its kept list were played, and the marks of the list's events
pub record AreBoth (setting : Setting) (events : List Event) (t : ℕ) (whole kept : Stage) (marks : List Bool) : Type 0 where
  pub of_whole : IsStage setting (reverse events) whole
  pub of_kept : IsStage setting (kept_of setting (reverse events) t) kept
  pub are_marks : marks ≡ reverse (marks_from setting (t ∷ []) (reverse events))
