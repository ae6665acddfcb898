-- The tenants that a tenant's answers can depend on, and the part of a list of events that is kept for it. Lists of events have the newest
-- first. A set of tenants is a list of their places, in any order.
use Rattle.std.specs.Prelude.{ℕ, Bool, true, false, not, ◌==◌, if◌then◌else◌, List, [], ◌∷◌, ◌++◌, filter}
use Rattle.std.specs.List.{list_any, filter_map, flat_map}
use Rattle.rig_model.specs.declared.events.Event.{Event}
use Rattle.rig_model.specs.declared.events.Event.TheVariants.{Own, Tick, Done}
use Rattle.tenant_lines.specs.grants.Grants.{place_in}
use Rattle.tenant_lines.specs.declared.grants.rows.Bind.{Bind}
use Rattle.rig_model.specs.Row.{Row}
use Rattle.rig_model.specs.Base.{Setting}
use Rattle.rig_model.specs.Tenancies.{roster_of}
use Rattle.rig_model.specs.Views.{row_of}

-- the tenant at place u is one of these
abbrev pub is_source : List ℕ → ℕ → Bool
is_source sources u = list_any (λ t. t == u) sources

-- an event stays if it is a tick, or if its tenant is one of these
abbrev pub stays : List ℕ → Event → Bool
stays sources (Own t c) = is_source sources t
stays sources (Done j) = is_source sources j.tenant
stays sources (Tick frame) = true

-- the event is a command or a completion of the tenant at place t
abbrev pub is_of : ℕ → Event → Bool
is_of t (Own u c) = u == t
is_of t (Done j) = j.tenant == t
is_of t (Tick frame) = false

-- a list without the commands and completions of one tenant
abbrev pub without_tenant : ℕ → List Event → List Event
without_tenant t past = filter (λ e. not (is_of t e)) past

module _ (setting : Setting) where
  -- the suppliers of a tenant, by its row: those that its binds name, whether they offer or not
  abbrev pub suppliers_of : Row → List ℕ
  suppliers_of row = filter_map (λ (b : Bind). place_in (roster_of setting.config) b.tenant) row.binds

  -- The sources before an event, by those after it. Before a tick they are these, and the suppliers that each of them has just before the
  -- tick. Before any other event they are the same. `past` is the events before this event.
  abbrev pub sources_before : Event → List Event → List ℕ → List ℕ
  sources_before (Own t c) past sources = sources
  sources_before (Done j) past sources = sources
  sources_before (Tick frame) past sources = sources ++ flat_map (λ t. suppliers_of (row_of setting past t)) sources

  -- the sources between `past` and the later events, if these are the sources at the end
  abbrev pub sources_from : List ℕ → List Event → List Event → List ℕ
  sources_from sources [] past = sources
  sources_from sources (e ∷ later) past = sources_from (sources_before e (later ++ past) sources) later past

  -- the sources of a tenant between `past` and the later events: at the end the tenant is its only source
  abbrev pub sources_of : ℕ → List Event → List Event → List ℕ
  sources_of t later past = sources_from (t ∷ []) later past

  -- the kept part of a list, if these are the sources at its end
  abbrev pub kept_from : List ℕ → List Event → List Event
  kept_from sources [] = []
  kept_from sources (e ∷ past) = if stays sources e then e ∷ kept_from (sources_before e past sources) past else kept_from (sources_before e past sources) past

  -- the part of a list that is kept for a tenant: all ticks, and the commands and completions of each tenant that is its source after them
  abbrev pub kept_of : List Event → ℕ → List Event
  kept_of past t = kept_from (t ∷ []) past
