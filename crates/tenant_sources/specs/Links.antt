-- The binds that give tenants their sources, and a table of them. Lists of events have the newest first.
use Rattle.std.specs.Prelude.{◌≡◌, ◌==◌, ◌||◌, ◌<◌, ℕ, Bool, is_some, if◌then◌else◌, List, [], ◌∷◌, length, slice_index_or, Option, Some, None, option_map}
use Rattle.std.specs.List.{filter_map, find}
use Rattle.giotto_tasks.specs.declared.names.Name.{Name}
use Rattle.rig_model.specs.declared.events.Event.{Event}
use Rattle.rig_model.specs.declared.events.Event.TheVariants.{Own, Tick, Done}
use Rattle.tenant_sources.specs.declared.tables.Link.{Link}
use Rattle.rig_model.specs.grants.Grants.{with_place}
use Rattle.rig_model.specs.Row.{Row}
use Rattle.rig_model.specs.Legal.{next_tick}
use Rattle.rig_model.specs.Base.{Setting}
use Rattle.rig_model.specs.Sources.{is_source, sources_of}
use Rattle.rig_model.specs.Tenancies.{roster_of}
use Rattle.rig_model.specs.Views.{row_of}

-- a bind at this tick: its sensor, its supplier's place, and the supplier's actuator
abbrev pub link_at : ℕ → Name × ℕ × Name → Link
link_at tick b = record { tick = tick; sensor = b.0; supplier = b.1; actuator = b.2 }

-- a table of links: for each tenant a row, with a place for each source
abbrev pub Links : Type 0
Links = List (List (Option Link))

abbrev pub link_in : Links → ℕ → ℕ → Option Link
link_in links t u = slice_index_or (slice_index_or links t []) u None

-- u is a source of t by its links; each tenant is its own source
abbrev pub has_source : Links → ℕ → ℕ → Bool
has_source links t u = t == u || is_some (link_in links t u)

module _ (setting : Setting) where
  -- The tenant at place u is a source of t somewhere in this list. It is then one at its beginning, since a source at one place is a source
  -- at each earlier place.
  abbrev pub is_source_of : List Event → ℕ → ℕ → Bool
  is_source_of past t u = is_source (sources_of setting t past []) u

  -- a tenant's binds, in their order, with the places of their suppliers
  abbrev pub placed_binds : Row → List (Name × ℕ × Name)
  placed_binds row = filter_map (with_place (roster_of setting.config)) row.binds

  -- The first link from t to u, at the first tick after which u is a source of t. It is the first of t's binds just before that tick whose
  -- supplier has u as a source there.
  abbrev pub first_link : List Event → ℕ → ℕ → Option Link
  first_link [] t u = None
  first_link (Own v c ∷ past) t u = first_link past t u
  first_link (Done j ∷ past) t u = first_link past t u
  first_link (Tick frame ∷ past) t u =
      if is_source_of past t u then first_link past t u
      else option_map (link_at (next_tick setting past)) (find (λ (b : Name × ℕ × Name). is_source_of past b.1 u) (placed_binds (row_of setting past t)))

  -- A chain of links from t to u, at ticks before this one. It is empty if t is u. Else it is the first link from t to u, and then a chain
  -- from that link's supplier to u at ticks before the link's own.
  abbrev pub IsChain : List Event → ℕ → ℕ → ℕ → List Link → Type 0
  IsChain past tick t u [] = t ≡ u
  IsChain past tick t u (link ∷ rest) = (first_link past t u ≡ Some link) × (link.tick < tick) × IsChain past link.tick link.supplier u rest

-- a table of the first link from each tenant to each other tenant that is its source
pub record IsLinkTable (setting : Setting) (past : List Event) (links : Links) : Type 0 where
  pub as_many : length links ≡ length setting.config.tenants
  pub each : (t u : ℕ) → t < length setting.config.tenants → u < length setting.config.tenants → link_in links t u ≡ first_link setting past t u
