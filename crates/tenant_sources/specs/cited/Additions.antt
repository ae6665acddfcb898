-- The links that a tick adds to a table, as the code adds them.
use Rattle.std.specs.Prelude.{◌<◌, ℕ, if◌then◌else◌, ℤ, List, [], ◌∷◌, length, is_some, slice_index_or, slice_set, Some}
use Rattle.rig_model.specs.declared.events.Event.{Event}
use Rattle.rig_model.specs.declared.events.Event.TheVariants.{Tick}
use Rattle.tenant_sources.specs.declared.tables.Addition.{Addition}
use Rattle.rig_model.specs.Host.{host_after}
use Rattle.host_core.specs.HostStanding.{HostStanding, Stands}
use Rattle.rig_model.specs.Legal.{IsHistory}
use Rattle.rig_model.specs.Base.{Setting}
use Rattle.tenant_sources.specs.Links.{Links, link_in, IsLinkTable}

-- the table has a place for this addition
abbrev pub IsPlaceOf : Links → Addition → Type 0
IsPlaceOf links a = (a.tenant < length links) × (a.source < length links)

-- the table with this link, unless there is already one in its place
abbrev pub with_link : Links → Addition → Links
with_link links a = if is_some (link_in links a.tenant a.source) then links else slice_set links a.tenant (slice_set (slice_index_or links a.tenant []) a.source (Some a.link))

abbrev pub with_links : Links → List Addition → Links
with_links links [] = links
with_links links (a ∷ rest) = with_links (with_link links a) rest

-- These links are what an instant adds, if it comes next: the table with them is the table after the instant.
abbrev pub AreAdded : Links → HostStanding → List Addition → Type 0
AreAdded links host added = (setting : Setting) (past : List Event) (frame : List ℤ) → IsHistory setting past → Stands setting host (host_after setting past)
    → IsLinkTable setting past links → IsLinkTable setting (Tick frame ∷ past) (with_links links added)
