-- The links between the tenants after the lines of a script so far, those that the next instant adds, and the lines that gave the ticks.
use Rattle.std.specs.Prelude.{◌≡◌, ℕ, if◌then◌else◌, ℤ, List, [], ◌∷◌}
use Rattle.tenant_sources.specs.Links.{IsLinkTable, Links}
use Rattle.tenant_sources.specs.cited.Additions.{with_links}
use Rattle.tenant_sources.specs.declared.tables.Addition.{Addition}
use Rattle.rig_model.specs.Base.{Setting}
use Rattle.rig_model.specs.declared.events.Event.{Event}
use Rattle.rig_model.specs.declared.events.Event.TheVariants.{Tick}
use Rattle.rig_retests.specs.Ticks.{tick_lines_from}
use Rattle.rig_script.specs.Instants.{is_instant}
use Rattle.rig_script.specs.cited.Past.{past_of}

-- the table is that of the events of the lines of these texts, with the additions it is that of one more instant, and these lines gave the ticks
abbrev pub IsWatching : Setting → Links → List Addition → List ℕ → List (List ℕ) → Type 0
IsWatching setting links added lines texts =
    IsLinkTable setting (past_of setting texts) links × ((frame : List ℤ) → IsLinkTable setting (Tick frame ∷ past_of setting texts) (with_links links added))
    × (lines ≡ tick_lines_from setting [] 0 texts)

-- the table after a line with these events, if these are the additions of an instant
abbrev pub table_behind : List Event → Links → List Addition → Links
table_behind events links added = if is_instant events then with_links links added else links
