-- Whom a report on retests names.
use Rattle.std.specs.Prelude.{◌≡◌, ◌≢◌, ◌↔◌, ◌==◌, ◌&&◌, ℕ, Bool, true, not, if◌then◌else◌, is_some, List, Option, Some, None}
use Rattle.plant_couplings.specs.declared.couplings.Coupling.{Coupling}
use Rattle.plant_couplings.specs.declared.couplings.Plant.{Plant}
use Rattle.plant_laws.specs.Closed.{Reaches}
use Rattle.rig_model.specs.Base.{Setting}
use Rattle.rig_model.specs.config.Roster.{is_tenant}
use Rattle.rig_model.specs.declared.events.Event.{Event}
use Rattle.rig_retests.specs.Reached.{is_marked_in}
use Rattle.rig_retests.specs.declared.facts.Facts.{Facts}
use Rattle.tenant_sources.specs.Links.{Links, is_source_of, has_source}

-- The tenant at place t is named after a change of the one at place s: by the marks if the plant is declared, else by the links.
abbrev pub is_named_by : Plant → List (List Bool) → Links → ℕ → ℕ → Bool
is_named_by plant rows links t s = if is_some plant.couplings then is_marked_in rows t s else (not (t == s) && has_source links t s)

abbrev pub names_of : Facts → ℕ → ℕ → Bool
names_of facts t s = is_named_by facts.plant.now facts.reach.now facts.retests.now.links t s

-- The tenant at place t is named after a change of the one at place s exactly if the change can reach it, or if the plant isn't declared, exactly if
-- the second is a source of the first.
abbrev pub IsNamedRight : Setting → Plant → List Event → (ℕ → ℕ → Bool) → ℕ → ℕ → Option (List Coupling) → Type 0
IsNamedRight setting plant past names t s None = names t s ≡ is_source_of setting past t s
IsNamedRight setting plant past names t s (Some couplings) = (names t s ≡ true) ↔ Reaches setting plant past t s

abbrev pub AreNamed : Setting → Plant → List Event → (ℕ → ℕ → Bool) → Type 0
AreNamed setting plant past names = (t s : ℕ) → is_tenant setting.config t ≡ true → is_tenant setting.config s ≡ true → t ≢ s → IsNamedRight setting plant past names t s plant.couplings
