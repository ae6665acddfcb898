-- The notes about the lines of a script.
use Rattle.std.specs.Prelude.{◌≡◌, ℕ, ◌-◌, ◌^◌, min, Bool, List, length}
use Rattle.rig_model.specs.Base.{Setting}
use Rattle.rig_model.specs.declared.events.Event.{Event}
use Rattle.rig_script.specs.Courses.{IsQuiet, has_tenant_in}

-- The number of these lines, all of which were answered, and whether one of them is a tenant's. If none is, none of the events after
-- them is a tenant's command.
abbrev pub IsNoted : Setting → ℕ → Bool → List (List ℕ) → List Event → Type 0
IsNoted setting answered has_tenant texts past =
    (answered ≡ min (length texts) (2 ^ 64 - 1)) × (has_tenant ≡ has_tenant_in setting.config texts) × IsQuiet has_tenant past
