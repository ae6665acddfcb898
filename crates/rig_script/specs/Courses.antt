-- How a script went.
use Rattle.std.specs.Prelude.{◌≡◌, ℕ, Bool, true, false, List, Option}
use Rattle.std.specs.List.{list_any}
use Rattle.rig_model.specs.config.Roster.{Rig}
use Rattle.rig_model.specs.Script.{speaker_of}
use Rattle.rig_model.specs.TextLines.{cut}
use Rattle.rig_model.specs.declared.events.Event.{Event}
use Rattle.rig_model.specs.declared.events.Event.TheVariants.{Own, Tick, Done}
use Rattle.rig_script.specs.declared.courses.Course.{Course}
use Rattle.rig_model.specs.declared.speakers.Speaker.{Speaker}
use Rattle.rig_model.specs.declared.speakers.Speaker.TheVariants.{Nobody, Operator, Tenant, Unknown}
use Rattle.rig_script.specs.Given.{IsEndOf, texts_of}

-- whether this speaker is a tenant of the configuration
abbrev pub is_tenants : Speaker → Bool
is_tenants Nobody = false
is_tenants Operator = false
is_tenants (Tenant t) = true
is_tenants Unknown = false

-- whether an event is a tenant's command
abbrev pub is_command : Event → Bool
is_command (Own t c) = true
is_command (Tick frame) = false
is_command (Done job) = false

-- whether one of these lines is of a tenant of the configuration
abbrev pub has_tenant_in : Rig → List (List ℕ) → Bool
has_tenant_in config texts = list_any (λ text. is_tenants (speaker_of config text)) texts

-- if no line of a script was a tenant's, none of its events is a tenant's command
abbrev pub IsQuiet : Bool → List Event → Type 0
IsQuiet has_tenant past = has_tenant ≡ false → list_any is_command past ≡ false

-- The course of a script of these bytes: which line ended it, if one did, and whether one of the lines before that is a tenant's. If no line
-- ended it, its reader has nothing left. If no line is a tenant's, none of the events that it spells is a tenant's command.
abbrev pub IsCourseOf : Rig → List ℕ → Option (List ℕ) → List Event → Course → Type 0
IsCourseOf config bytes left past course =
    IsEndOf bytes left course.bad_line × (course.has_tenant ≡ has_tenant_in config (texts_of (cut bytes))) × IsQuiet course.has_tenant past
