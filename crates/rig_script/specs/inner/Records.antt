-- The events that a recorder receives.
use Rattle.std.specs.Prelude.{List, ◌++◌}
use Rattle.rig_model.specs.declared.events.Event.{Event}

-- whatever events were recorded before, these were recorded after them
abbrev pub IsRecorded : (List Event → Type 0) → (List Event → Type 0) → List Event → Type 0
IsRecorded Before After more = (events : List Event) → Before events → After (events ++ more)
