-- The call that a place keeps.
use Rattle.std.specs.Arc.{arc_value}
use Rattle.std.specs.Box.{box_value}
use Rattle.rig_model.specs.declared.logged.Call.{Call}
use Rattle.rig_model.specs.declared.logged.Place.{Place}
use Rattle.rig_model.specs.declared.logged.Place.TheVariants.{Shared, Own}

-- the call in a shared place, or in a private one
abbrev pub call_in : Place → Call
call_in (Shared call) = arc_value call
call_in (Own call) = box_value call
