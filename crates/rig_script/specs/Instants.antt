-- Whether a line gave an instant.
use Rattle.std.specs.Prelude.{Bool, true, false, List, [], ◌∷◌}
use Rattle.rig_model.specs.declared.events.Event.{Event}
use Rattle.rig_model.specs.declared.events.Event.TheVariants.{Own, Tick, Done}

-- whether the events of a line, the oldest first, are an instant
abbrev pub is_instant : List Event → Bool
is_instant [] = false
is_instant (Own t c ∷ events) = false
is_instant (Tick frame ∷ events) = true
is_instant (Done job ∷ events) = false
