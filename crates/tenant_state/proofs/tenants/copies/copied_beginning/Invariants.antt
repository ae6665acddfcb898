use Rattle.std.proofs.Common.{◌≡◌, map, take}
use Rattle.std.specs.Arc.{arc_value}
use Rattle.std.specs.Option.{option_map}
use Rattle.tenant_state.proofs.tenants.copies.copied_beginning.Given as goal

abbrev pub invariant-loop-share : goal.invariant-loop-share
invariant-loop-share l = map (option_map arc_value) l.copies.items ≡ take l.share-index (map (option_map arc_value) l.shares)
