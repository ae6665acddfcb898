use Rattle.std.proofs.Common.{filter, take}
use Rattle.tenant_slots.specs.cited.Replacement.{AreCarried, is_carried}
use Rattle.tenant_slots.proofs.replacement.add_carried.Given as goal

abbrev pub invariant-loop-to : goal.invariant-loop-to
invariant-loop-to l = AreCarried l.old l.new (filter (is_carried l.old l.new) (take l.to l.ports)) l.table.items
