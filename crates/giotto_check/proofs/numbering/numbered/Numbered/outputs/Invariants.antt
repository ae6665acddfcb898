use Rattle.std.proofs.Common.{◌≡◌, None, Some, map, take}
use Rattle.giotto_rules.specs.Ports.{slot_of}
use Rattle.giotto_check.proofs.numbering.numbered.Numbered.outputs.Given as goal

abbrev pub invariant-loop-name : goal.invariant-loop-name
invariant-loop-name l = map (slot_of l.self None) (take l.name-index l.names) ≡ map Some l.slots.items
