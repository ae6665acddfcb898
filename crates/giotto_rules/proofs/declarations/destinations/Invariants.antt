use Rattle.std.proofs.Common.{◌≡◌, map, take}
use Rattle.giotto_tasks.specs.declared.names.Name.{Name}
use Rattle.giotto_tasks.specs.Syntax.{Expression}
use Rattle.giotto_text.specs.ProgramTrees.{destination_of}
use Rattle.giotto_rules.proofs.declarations.destinations.Given as goal

abbrev pub invariant-loop-destination : goal.invariant-loop-destination
invariant-loop-destination l = l.names.items ≡ map (λ (d : Name × Expression). d.0) (map destination_of (take l.destination-index l.destination-items))
