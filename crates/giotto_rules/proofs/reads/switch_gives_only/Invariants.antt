use Rattle.std.proofs.Common.{◌≡◌, drop, map}
use Rattle.giotto_tasks.specs.Syntax.{Expression}
use Rattle.giotto_tasks.specs.declared.names.Name.{Name}
use Rattle.giotto_text.specs.ProgramTrees.{destination_of}
use Rattle.giotto_rules.specs.Names.{are_among}
use Rattle.giotto_rules.proofs.reads.switch_gives_only.Given as goal

abbrev pub invariant-loop-destination : goal.invariant-loop-destination
invariant-loop-destination l =
    are_among l.names (map (λ (d : Name × Expression). d.0) (map destination_of (drop l.destination-index l.destination-items)))
    ≡ are_among l.names (map (λ (d : Name × Expression). d.0) (map destination_of l.destination-items))
