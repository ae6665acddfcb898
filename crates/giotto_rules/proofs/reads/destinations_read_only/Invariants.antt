use Rattle.std.proofs.Common.{◌≡◌, drop, map}
use Rattle.giotto_text.specs.ProgramTrees.{destination_of}
use Rattle.giotto_rules.specs.Names.{are_among}
use Rattle.giotto_rules.specs.Reads.{names_in_destinations}
use Rattle.giotto_rules.proofs.reads.destinations_read_only.Given as goal

abbrev pub invariant-loop-destination : goal.invariant-loop-destination
invariant-loop-destination l =
    are_among l.names (names_in_destinations (map destination_of (drop l.destination-index l.destinations)))
    ≡ are_among l.names (names_in_destinations (map destination_of l.destinations))
