use Rattle.std.proofs.Common.{◌≡◌, take, string_bytes}
use Rattle.std.specs.List.{flat_map}
use Rattle.config_checks.specs.Copies.{escaped}
use Rattle.config_checks.proofs.copies.in_quotes.Given as goal

abbrev pub invariant-loop-character : goal.invariant-loop-character
invariant-loop-character l = string_bytes l.inner ≡ flat_map escaped (take l.character-index l.characters)
