-- An output to which nothing is written.
use Rattle.std.proofs.Common.{ℕ, sym, ◌∙◌, List, [], Option, None, Some}
use Rattle.std.proofs.lemmas.List.{append-nil}
use Rattle.std.specs.Io.KnownBytes.{Appends, Keeps}

pub nothing_written : (old new : Option (List ℕ)) → Keeps old new → Appends old new []
nothing_written None new kept = tt
nothing_written (Some xs) None kept = absurd kept
nothing_written (Some xs) (Some ys) kept = kept ∙ sym (append-nil xs)

pub as_it_was : (known : Option (List ℕ)) → Appends known known []
as_it_was None = tt
as_it_was (Some xs) = sym (append-nil xs)
