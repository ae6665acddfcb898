use Rattle.std.proofs.Common.{◌≡◌, ℕ, List, [], length}
use Rattle.std.specs.List.{All}
use Rattle.host_core.proofs.plays.blank_texts.Given as goal

abbrev pub invariant-loop-place : goal.invariant-loop-place
invariant-loop-place l = record {
  as_many : length l.texts.items ≡ l._place;
  blank : All (λ (text : List ℕ). text ≡ []) l.texts.items;
}
