use denote.Shadow.{shadow}
use denote.Text.{Utf8}
use Rattle.std.proofs.Common.{◌≡◌, length}
use Rattle.run_comparisons.specs.Alike.{have_alike_words}
use Rattle.run_comparisons.proofs.alike.have_alike_words.Given as goal

abbrev pub invariant-loop-word : goal.invariant-loop-word
invariant-loop-word l = record {
  text : shadow (Utf8 l.rest);
  other_text : shadow (Utf8 l.other_rest);
  so_far : have_alike_words l.tolerance l.rest l.other_rest ≡ have_alike_words l.tolerance l.line l.other;
}

abbrev pub decreases-loop-word : goal.decreases-loop-word
decreases-loop-word l = length l.rest
