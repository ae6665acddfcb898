use denote.Shadow.{shadow}
use denote.Text.{Utf8}
use Rattle.std.proofs.Common.{◌≡◌, is_some, length}
use Rattle.tenant_lines.specs.Words.{words_of, values_of_words}
use Rattle.tenant_lines.proofs.words.are_values.Given as goal

abbrev pub invariant-loop-rest : goal.invariant-loop-rest
invariant-loop-rest l = record {
  text : shadow (Utf8 l.rest);
  so_far : is_some (values_of_words (words_of l.rest)) ≡ is_some (values_of_words (words_of l.line));
}

abbrev pub decreases-loop-rest : goal.decreases-loop-rest
decreases-loop-rest l = length l.rest
