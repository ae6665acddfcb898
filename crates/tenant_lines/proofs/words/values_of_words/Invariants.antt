use denote.Shadow.{shadow}
use denote.Text.{Utf8}
use Rattle.std.proofs.Common.{◌≡◌, ◌≤◌, length}
use Rattle.tenant_lines.specs.Words.{words_of, values_of_words}
use Rattle.tenant_lines.proofs.ValueLemmas.{values_behind}
use Rattle.tenant_lines.proofs.words.values_of_words.Given as goal

abbrev pub invariant-loop-rest : goal.invariant-loop-rest
invariant-loop-rest l = record {
  text : shadow (Utf8 l.rest);
  room : 8 ≤ l.values.capacity;
  so_far : values_behind l.values.items (values_of_words (words_of l.rest)) ≡ values_of_words (words_of l.line);
}

abbrev pub decreases-loop-rest : goal.decreases-loop-rest
decreases-loop-rest l = length l.rest
