use Rattle.std.proofs.Common.{◌≡◌, ◌<◌, true, false, length, is_some, ap, sym, ◌∙◌, arith}
use Rattle.std.proofs.lemmas.Bool.Decides.{nat_tests}
use Rattle.tenant_lines.specs.Words.{first_word_of, value_of_word}
use Rattle.tenant_lines.proofs.ValueLemmas.{are_values_end, are_values_fault, are_values_more}
use Rattle.tenant_lines.proofs.words.are_values.Goals as goal

pub returns-then-is_empty : goal.returns-then-is_empty
returns-then-is_empty c =
    let none : length (first_word_of c.loop-rest.rest.now) ≡ 0 = grind (arith, nat_tests, c.if-is_empty.ensures, ap length c.first_word-word.ensures) in
    sym (are_values_end c.loop-rest.rest.now none) ∙ c.loop-rest.invariant.so_far

pub returns-then-is_none : goal.returns-then-is_none
returns-then-is_none c =
    let rest = c.loop-rest.rest.now in
    let some : 0 < length (first_word_of rest) = grind (arith, nat_tests, c.if-is_empty.ensures, ap length c.first_word-word.ensures) in
    let bad : is_some (value_of_word (first_word_of rest)) ≡ false = ap (λ w. is_some (value_of_word w)) (sym c.first_word-word.ensures) ∙ ap is_some (sym c.value_of_word.ensures) ∙ c.if-is_none.ensures in
    sym (are_values_fault rest some bad) ∙ c.loop-rest.invariant.so_far

pub loop-rest-preserved : goal.loop-rest-preserved
loop-rest-preserved c =
    let rest = c.loop-rest.rest.now in
    let some : 0 < length (first_word_of rest) = grind (arith, nat_tests, c.if-is_empty.ensures, ap length c.first_word-word.ensures) in
    let good : is_some (value_of_word (first_word_of rest)) ≡ true = ap (λ w. is_some (value_of_word w)) (sym c.first_word-word.ensures) ∙ ap is_some (sym c.value_of_word.ensures) ∙ c.if-is_none.ensures in
    record {
      text = c.behind_first_word-rest.utf8;
      so_far = rw c.behind_first_word-rest.ensures (sym (are_values_more rest some good) ∙ c.loop-rest.invariant.so_far);
    }
