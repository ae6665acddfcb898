use Rattle.std.proofs.Common.{◌≡◌, ◌<◌, ◌∷◌, [], true, false, List, ℕ, codes, length, refl, ap, ◌∙◌, sym, subst, arith}
use Rattle.std.proofs.lemmas.Bool.Decides.{nat_tests}
use Rattle.giotto_rules.specs.text.Bytes.{is_name}
use Rattle.tenant_lines.specs.Words.{words_of, first_word_of, behind_first_word}
use Rattle.tenant_lines.proofs.cited.WordLemmas.{words_none}
use Rattle.rig_model.specs.OperatorLines.{operator_line_of, work_of}
use Rattle.rig_model.proofs.OperatorWords.{work_with_name, work_with_no_name, work_with_more}
use Rattle.rig_model.proofs.operator_lines.work.Goals as goal
use Rattle.rig_model.proofs.operator_lines.work.Goals.{else-is_name-via-then-is_name+else-is_empty-2, else-is_name-via-else-is_name}

pub returns-then-is_empty : goal.returns-then-is_empty
returns-then-is_empty c =
    let short : length c.cut.result.0.now ≡ 0 = grind (arith, nat_tests, c.is_empty.ensures, c.if-is_empty.true) in
    let none : words_of c.args.rest.now ≡ [] = words_none c.args.rest.now (ap (λ (l : List ℕ). length l) (sym c.cut.ensures.word) ∙ short) in
    rw none refl

pub returns-then-is_empty-2 : goal.returns-then-is_empty-2
returns-then-is_empty-2 c =
    let rest = c.args.rest.now in
    let long : 0 < length c.cut.result.0.now = grind (arith, nat_tests, c.is_empty.ensures, c.if-is_empty.false) in
    let some : 0 < length (first_word_of rest) = subst (λ (l : List ℕ). 0 < length l) c.cut.ensures.word long in
    let name : is_name (first_word_of rest) ≡ true = ap is_name (sym (c.as_bytes.ensures.value ∙ c.cut.ensures.word)) ∙ (sym c.is_name.ensures ∙ c.if-is_name.true) in
    let short : length c.first_word.result.now ≡ 0 = grind (arith, nat_tests, c.is_empty-then-is_name.ensures, c.if-is_empty-2.true) in
    let alone : length (first_word_of (behind_first_word rest)) ≡ 0 = ap (λ (l : List ℕ). length l) (sym (c.first_word.ensures ∙ ap first_word_of c.cut.ensures.rest)) ∙ short in
    ap work_of c.cut.ensures.word ∙ sym (work_with_name rest some name alone)

pub returns : goal.returns
returns c =
    let rest = c.args.rest.now in
    let long : 0 < length c.cut.result.0.now = grind (arith, nat_tests, c.is_empty.ensures, c.if-is_empty.false) in
    let some : 0 < length (first_word_of rest) = subst (λ (l : List ℕ). 0 < length l) c.cut.ensures.word long in
    let word : c.as_bytes.result.now ≡ first_word_of rest = c.as_bytes.ensures.value ∙ c.cut.ensures.word in
    elim c.else-is_name.branch [
      | else-is_name-via-then-is_name+else-is_empty-2 w ↦
          let more : 0 < length w.first_word.result.now = grind (arith, nat_tests, w.is_empty-then-is_name.ensures, w.if-is_empty-2.false) in
          let more : 0 < length (first_word_of (behind_first_word rest)) = subst (λ (l : List ℕ). 0 < length l) (w.first_word.ensures ∙ ap first_word_of c.cut.ensures.rest) more in
          sym (work_with_more rest some more)
      | else-is_name-via-else-is_name w ↦
          let name : is_name (first_word_of rest) ≡ false = ap is_name (sym word) ∙ (sym c.is_name.ensures ∙ w.if-is_name.false) in
          sym (work_with_no_name rest some name)
    ]
