use Rattle.std.proofs.Common.{◌≡◌, ◌<◌, ◌==◌, ◌&&◌, ℕ, Bool, true, false, List, length, refl, ap, sym, ◌∙◌, arith, rules}
use Rattle.std.proofs.lemmas.Bool.Decides.{nat_tests}
use Rattle.std.specs.Cmp.Lexicographic.{pointwise}
use Rattle.tenant_lines.proofs.cited.WordLemmas.{words_first, words_none}
use Rattle.tenant_lines.specs.Words.{behind_first_word, first_word_of, words_of}
use Rattle.run_comparisons.specs.Alike.{are_alike_words}
use Rattle.run_comparisons.proofs.alike.have_alike_words.Goals as goal
use Rattle.run_comparisons.proofs.alike.have_alike_words.Goals.{then-is_empty-2-via-then-is_empty-2, then-is_empty-2-via-else-is_empty-2+then-not-are_alike_words}

module _ (f : List ℕ → List ℕ → Bool) (line other : List ℕ) where
  -- the first line has no more words
  ended : (b : Bool) → length (first_word_of line) ≡ 0 → b ≡ (length (first_word_of other) == 0) → b ≡ pointwise f (words_of line) (words_of other)
  ended true none is = let no_other : length (first_word_of other) ≡ 0 = grind (arith, nat_tests, is) in rw (words_none line none, words_none other no_other) refl
  ended false none is = let some : 0 < length (first_word_of other) = grind (arith, nat_tests, is) in rw (words_none line none, words_first other some) refl

  -- the other one has none
  other_ended : 0 < length (first_word_of line) → length (first_word_of other) ≡ 0 → pointwise f (words_of line) (words_of other) ≡ false
  other_ended some none = rw (words_first line some, words_none other none) refl

  by_first : 0 < length (first_word_of line) → 0 < length (first_word_of other)
      → pointwise f (words_of line) (words_of other) ≡ (f (first_word_of line) (first_word_of other) && pointwise f (words_of (behind_first_word line)) (words_of (behind_first_word other)))
  by_first some more = rw (words_first line some, words_first other more) refl

  unlike : 0 < length (first_word_of line) → 0 < length (first_word_of other) → f (first_word_of line) (first_word_of other) ≡ false → pointwise f (words_of line) (words_of other) ≡ false
  unlike some more is = by_first some more ∙ ap (λ (b : Bool). b && pointwise f (words_of (behind_first_word line)) (words_of (behind_first_word other))) is

  alike : 0 < length (first_word_of line) → 0 < length (first_word_of other) → f (first_word_of line) (first_word_of other) ≡ true
      → pointwise f (words_of line) (words_of other) ≡ pointwise f (words_of (behind_first_word line)) (words_of (behind_first_word other))
  alike some more is = by_first some more ∙ ap (λ (b : Bool). b && pointwise f (words_of (behind_first_word line)) (words_of (behind_first_word other))) is

pub returns-then-is_empty : goal.returns-then-is_empty
returns-then-is_empty c =
    let rest = c.loop-word.rest.now in
    let none : length (first_word_of rest) ≡ 0 = grind (arith, nat_tests, c.if-is_empty.ensures, ap length c.cut.ensures.word) in
    ended (are_alike_words c.args.tolerance) rest c.loop-word.other_rest.now c.is_empty-then-is_empty.result none
    (c.is_empty-then-is_empty.ensures ∙ ap (λ (w : List ℕ). length w == 0) c.cut-in-loop-word.ensures.word)
    ∙ c.loop-word.invariant.so_far

pub returns-then-is_empty-2 : goal.returns-then-is_empty-2
returns-then-is_empty-2 c =
    let f = are_alike_words c.args.tolerance in
    let rest = c.loop-word.rest.now in
    let other = c.loop-word.other_rest.now in
    let some : 0 < length (first_word_of rest) = grind (arith, nat_tests, c.if-is_empty.ensures, ap length c.cut.ensures.word) in
    elim c.then-is_empty-2.branch [
      | then-is_empty-2-via-then-is_empty-2 w ↦
          let none : length (first_word_of other) ≡ 0 = grind (arith, nat_tests, w.if-is_empty-2.ensures, ap length c.cut-in-loop-word.ensures.word) in
          sym (other_ended f rest other some none) ∙ c.loop-word.invariant.so_far
      | then-is_empty-2-via-else-is_empty-2+then-not-are_alike_words w ↦
          let more : 0 < length (first_word_of other) = grind (arith, nat_tests, w.if-is_empty-2.ensures, ap length c.cut-in-loop-word.ensures.word) in
          let is : f (first_word_of rest) (first_word_of other) ≡ false = rw (c.cut.ensures.word, c.cut-in-loop-word.ensures.word) at (sym w.are_alike_words.ensures ∙ w.if-not-are_alike_words.true) in
          sym (unlike f rest other some more is) ∙ c.loop-word.invariant.so_far
    ]

pub loop-word-preserved : goal.loop-word-preserved
loop-word-preserved c =
    let f = are_alike_words c.args.tolerance in
    let rest = c.loop-word.rest.now in
    let other = c.loop-word.other_rest.now in
    let some : 0 < length (first_word_of rest) = grind (arith, nat_tests, c.if-is_empty.ensures, ap length c.cut.ensures.word) in
    let more : 0 < length (first_word_of other) = grind (arith, nat_tests, c.if-is_empty-2.ensures, ap length c.cut-in-loop-word.ensures.word) in
    let is : f (first_word_of rest) (first_word_of other) ≡ true = rw (c.cut.ensures.word, c.cut-in-loop-word.ensures.word) at (sym c.are_alike_words.ensures ∙ c.if-not-are_alike_words.false) in
    record {
      text = search rules;
      other_text = search rules;
      so_far = rw (c.cut.ensures.rest, c.cut-in-loop-word.ensures.rest) (sym (alike f rest other some more is) ∙ c.loop-word.invariant.so_far);
    }
