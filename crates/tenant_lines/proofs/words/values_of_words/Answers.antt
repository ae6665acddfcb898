use Rattle.std.proofs.Common.{◌≡◌, ◌<◌, ◌≤◌, ◌+◌, ◌⊎◌, ℕ, true, false, length, Result, Ok, Err, IsOk, OnOk, is_err, refl, ap, sym, ◌∙◌, ⊎_elim, arith, rules, w64, FitsSigned as SFits}
use Rattle.std.proofs.lemmas.Bool.{cases_lt}
use Rattle.std.proofs.lemmas.Bool.Decides.{nat_tests}
use Rattle.std.proofs.lemmas.Int.{to_z-of_z}
use Rattle.tenant_lines.specs.Words.{first_word_of}
use Rattle.tenant_lines.proofs.ValueLemmas.{values_more, values_end, all_values, no_values}
use Rattle.tenant_lines.proofs.words.values_of_words.Goals as goal
use Rattle.tenant_lines.proofs.words.values_of_words.Goals.{then-are_values, else-are_values}

of_ok : {T E Said : Type 0} (r : Result T E) → false ≡ is_err r → OnOk r Said → Said
of_ok (Ok x) e said = said
of_ok (Err f) e said = cc

-- if a push is refused, the capacity is used up
no_room : {T E : Type 0} (r : Result T E) (len capacity : ℕ) → true ≡ is_err r → (len + 1 ≤ capacity → IsOk r) → capacity ≤ len
no_room (Ok x) len capacity e succeeds = cc
no_room (Err f) len capacity e succeeds = ⊎_elim (λ low. let no = succeeds (omega (arith, low)) in cc) (λ high. high) (cases_lt len capacity)

pub returns-then-is_empty-clause-values : goal.returns-then-is_empty-clause-values
returns-then-is_empty-clause-values c =
    let none : length (first_word_of c.loop-rest.rest.now) ≡ 0 = grind (arith, nat_tests, c.if-is_empty.ensures, ap length c.cut.ensures.word) in
    sym (values_end c.loop-rest.values.items c.loop-rest.rest.now none) ∙ c.loop-rest.invariant.so_far

pub returns-then-is_err-clause-values : goal.returns-then-is_err-clause-values
returns-then-is_err-clause-values c =
    let rest = c.loop-rest.rest.now in
    elim c.if-are_values.branch [
      | then-are_values w ↦ rw w.result-is tt
      | else-are_values w ↦ rw w.result-is (sym (no_values c.loop-rest.values.items c.args.line.now rest c.loop-rest.invariant.so_far (sym c.are_values.ensures ∙ w.if-are_values.false)))
    ]

pub returns-then-is_err-clause-memory : goal.returns-then-is_err-clause-memory
returns-then-is_err-clause-memory c =
    let rest = c.loop-rest.rest.now in
    let some : 0 < length (first_word_of rest) = grind (arith, nat_tests, c.if-is_empty.ensures, ap length c.cut.ensures.word) in
    let full : 8 ≤ length c.loop-rest.values.items = omega (arith, c.loop-rest.invariant.room, no_room c.push.result (length c.loop-rest.values.items) c.loop-rest.values.capacity c.if-is_err.ensures.value c.push.ensures.succeeds) in
    elim c.if-are_values.branch [
      | then-are_values w ↦ λ refused. all_values c.loop-rest.values.items c.args.line.now rest full some c.loop-rest.invariant.so_far (sym c.are_values.ensures ∙ w.if-are_values.true)
      | else-are_values w ↦ λ refused. let done = rw w.result-is at refused in cc
    ]

pub loop-rest-preserved : goal.loop-rest-preserved
loop-rest-preserved c =
    let rest = c.loop-rest.rest.now in
    let some : 0 < length (first_word_of rest) = grind (arith, nat_tests, c.if-is_empty.ensures, ap length c.cut.ensures.word) in
    let is = rw c.cut.ensures.word at (sym c.value_of_word.ensures ∙ c.in-Some.is) in
    let fits : SFits w64 c.in-Some.value = search rules in
    let pushed = of_ok c.push.result c.if-is_err.ensures.value c.push.ensures.ok in
    record {
      text = search rules;
      room = omega (arith, c.loop-rest.invariant.room, c.push.ensures.capacity);
      so_far = rw (pushed, to_z-of_z w64 c.in-Some.value fits, c.cut.ensures.rest) (sym (values_more c.loop-rest.values.items c.in-Some.value rest some is) ∙ c.loop-rest.invariant.so_far);
    }
