use Rattle.std.proofs.Common.{◌≡◌, ◌<◌, ◌&&◌, true, false, None, codes, length, refl, sym, ap, ◌∙◌, arith}
use Rattle.std.proofs.lemmas.Bool.{eqb-true}
use Rattle.std.proofs.lemmas.Bool.Decides.{nat_tests}
use Rattle.giotto_tasks.specs.Names.{same_name}
use Rattle.tenant_lines.specs.GrantLines.{offer_command}
use Rattle.tenant_lines.specs.Words.{words_of, first_word_of, behind_first_word}
use Rattle.tenant_lines.specs.inner.GrantWords.{offer_within}
use Rattle.tenant_lines.proofs.GrantLines.{offer_short, offer_long}
use Rattle.tenant_lines.proofs.grant_lines.offer_by.Goals as goal

pub returns-then-is_empty : goal.returns-then-is_empty
returns-then-is_empty c =
    let third = c.first_word.ensures ∙ ap first_word_of (c.behind_first_word-more.ensures ∙ ap behind_first_word c.behind_first_word-behind.ensures) in
    let none = ap length (sym third) ∙ eqb-true (length c.first_word.result.now) 0 (sym c.is_empty.ensures ∙ c.if-is_empty.true) in
    c.offer.ensures ∙ ap (λ t. offer_command c.args.actuator.now t None) c.word_behind.ensures ∙ sym (offer_short c.args.actuator.now c.args.rest.now none)

pub returns-then-not-lead_to_bounds : goal.returns-then-not-lead_to_bounds
returns-then-not-lead_to_bounds c =
    let third = c.first_word.ensures ∙ ap first_word_of (c.behind_first_word-more.ensures ∙ ap behind_first_word c.behind_first_word-behind.ensures) in
    let more : 0 < length (first_word_of (behind_first_word (behind_first_word c.args.rest.now))) = grind (arith, nat_tests, c.if-is_empty.false, c.is_empty.ensures, ap length third) in
    let again = c.first_word-3.ensures ∙ ap first_word_of (c.behind_first_word-more.ensures ∙ ap behind_first_word c.behind_first_word-behind.ensures) in
    let test : (same_name (first_word_of c.args.rest.now) (codes "to") && same_name (first_word_of (behind_first_word (behind_first_word c.args.rest.now))) (codes "from")) ≡ false =
    (λ k. same_name (sym c.first_word-2.ensures k) (codes "to") && same_name (sym again k) (codes "from")) ∙ sym c.lead_to_bounds.ensures ∙ c.if-not-lead_to_bounds.true in
    sym (offer_long c.args.actuator.now c.args.rest.now more ∙ rw test refl)

pub returns : goal.returns
returns c =
    let third = c.first_word.ensures ∙ ap first_word_of (c.behind_first_word-more.ensures ∙ ap behind_first_word c.behind_first_word-behind.ensures) in
    let more : 0 < length (first_word_of (behind_first_word (behind_first_word c.args.rest.now))) = grind (arith, nat_tests, c.if-is_empty.false, c.is_empty.ensures, ap length third) in
    let again = c.first_word-3.ensures ∙ ap first_word_of (c.behind_first_word-more.ensures ∙ ap behind_first_word c.behind_first_word-behind.ensures) in
    let test : (same_name (first_word_of c.args.rest.now) (codes "to") && same_name (first_word_of (behind_first_word (behind_first_word c.args.rest.now))) (codes "from")) ≡ true =
    (λ k. same_name (sym c.first_word-2.ensures k) (codes "to") && same_name (sym again k) (codes "from")) ∙ sym c.lead_to_bounds.ensures ∙ c.if-not-lead_to_bounds.false in
    let tenant = c.first_word-4.ensures ∙ ap first_word_of c.behind_first_word-behind.ensures in
    let last = c.behind_first_word.ensures ∙ ap behind_first_word (c.behind_first_word-more.ensures ∙ ap behind_first_word c.behind_first_word-behind.ensures) in
    c.offer_within.ensures ∙ (λ k. offer_within c.args.actuator.now (tenant k) (words_of (last k))) ∙ sym (offer_long c.args.actuator.now c.args.rest.now more ∙ rw test refl)
