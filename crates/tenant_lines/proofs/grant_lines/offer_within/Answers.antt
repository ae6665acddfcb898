use Rattle.std.proofs.Common.{◌≡◌, ℕ, List, Some, codes, sym, ap, ◌∙◌}
use Rattle.std.specs.Prelude.{Option}
use Rattle.std.specs.Option.{option_and_then}
use Rattle.tenant_grants.specs.config.Intervals.{Interval}
use Rattle.tenant_lines.specs.GrantLines.{bounds_of_words, offer_command}
use Rattle.tenant_lines.specs.Words.{words_of, first_word_of, behind_first_word}
use Rattle.tenant_lines.specs.inner.GrantWords.{offer_within, word_behind}
use Rattle.tenant_lines.proofs.GrantLines.{offer_within_line}
use Rattle.tenant_lines.proofs.grant_lines.offer_within.Goals as goal

-- what the line gives, by what its words give as bounds
by_bounds : (a t rest low high behind : List ℕ) (bounds found : Option Interval) → low ≡ first_word_of rest → behind ≡ behind_first_word rest → high ≡ word_behind (codes "to") (words_of behind)
    → found ≡ bounds_of_words low high → found ≡ bounds → offer_within a t (words_of rest) ≡ option_and_then (λ b. offer_command a t (Some b)) bounds
by_bounds a t rest low high behind bounds found is_low is_behind is_high is_found is =
    let last = is_high ∙ ap (λ l. word_behind (codes "to") (words_of l)) is_behind in
    let known : bounds_of_words (first_word_of rest) (word_behind (codes "to") (words_of (behind_first_word rest))) ≡ bounds = (λ k. bounds_of_words (sym is_low k) (sym last k)) ∙ sym is_found ∙ is in
    offer_within_line a t rest ∙ ap (option_and_then (λ b. offer_command a t (Some b))) known

pub returns-in_err-bounds : goal.returns-in_err-bounds
returns-in_err-bounds c =
    c.from_residual.ensures
    ∙ sym (by_bounds c.args.actuator.now c.args.tenant.now c.args.rest.now c.first_word.result.now c.word_behind-high.result.now c.behind_first_word.result.now _ c.bounds_of.result
    c.first_word.ensures c.behind_first_word.ensures c.word_behind-high.ensures c.bounds_of.ensures c.in_err-bounds.was)

pub returns : goal.returns
returns c =
    c.offer.ensures
    ∙ sym (by_bounds c.args.actuator.now c.args.tenant.now c.args.rest.now c.first_word.result.now c.word_behind-high.result.now c.behind_first_word.result.now _ c.bounds_of.result
    c.first_word.ensures c.behind_first_word.ensures c.word_behind-high.ensures c.bounds_of.ensures c.in_ok-bounds.was)
