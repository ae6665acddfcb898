use Rattle.std.proofs.Common.{◌≡◌, ◌<◌, List, ℕ, length, codes, sym, ap, ◌∙◌, arith}
use Rattle.std.proofs.lemmas.Bool.{eqb-true}
use Rattle.std.proofs.lemmas.Bool.Decides.{nat_tests}
use Rattle.tenant_lines.specs.GrantLines.{grant_command_of_words}
use Rattle.tenant_lines.specs.Words.{first_word_of, behind_first_word}
use Rattle.tenant_lines.specs.inner.CutLines.{words_from}
use Rattle.tenant_lines.proofs.GrantLines.{offered, unoffered, bound, unbound, unbind_more, rows_by, other_grants}
use Rattle.tenant_lines.proofs.grant_lines.grant_command_of.Goals as goal

-- a line that begins with a word
begun : (word verb behind : List ℕ) → word ≡ verb → grant_command_of_words (words_from word behind) ≡ grant_command_of_words (words_from verb behind)
begun word verb behind is = ap (λ w. grant_command_of_words (words_from w behind)) is

pub returns-in-offer : goal.returns-in-offer
returns-in-offer c =
    let whole = begun c.args.word.now (codes "offer") c.args.behind.now c.in-offer.is ∙ offered c.args.behind.now in
    c.offer_by.ensures ∙ rw (c.cut.ensures.word, c.cut.ensures.rest) (sym whole)

pub returns-in-unoffer : goal.returns-in-unoffer
returns-in-unoffer c =
    let whole = begun c.args.word.now (codes "unoffer") c.args.behind.now c.in-unoffer.is ∙ unoffered c.args.behind.now in
    c.unoffer.ensures ∙ rw (c.cut.ensures.word, c.word_behind.ensures, c.cut.ensures.rest) (sym whole)

pub returns-in-bind : goal.returns-in-bind
returns-in-bind c =
    let whole = begun c.args.word.now (codes "bind") c.args.behind.now c.in-bind.is ∙ bound c.args.behind.now in
    c.bind.ensures ∙ rw (c.cut.ensures.word, c.word_behind-in-bind.ensures, c.cut.ensures.rest) (sym whole)

pub returns-then-not-is_empty : goal.returns-then-not-is_empty
returns-then-not-is_empty c =
    let behind = c.args.behind.now in
    let rest = c.first_word.ensures ∙ ap first_word_of c.cut.ensures.rest in
    let more : 0 < length (first_word_of (behind_first_word behind)) = grind (arith, nat_tests, c.if-not-is_empty.true, c.is_empty.ensures, ap length rest) in
    sym (begun c.args.word.now (codes "unbind") behind c.in-unbind.is ∙ unbind_more behind more)

pub returns-else-not-is_empty : goal.returns-else-not-is_empty
returns-else-not-is_empty c =
    let behind = c.args.behind.now in
    let rest = c.first_word.ensures ∙ ap first_word_of c.cut.ensures.rest in
    let none = ap length (sym rest) ∙ eqb-true (length c.first_word.result.now) 0 (sym c.is_empty.ensures ∙ c.if-not-is_empty.false) in
    let whole = begun c.args.word.now (codes "unbind") behind c.in-unbind.is ∙ unbound behind none in
    c.unbind.ensures ∙ rw c.cut.ensures.word (sym whole)

pub returns-in-rows : goal.returns-in-rows
returns-in-rows c =
    let whole = begun c.args.word.now (codes "rows") c.args.behind.now c.in-rows.is ∙ rows_by c.args.behind.now in
    c.then_some.ensures ∙ rw (c.is_empty-in-rows.ensures, c.cut.ensures.word) (sym whole)

pub returns-in_default : goal.returns-in_default
returns-in_default c = sym (other_grants c.args.word.now c.args.behind.now c.in_default.not-offer c.in_default.not-unoffer c.in_default.not-bind c.in_default.not-unbind c.in_default.not-rows)
