use Rattle.std.proofs.Common.{◌≡◌, Bool, true, false, not, length, refl, sym, ap, ◌∙◌, arith}
use Rattle.std.proofs.lemmas.Bool.{eqb-true}
use Rattle.std.proofs.lemmas.Bool.Decides.{nat_tests}
use Rattle.giotto_tasks.specs.Names.{same_name}
use Rattle.giotto_tasks.proofs.cited.NameLemmas.{same_name_is}
use Rattle.tenant_lines.specs.Words.{first_word_of, behind_first_word}
use Rattle.tenant_lines.proofs.GrantLines.{word_behind_other, word_behind_more, word_behind_is}
use Rattle.tenant_lines.proofs.grant_lines.word_behind.Goals as goal

no_longer : (b : Bool) → true ≡ not b → b ≡ false
no_longer true e = e
no_longer false e = refl

still : (b : Bool) → false ≡ not b → b ≡ true
still true e = refl
still false e = e

pub returns-then-ne : goal.returns-then-ne
returns-then-ne c =
    let other : same_name c.first_word.result.now c.args.word.now ≡ false = no_longer _ (sym c.if-ne.true ∙ c.ne.ensures) in
    sym (word_behind_other c.args.word.now c.args.line.now (ap (λ w. same_name w c.args.word.now) (sym c.first_word.ensures) ∙ other))

pub returns-then-not-is_empty : goal.returns-then-not-is_empty
returns-then-not-is_empty c =
    let third = c.first_word-2.ensures ∙ ap first_word_of (c.behind_first_word.ensures ∙ ap behind_first_word c.behind_first_word-behind.ensures) in
    sym (word_behind_more c.args.word.now c.args.line.now (grind (arith, nat_tests, c.if-not-is_empty.true, c.is_empty.ensures, ap length third)))

pub returns : goal.returns
returns c =
    let third = c.first_word-2.ensures ∙ ap first_word_of (c.behind_first_word.ensures ∙ ap behind_first_word c.behind_first_word-behind.ensures) in
    let none = ap length (sym third) ∙ eqb-true (length c.first_word-2.result.now) 0 (sym c.is_empty.ensures ∙ c.if-not-is_empty.false) in
    let same : same_name c.first_word.result.now c.args.word.now ≡ true = still _ (sym c.if-ne.false ∙ c.ne.ensures) in
    let is = sym c.first_word.ensures ∙ same_name_is c.first_word.result.now c.args.word.now same in
    c.first_word-3.ensures ∙ ap first_word_of c.behind_first_word-behind.ensures ∙ sym (word_behind_is c.args.word.now c.args.line.now c.requires is none)
