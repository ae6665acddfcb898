use Rattle.std.proofs.Common.{IfErr, refl, subst, ap, sym, ◌∙◌, length-drop, arith}
use Rattle.std.proofs.lemmas.Result.{err_from_is_err_and}
use Rattle.giotto_text.specs.cited.Reading.{IsLexicalFault}
use Rattle.giotto_text.specs.inner.Adding.{placed}
use Rattle.giotto_text.proofs.Lexing.{behind, behind-append, behind-Ok, found_there, lexical_fault, tokens_from-token, tokens_from-end, rest_whole}
use Rattle.giotto_text.proofs.lexer.tokens.Goals as goal

pub returns-in_err-len-clause-fault : goal.returns-in_err-len-clause-fault
returns-in_err-len-clause-fault c =
    let text = c.args.text.now in
    let start = c.loop-start.start in
    let rest = rest_whole text start in
    let e = c.in_err-len.field-0.0 in
    let p = err_from_is_err_and c.from_residual.result c.from_residual.ensures.1 in
    let is : IsLexicalFault text e = lexical_fault text c.loop-start.found.items start e c.loop-start.invariant.so_far c.loop-start-test.true (sym c.if-is_blank.ensures)
    (λ other. rw rest at (c.in_err-len.ensures.fault e refl other)) in
    subst (λ r. IfErr r (IsLexicalFault text)) (sym p.1) (subst (IsLexicalFault text) (sym p.2) is)

pub loop-start-preserved : goal.loop-start-preserved
loop-start-preserved c =
    let text = c.args.text.now in
    let start = c.loop-start.start in
    let found = c.loop-start.found.items in
    let rest = rest_whole text start in
    let there = found_there found c.push_first.new.found.items start c.in_ok-len.len _ (rw rest at c.in_ok-len.ensures.added) in
    let fits = rw rest at c.in_ok-len.ensures.within.1 in
    let more = tokens_from-token text start c.in_ok-len.len there.0 c.loop-start-test.true (sym c.if-is_blank.ensures) there.1.0 c.in_ok-len.ensures.within.0 fits in
    record {
      within = omega (arith, fits, length-drop start text);
      so_far = rw there.1.1 (c.loop-start.invariant.so_far ∙ ap (behind found) more ∙ sym (behind-append found (placed there.0 start) _));
    }

pub returns-clause-ok : goal.returns-clause-ok
returns-clause-ok c =
    c.loop-start.invariant.so_far ∙ ap (behind c.loop-start.found.items) (tokens_from-end c.args.text.now c.loop-start.start c.loop-start-test.false)
    ∙ behind-Ok c.loop-start.found.items
