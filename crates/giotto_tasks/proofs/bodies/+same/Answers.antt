use Rattle.std.proofs.Common.{◌≡◌, ◌+◌, ◌<◌, length, drop, ap, sym, ◌∙◌, arith}
use Rattle.std.proofs.lemmas.Bool.{false≢true}
use Rattle.std.proofs.lemmas.List.{at_drop_more}
use Rattle.giotto_tasks.specs.Syntax.{step}
use Rattle.giotto_tasks.specs.Trees.{block_of, statement_of}
use Rattle.giotto_tasks.proofs.cited.TreeLemmas.{length-block, rests}
use Rattle.giotto_tasks.proofs.bodies.+same.Goals as goal

pub same_block-returns-then-a-b : goal.same_block-returns-then-a-b
same_block-returns-then-a-b t c =
    (λ h. absurd (false≢true h), λ e. absurd (c.if-a-b.true (length-block c.args.a.now c.args.b.now e)))

pub same_block-loop-i-preserved : goal.same_block-loop-i-preserved
same_block-loop-i-preserved t c =
    let i = c.loop-i.i in
    let a = c.args.a.now in
    let b = c.args.b.now in
    let s = c.index-a-i.result in
    let u = c.index-b-i.result in
    let within : i < length b = omega arith in
    let same : statement_of s ≡ statement_of u = c.same_statement.ensures.0 c.if-not-same_statement.false in
    let at_a : block_of (drop i a) ≡ step (statement_of s) (block_of (drop (i + 1) a)) =
    at_drop_more block_of a i s c.loop-i-test.true ∙ ap (λ x. step (statement_of x) (block_of (drop (i + 1) a))) (sym c.index-a-i.is) in
    let at_b : block_of (drop i b) ≡ step (statement_of u) (block_of (drop (i + 1) b)) =
    at_drop_more block_of b i u within ∙ ap (λ x. step (statement_of x) (block_of (drop (i + 1) b))) (sym c.index-b-i.is) in
    record {
      rest_from_all = λ e. rests (statement_of s) (statement_of u) _ _ same (sym at_a ∙ c.loop-i.invariant.rest_from_all e ∙ at_b);
      all_from_rest = λ e. c.loop-i.invariant.all_from_rest (at_a ∙ ap (λ x. step x (block_of (drop (i + 1) a))) same ∙ ap (step (statement_of u)) e ∙ sym at_b);
    }
