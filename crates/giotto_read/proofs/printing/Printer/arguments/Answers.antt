use Rattle.std.proofs.Common.{refl}
use Rattle.std.proofs.lemmas.List.{take_all}
use Rattle.std.proofs.lemmas.Simd.{map-map}
use Rattle.giotto_tasks.specs.Trees.{expression_of}
use Rattle.giotto_text.specs.Canonical.{expression_tokens}
use Rattle.giotto_read.proofs.PrintingLemmas.{commas_more}
use Rattle.giotto_read.proofs.printing.Printer.arguments.Goals as goal

pub loop-i-preserved : goal.loop-i-preserved
loop-i-preserved c =
    commas_more (λ e. expression_tokens (expression_of e)) c.args.self.now c.args.arguments.now c.loop-i.i c.index-arguments-i.result c.loop-i.self c.comma_before.new.self c.expression.new.self c.loop-i-test.true c.index-arguments-i.is c.loop-i.invariant c.in_ok-comma_before.ensures c.in_ok-expression.ensures

pub returns : goal.returns
returns c =
    let all = take_all c.loop-i.i c.args.arguments.now c.loop-i-test.false in
    rw (c.loop-i.invariant, all, map-map expression_tokens expression_of c.args.arguments.now) refl
