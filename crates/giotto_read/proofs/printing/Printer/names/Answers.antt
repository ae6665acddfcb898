use Rattle.giotto_text.specs.Canonical.{name_tokens}
use Rattle.giotto_read.proofs.PrintingLemmas.{commas_more}
use Rattle.giotto_read.proofs.printing.Printer.names.Goals as goal

pub loop-i-preserved : goal.loop-i-preserved
loop-i-preserved c =
    commas_more name_tokens c.args.self.now c.args.names.now c.loop-i.i c.index-names-i.result c.loop-i.self c.comma_before.new.self c.name.new.self c.loop-i-test.true c.index-names-i.is c.loop-i.invariant c.in_ok-comma_before.ensures c.in_ok-name.ensures
