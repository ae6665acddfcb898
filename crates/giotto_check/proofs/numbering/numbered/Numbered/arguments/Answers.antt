use Rattle.giotto_tasks.specs.Names.{is_among}
use Rattle.giotto_tasks.specs.Trees.{expression_of}
use Rattle.giotto_rules.specs.text.Depth.{is_shallow}
use Rattle.giotto_rules.specs.Declarations.{driver_ports, names_read}
use Rattle.giotto_check.specs.cited.Timetables.{IsExpression}
use Rattle.giotto_check.proofs.cited.EachLemmas.{each_next}
use Rattle.giotto_check.proofs.TestLists.{all_in_item, test_at_item}
use Rattle.giotto_check.proofs.numbering.numbered.Numbered.arguments.Goals as goal

pub expression-requires-clause-reads : goal.expression-requires-clause-reads
expression-requires-clause-reads c =
    all_in_item (is_among (driver_ports c.args.self.now)) expression_of names_read c.args.arguments.now c.loop-argument.argument-index c.argument-item.result c.requires.reads c.argument-item.is c.loop-argument-test.true

pub loop-argument-preserved : goal.loop-argument-preserved
loop-argument-preserved c =
    each_next (IsExpression c.args.self.now) expression_of c.args.arguments.now c.loop-argument.argument-index c.argument-item.result c.loop-argument.codes.items c.push.new.self.items c.in_ok-expression.field-0 c.loop-argument-test.true c.argument-item.is
    c.loop-argument.invariant c.in_ok-expression.ensures c.in_ok-push.ensures.items

pub expression-requires-clause-shallow : goal.expression-requires-clause-shallow
expression-requires-clause-shallow c =
    test_at_item is_shallow expression_of c.args.arguments.now c.loop-argument.argument-index c.argument-item.result c.requires.shallow c.argument-item.is c.loop-argument-test.true
