use Rattle.std.proofs.Common.{ap, map}
use Rattle.giotto_rules.specs.text.ProgramTrees.{mode_of, invocation_of}
use Rattle.giotto_check.specs.cited.Facts.{InvocationFits}
use Rattle.giotto_check.specs.cited.Timetables.{IsInvocation}
use Rattle.giotto_check.proofs.cited.EachLemmas.{all_item, each_next}
use Rattle.giotto_check.proofs.numbering.numbered.Numbered.invocations.Goals as goal

pub invocation-requires-clause-invocation : goal.invocation-requires-clause-invocation
invocation-requires-clause-invocation c =
    all_item (InvocationFits c.args.self.now (mode_of c.args.mode.now)) invocation_of c.as_slice-invocation-items.result.now (mode_of c.args.mode.now).invocations c.loop-invocation.invocation-index c.invocation-item.result (ap (map invocation_of) c.as_slice-invocation-items.ensures) c.invocation-item.is c.loop-invocation-test.true c.requires.mode.invocations

pub loop-invocation-preserved : goal.loop-invocation-preserved
loop-invocation-preserved c =
    each_next (IsInvocation c.args.self.now (mode_of c.args.mode.now)) invocation_of c.as_slice-invocation-items.result.now c.loop-invocation.invocation-index c.invocation-item.result c.loop-invocation.entries.items c.push.new.self.items c.in_ok-invocation.field-0 c.loop-invocation-test.true c.invocation-item.is
    c.loop-invocation.invariant c.in_ok-invocation.ensures c.in_ok-push.ensures.items
