use Rattle.std.proofs.Common.{◌<◌, None, length, map, ap, arith}
use Rattle.giotto_text.specs.ProgramTrees.{mode_of, invocation_of}
use Rattle.giotto_rules.specs.inner.Periods.{repetition_of}
use Rattle.giotto_rules.proofs.FindLemmas.{mapped_or}
use Rattle.giotto_rules.proofs.rules.switches.switch_keeps_periods.Goals as goal

pub keeps_period-requires-clause-repetition : goal.keeps_period-requires-clause-repetition
keeps_period-requires-clause-repetition c =
    let mode = c.args.mode.now in
    let invocations = c.as_slice-invocations.result.now in
    let within : c.loop-i.i < length invocations = grind arith in
    mapped_or (repetition_of c.args.program.now mode.period) invocation_of c.args.repetitions.now (mode_of mode).invocations invocations c.loop-i.i (record { every = 0; task = None }) c.index-invocations-i.result
    c.requires.repetitions (ap (map invocation_of) c.as_slice-invocations.ensures) within c.index-invocations-i.is
