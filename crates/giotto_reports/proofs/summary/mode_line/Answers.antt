use Rattle.std.proofs.lemmas.List.{length-map}
use Rattle.giotto_breaks.specs.text.ProgramTrees.{update_of, switch_of, invocation_of}
use Rattle.giotto_reports.proofs.summary.mode_line.Goals as goal

pub returns : goal.returns
returns c =
    let mode = c.args.mode.now in
    rw (length-map mode.updates update_of, length-map mode.switches switch_of, length-map mode.invocations invocation_of)
    (rw (c.as_str-name.ensures, c.as_slice.ensures, c.as_slice-2.ensures, c.as_slice-3.ensures) at c.format.ensures.ok)
