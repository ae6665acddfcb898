use Rattle.std.proofs.Common.{ap, string_bytes}
use Rattle.giotto_breaks.specs.text.ProgramTrees.{mode_of}
use Rattle.giotto_reports.specs.Summaries.{ended, line_of_mode}
use Rattle.giotto_reports.proofs.Writing.{written_more}
use Rattle.giotto_reports.proofs.summary.add_modes.Goals as goal

pub loop-mode-preserved : goal.loop-mode-preserved
loop-mode-preserved c =
    let l = c.loop-mode in
    written_more (λ m. ended (line_of_mode m)) mode_of (string_bytes c.args.text.now) c.args.modes.now l.mode-index c.mode-item.result (string_bytes l.text) (ended (string_bytes c.in_ok-mode_line.field-0))
    (string_bytes c.add.new.text) l.invariant c.loop-mode-test.true c.mode-item.is (ap ended c.in_ok-mode_line.ensures) c.in_ok-add.ensures
