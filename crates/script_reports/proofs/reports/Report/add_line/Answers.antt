use Rattle.std.proofs.Common.{◌∙◌}
use Rattle.script_reports.proofs.ReportLines.{added_both}
use Rattle.script_reports.proofs.reports.Report.add_line.Goals as goal

pub returns : goal.returns
returns c =
    added_both c.add-2.result c.args.self.now c.add.new.self c.add-2.new.self c.as_str.result.now c.as_str-2.result.now _ _ c.in_ok-add.ensures (c.as_str.ensures.value ∙ c.in_ok-refusal.ensures)
    (c.as_str-2.ensures.value ∙ c.in_ok-stops.ensures) c.add-2.ensures
