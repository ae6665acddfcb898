use Rattle.std.proofs.Common.{◌≡◌, true, false, Option, Some, None, String, Global, ap, string_bytes}
use Rattle.std.specs.Option.{MatchOption, option_map}
use Rattle.giotto_reports.specs.declared.Report.{Report}
use Rattle.rig_client.specs.Findings.{IsFaulty}
use Rattle.rig_client.proofs.programs.findings_in.Goals as goal

is_faulty : (report : Report) (found : Option (String Global)) → MatchOption found (report.is_good ≡ true) (λ text. (report.is_good ≡ false) × (text ≡ report.text)) → IsFaulty report (option_map string_bytes found)
is_faulty report None good = good
is_faulty report (Some text) is = (is.0, ap string_bytes is.1)

pub returns : goal.returns
returns c =
    let at = c.in_ok-report in
    (at.report, at.ensures, is_faulty at.report c.faults_of.result c.faults_of.ensures)
