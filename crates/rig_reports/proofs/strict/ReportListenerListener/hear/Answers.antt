use Rattle.std.proofs.Common.{sym, subst, ◌∙◌}
use Rattle.std.specs.Option.{option_map}
use Rattle.rig_script.specs.host.HostStanding.{HostStanding}
use Rattle.rig_script.specs.cited.HostAnswers.{IsHostAfter}
use Rattle.rig_reports.proofs.Reporting.{hears_report}
use Rattle.rig_reports.proofs.strict.ReportListenerListener.hear.Goals as goal

pub returns-clause-heard : goal.returns-clause-heard
returns-clause-heard c =
    hears_report c.add_line.result c.args.self.now.report c.add_line.new.self c.args.self.now.ran.items c.in_ok-self.field-0.items (option_map (λ r. r.now) c.refusal.result) c.as_slice-2.result.now c.args.host.now c.args.line c.refusal.ensures
    (λ earlier setting past h ran. c.as_slice-2.ensures.value ∙ c.in_ok-stops.ensures.each earlier setting past h (c.as_slice.ensures.value ∙ ran))
    (λ setting past h. c.in_ok-self.ensures.each setting past (subst (λ (k : HostStanding). IsHostAfter setting k past) (sym c.in_ok-stops.ensures.same) h)) c.add_line.ensures
