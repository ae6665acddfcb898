use Rattle.std.proofs.Common.{rules, ◌≡◌, ◌<◌, Bool, false, List, get_or, length, ap, sym, subst, ◌∙◌}
use Rattle.rig_script.specs.host.HostStanding.{HostStanding}
use Rattle.rig_model.specs.config.Roster.{Rig}
use Rattle.rig_model.specs.Row.{is_running}
use Rattle.rig_script.specs.cited.HostAnswers.{IsHostAfter}
use Rattle.rig_reports.proofs.Standing.{each_ran, stops_more}
use Rattle.rig_reports.specs.inner.Reported.{row_after}
use Rattle.rig_reports.proofs.overruns.overruns.Goals as goal

pub loop-tenant-preserved : goal.loop-tenant-preserved
loop-tenant-preserved c =
    let l = c.loop-tenant in
    let within : l.tenant < length c.args.host.now.config.tenants = search rules in
    record {
      same = c.in_ok-overrun.ensures.same ∙ l.invariant.same;
      each = λ before setting past h ran.
          let there : l.tenant < length setting.config.tenants = subst (λ (r : Rig). l.tenant < length r.tenants) h.stands.same_config within in
          let row = row_after setting before l.tenant in
          let did : c.ran_at.result ≡ is_running row =
          c.ran_at.ensures ∙ (ap (λ (rs : List Bool). get_or rs l.tenant false) ran ∙ each_ran setting before (length setting.config.tenants) l.tenant there) in
          let stop = c.in_ok-overrun.ensures.overrun row did setting past (subst (λ (k : HostStanding). IsHostAfter setting k past) (sym l.invariant.same) h) in
          stops_more setting before past l.tenant c.in_ok-overrun.overrun l.overruns.items c.add.new.overruns.items (l.invariant.each before setting past h ran) stop c.in_ok-add.ensures;
    }
