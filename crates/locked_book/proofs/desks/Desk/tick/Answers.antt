use Rattle.std.proofs.Common.{◌≡◌, ◌≢◌, ◌↔◌, ◌++◌, Err, List, Ok, ℕ, ap, length, reverse, sym, ◌∙◌, subst}
use Rattle.std.proofs.lemmas.Result.{err_from_is_err_and}
use Rattle.host_core.specs.declared.hosts.TickFault.{TickFault}
use Rattle.host_core.specs.declared.hosts.TickFault.TheVariants.{BadFrame}
use Rattle.rig_model.specs.config.Roster.{Rig}
use Rattle.rig_model.specs.Host.{host_after}
use Rattle.rig_model.specs.declared.logged.Logged.{Logged}
use Rattle.host_core.specs.HostStanding.{Stands}
use Rattle.locked_book.specs.Books.{BookValue, EndsIn, IsLegalFrom, new_setting}
use Rattle.rig_model.specs.Logs.{events_of}
use Rattle.locked_book.proofs.Instants.{ticked}
use Rattle.locked_book.proofs.desks.Desk.tick.Goals as goal

-- a book whose log is legal has the rig of its name
of_rig : (rig : Rig) (first : ℕ) (known book : BookValue) → known ≡ book → IsLegalFrom rig first known.base known.log known.host → book.host.config ≡ rig
of_rig rig first known book same legal = subst (λ (b : BookValue). b.host.config ≡ rig) same legal.after.same_config

pub returns : goal.returns
returns g c =
    let rig = g.N.Naming.config in
    let first = g.N.Naming.first_tick in
    let old = c.deref_mut.result.now in
    let new = c.tick.new.self in
    let same : c.deref.result.now ≡ old = c.deref.ensures ∙ sym c.deref_mut.ensures.value in
    let done = c.in_ok-answer.ensures in
    record {
      ok = ticked rig first old new c.args.frame.now c.in_ok-answer.answer.1 c.in_ok-answer.answer.0.jobs
          (subst (λ (b : BookValue). (past : List Logged) → EndsIn rig first past b.base → Stands (new_setting rig first) b.host (host_after (new_setting rig first) (events_of (reverse b.log ++ past)))) same
          (λ past here. (c.goes_on.ensures past here).1))
          (subst (λ (b : BookValue). IsLegalFrom rig first b.base b.log b.host) c.deref-3.ensures c.leave.ensures)
          done.base.0 done.ok.0 done.ok.1 done.jobs;
      bad_frame = subst (λ (r : Rig). (Ok c.in_ok-answer.answer ≡ Err BadFrame) ↔ (length c.args.frame.now ≢ r.lines)) (of_rig rig first c.deref-2.result.now old (c.deref-2.ensures ∙ sym c.deref_mut.ensures.value) c.known.ensures.legal) done.bad_frame;
    }

pub returns-in_err-answer-clause-bad_frame : goal.returns-in_err-answer-clause-bad_frame
returns-in_err-answer-clause-bad_frame g c =
    let rig = g.N.Naming.config in
    let first = g.N.Naming.first_tick in
    let old = c.deref_mut.result.now in
    let failed = err_from_is_err_and c.from_residual.result c.from_residual.ensures.1 in
    let fault = c.in_err-answer.field-0.0 in
    subst (λ res. (res ≡ Err BadFrame) ↔ (length c.args.frame.now ≢ rig.lines)) (sym (failed.1 ∙ ap (λ f. Err f) failed.2))
    (subst (λ (r : Rig). (Err fault ≡ Err BadFrame) ↔ (length c.args.frame.now ≢ r.lines)) (of_rig rig first c.deref-2.result.now old (c.deref-2.ensures ∙ sym c.deref_mut.ensures.value) c.known.ensures.legal) c.in_err-answer.ensures.bad_frame)
