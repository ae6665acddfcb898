use Rattle.std.proofs.Common.{List, reverse, Some, sym, ap, ◌∙◌, subst}
use Rattle.locked_book.specs.Books.{BookValue, IsMismatch, IsMissing, PassValue, setting_from}
use Rattle.host_core.proofs.of_laws.Replays.{log_kept_answers}
use Rattle.locked_book.proofs.desks.Desk.close.Goals as goal

pub returns-in-None-clause-answers : goal.returns-in-None-clause-answers
returns-in-None-clause-answers g c = λ state is_base st t.
    log_kept_answers (setting_from g.N.Naming.config state) (reverse c.compare-fault.new.self.log) t (c.known.ensures.legal.from_base state is_base st)

pub returns-in-Some-clause-mismatch : goal.returns-in-Some-clause-mismatch
returns-in-Some-clause-mismatch g c = λ seat e.
    let found = c.compare-fault.ensures.mismatch seat (c.in-Some.is ∙ ap Some e) in (
      c.compare-fault.new.self,
      c.known.ensures.legal,
      subst (λ (ps : List PassValue). IsMismatch c.compare-fault.new.self ps seat) c.deref.ensures.value
          (subst (λ (b : BookValue). IsMismatch b c.deref.result.now seat) (sym c.compare-fault.ensures.same) found),
    )

pub returns-in-Some-clause-missing : goal.returns-in-Some-clause-missing
returns-in-Some-clause-missing g c = λ seat e.
    let found = c.compare-fault.ensures.missing seat (c.in-Some.is ∙ ap Some e) in (
      c.compare-fault.new.self,
      c.known.ensures.legal,
      subst (λ (ps : List PassValue). IsMissing c.compare-fault.new.self ps seat) c.deref.ensures.value
          (subst (λ (b : BookValue). IsMissing b c.deref.result.now seat) (sym c.compare-fault.ensures.same) found),
    )
