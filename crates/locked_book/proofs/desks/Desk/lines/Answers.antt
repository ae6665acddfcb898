use Rattle.std.proofs.Common.{◌++◌, reverse, sym, ◌∙◌, subst}
use Rattle.rig_model.specs.Base.{Setting}
use Rattle.rig_model.specs.Host.{host_after}
use Rattle.host_core.specs.HostStanding.{Stands}
use Rattle.locked_book.specs.Books.{BookValue, new_setting}
use Rattle.rig_model.specs.Logs.{events_of}
use Rattle.locked_book.proofs.desks.Desk.lines.Goals as goal

pub returns : goal.returns
returns g c =
    let setting : Setting = new_setting g.N.Naming.config g.N.Naming.first_tick in
    let legal = c.known.ensures.legal in
    let log = reverse c.deref.result.now.log ++ legal.past in (
      log,
      legal.whole,
      c.lines.ensures setting (host_after setting (events_of log))
          (subst (λ (b : BookValue). Stands setting b.host (host_after setting (events_of log))) (c.deref.ensures ∙ sym c.deref-2.ensures) legal.after),
    )
