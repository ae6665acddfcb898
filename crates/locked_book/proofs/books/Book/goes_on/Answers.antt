use Rattle.std.proofs.Common.{List, ◌++◌, reverse, length, subst}
use Rattle.rig_model.specs.Host.{host_after}
use Rattle.rig_model.specs.Logs.{IsLegalLog, events_of}
use Rattle.rig_model.specs.declared.logged.Logged.{Logged}
use Rattle.host_core.specs.HostStanding.{Stands}
use Rattle.host_core.proofs.of_laws.LaterBase.{new_is_base}
use Rattle.host_core.proofs.of_laws.Replays.{replay_legal}
use Rattle.locked_book.specs.Books.{BookValue, EndsIn, new_setting}
use Rattle.locked_book.proofs.Continued.{goes_on}
use Rattle.locked_book.proofs.books.Book.goes_on.Goals as goal

pub returns : goal.returns
returns g c =
    let rig = g.N.Naming.config in
    let first = g.N.Naming.first_tick in
    let book : BookValue = record { base = c.self.inside.base; host = c.self.inside.host; log = c.self.inside.log.items; seats = length c.self.inside.seats.items } in
    let kept = c.self.invariant.2.kept in
    subst (λ (b : BookValue). (past : List Logged) → EndsIn rig first past b.base → IsLegalLog (new_setting rig first) (reverse b.log ++ past) × Stands (new_setting rig first) b.host (host_after (new_setting rig first) (events_of (reverse b.log ++ past)))) c.self.view_is
    (λ past here.
    let both = goes_on (new_setting rig first) past book.log book.base.host book.host kept here.host here.replay in
    (replay_legal (new_setting rig first) (new_is_base rig first) (reverse book.log ++ past) both.1, both.0))
