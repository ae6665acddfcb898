-- Logs that a host continues.
use Rattle.std.proofs.Common.{◌≡◌, List, [], ◌∷◌, ◌++◌, reverse, sym, subst}
use Rattle.std.proofs.lemmas.List.{reverse-append}
use Rattle.rig_model.specs.Base.{Setting}
use Rattle.rig_model.specs.Host.{host_after, after_event}
use Rattle.rig_model.specs.HostState.{HostState}
use Rattle.rig_model.specs.declared.events.Event.{Event}
use Rattle.host_core.specs.HostStanding.{HostStanding, Stands, TakesEvent}
use Rattle.rig_model.specs.declared.logged.Logged.{Logged}
use Rattle.rig_model.specs.Logs.{event_of, events_of, Gives, IsReplay}
use Rattle.locked_book.specs.inner.Books.{IsKept}

pub turned : (log : List Logged) (e : Logged) → reverse (log ++ e ∷ []) ≡ e ∷ reverse log
turned log e = reverse-append log (e ∷ [])

-- from each state that it represents, the host gives the entry and takes its event
abbrev pub GoesOn : HostStanding → HostStanding → Logged → Type 0
GoesOn host next e = (setting : Setting) (state : HostState) → Stands setting host state → Stands setting next (after_event setting state (event_of e)) × Gives setting state e

-- one more entry
pub kept_on : (base host next : HostStanding) (log : List Logged) (e : Logged) → IsKept base host log → GoesOn host next e → IsKept base next (log ++ e ∷ [])
kept_on base host next log e kept step setting stands =
    let k = kept setting stands in
    let t = step setting (host_after setting (events_of (reverse log))) k.0 in
    subst (λ past. Stands setting next (host_after setting (events_of past)) × IsReplay setting past) (sym (turned log e)) (t.0, (t.1, k.1))

-- an empty log
pub kept_none : (base host : HostStanding) → ((setting : Setting) (state : HostState) → Stands setting base state → Stands setting host state) → IsKept base host []
kept_none base host f setting stands = (f setting setting.base stands, tt)

-- an event that an equal host takes
pub takes_as : (e : Event) (one other next : HostStanding) → one ≡ other → TakesEvent e one next → TakesEvent e other next
takes_as e one other next same step = subst (λ h. TakesEvent e h next) same step
