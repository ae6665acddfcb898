-- A history that goes on from a later state: what a log makes of it is what both logs together make of the first state.
use Rattle.std.proofs.Common.{◌≡◌, ℕ, ◌+◌, List, [], ◌∷◌, ◌++◌, length, reverse, refl, sym, ap, ◌∙◌, subst, append-nil, append_assoc, arith}
use Rattle.std.proofs.lemmas.List.{length-append, length-reverse, reverse-append}
use Rattle.rig_model.specs.config.Roster.{Rig}
use Rattle.rig_model.specs.declared.logged.Call.{Call}
use Rattle.rig_model.specs.declared.logged.Logged.{Logged}
use Rattle.rig_model.specs.declared.logged.Logged.TheVariants as logged
use Rattle.rig_model.specs.Base.{Setting}
use Rattle.rig_model.specs.Host.{host_after, after_event}
use Rattle.rig_model.specs.HostState.{HostState}
use Rattle.rig_model.specs.Logs.{calls_of_seat, event_of, events_of, Gives, IsReplay}
use Rattle.host_core.specs.HostStanding.{HostStanding, Stands}
use Rattle.locked_book.specs.Books.{new_setting, setting_from}
use Rattle.locked_book.specs.inner.Books.{IsKept}
use Rattle.locked_book.proofs.Places.{calls_append}

-- the setting of a history that goes on after this one
abbrev pub later : Setting → List Logged → Setting
later setting past = setting_from setting.config (host_after setting (events_of past))

pub stands_later : (setting : Setting) (past : List Logged) (host : HostStanding) (state : HostState) → Stands setting host state → Stands (later setting past) host state
stands_later setting past host state st = record {
  same_config = st.same_config;
  same_clock = st.same_clock;
  as_many = st.as_many;
  all_rows = st.all_rows;
  placed = st.placed;
  each = st.each;
  counts = st.counts;
  results = st.results;
}

pub stands_before : (setting : Setting) (past : List Logged) (host : HostStanding) (state : HostState) → Stands (later setting past) host state → Stands setting host state
stands_before setting past host state st = record {
  same_config = st.same_config;
  same_clock = st.same_clock;
  as_many = st.as_many;
  all_rows = st.all_rows;
  placed = st.placed;
  each = st.each;
  counts = st.counts;
  results = st.results;
}

pub after_both : (setting : Setting) (past log : List Logged) → host_after (later setting past) (events_of log) ≡ host_after setting (events_of (log ++ past))
after_both setting past [] = refl
after_both setting past (e ∷ log) = ap (λ h. after_event setting h (event_of e)) (after_both setting past log)

pub replay_both : (setting : Setting) (past log : List Logged) → IsReplay (later setting past) log → IsReplay setting past → IsReplay setting (log ++ past)
replay_both setting past [] new old = old
replay_both setting past (e ∷ log) new old = (subst (λ h. Gives setting h e) (after_both setting past log) new.0, replay_both setting past log new.1 old)

-- a host that is kept from a base goes on from what came before the base
pub goes_on : (setting : Setting) (past log : List Logged) (base host : HostStanding) → IsKept base host log → Stands setting base (host_after setting (events_of past)) → IsReplay setting past
    → Stands setting host (host_after setting (events_of (reverse log ++ past))) × IsReplay setting (reverse log ++ past)
goes_on setting past log base host kept st before =
    let on = kept (later setting past) (stands_later setting past base (host_after setting (events_of past)) st) in (
      subst (Stands setting host) (after_both setting past (reverse log)) (stands_before setting past host _ on.0),
      replay_both setting past (reverse log) on.1 before,
    )

-- the calls of a seat in both logs
pub calls_reversed : (seat : ℕ) (log : List Logged) → length (calls_of_seat seat (reverse log)) ≡ length (calls_of_seat seat log)
calls_reversed seat [] = refl
calls_reversed seat (e ∷ log) =
    let turned : reverse (e ∷ log) ≡ reverse log ++ e ∷ [] = reverse-append (e ∷ []) log in
    let both = ap length (ap (calls_of_seat seat) turned ∙ calls_append seat (reverse log) (e ∷ [])) ∙ length-append (calls_of_seat seat (reverse log)) (calls_of_seat seat (e ∷ [])) in
    let front = ap length (calls_append seat (e ∷ []) log) ∙ length-append (calls_of_seat seat (e ∷ [])) (calls_of_seat seat log) in
    let rest = calls_reversed seat log in
    omega (arith, both, front, rest)

pub calls_both : (seat : ℕ) (past log : List Logged) → length (calls_of_seat seat (reverse log ++ past)) ≡ length (calls_of_seat seat past) + length (calls_of_seat seat log)
calls_both seat past log =
    let both = ap length (calls_append seat (reverse log) past) ∙ length-append (calls_of_seat seat (reverse log)) (calls_of_seat seat past) in
    let same = calls_reversed seat log in
    omega (arith, both, same)

pub length_both : (past log : List Logged) → length (reverse log ++ past) ≡ length past + length log
length_both past log = let both = length-append (reverse log) past in let same = length-reverse log in omega (arith, both, same)
