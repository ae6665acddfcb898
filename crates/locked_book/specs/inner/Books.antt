-- What a book keeps, and what is known of it at any time. The logs here have the oldest entry first.
use Rattle.std.specs.Prelude.{◌≡◌, ◌≢◌, ℕ, ◌+◌, ◌*◌, ◌-◌, ◌<◌, ◌≤◌, ◌^◌, ◌==◌, if◌then◌else◌, List, [], ◌∷◌, ◌++◌, length, map, reverse, slice_index_or, sum_by, Option, Some, None}
use Rattle.std.specs.List.{All}
use Rattle.rig_model.specs.config.Roster.{Rig}
use Rattle.rig_model.specs.Base.{Setting, new_base}
use Rattle.rig_model.specs.Host.{host_after}
use Rattle.host_core.specs.HostStanding.{HostStanding, Stands, outstanding_count}
use Rattle.rig_model.specs.Logs.{calls_of_seat, events_of, IsReplay}
use Rattle.locked_book.specs.Books.{ArchiveValue, BaseValue, EndsIn, IsSameBase, Knows, calls_before, BookValue, PassValue, SeatValue, length_of, new_setting}
use Rattle.rig_model.specs.declared.logged.Call.{Call}
use Rattle.locked_book.specs.declared.books.TheConstants.{MOST_SEATS}
use Rattle.locked_book.specs.declared.passes.TheConstants.{MOST_CALLS}
use Rattle.rig_model.specs.declared.logged.Logged.{Logged}
use Rattle.rig_model.specs.declared.logged.Logged.TheVariants as logged

-- Whatever state the base represents, the host represents the state after the log from there on, and each entry is what the host gave.
abbrev pub IsKept : HostStanding → HostStanding → List Logged → Type 0
IsKept base host log = (setting : Setting) → Stands setting base setting.base
    → Stands setting host (host_after setting (events_of (reverse log))) × IsReplay setting (reverse log)

abbrev pub seat_at : List SeatValue → ℕ → SeatValue
seat_at seats seat = slice_index_or seats seat (record { places = []; calls = 0 })

-- a seat of whose calls none is in the log
abbrev pub without_places : SeatValue → SeatValue
without_places s = record { places = []; calls = s.calls }

-- the places of a seat's calls, if the first entry has place i
abbrev pub places_from : ℕ → ℕ → List Logged → List ℕ
places_from seat i [] = []
places_from seat i (logged.Call s call ∷ log) = if s == seat then i ∷ places_from seat (i + 1) log else places_from seat (i + 1) log
places_from seat i (logged.Tick frame ∷ log) = places_from seat (i + 1) log
places_from seat i (logged.Done j ∷ log) = places_from seat (i + 1) log

-- each seat has the places of its calls
abbrev pub ArePlaces : List SeatValue → List Logged → Type 0
ArePlaces seats log = (seat : ℕ) → (seat_at seats seat).places ≡ places_from seat 0 log

-- the call of an entry
abbrev pub call_of : Logged → Option Call
call_of (logged.Call s call) = Some call
call_of (logged.Tick frame) = None
call_of (logged.Done j) = None

abbrev pub call_at : List Logged → ℕ → Option Call
call_at log i = call_of (slice_index_or log i (logged.Tick []))

-- the calls of a pass are the first calls of its seat in the log
abbrev pub HasFirstCalls : BookValue → PassValue → Type 0
HasFirstCalls book pass = (others : List Call) × (calls_of_seat pass.seat book.log ≡ pass.calls ++ others)

-- What is known of a book of this rig, whose host began with this tick. `bound` says that its lengths fit 128 bits: each entry is a call of
-- a seat, or belongs to one of the instants, each of which has fewer than 2^64 jobs.
pub record IsBook (rig : Rig) (first_tick : ℕ) (book : BookValue) (seats : List SeatValue) : Type 0 where
  pub reached : (past : List Logged) × EndsIn rig first_tick past book.base
  pub kept : IsKept book.base.host book.host book.log
  pub places : ArePlaces seats book.log
  pub counts : (seat : ℕ) → (seat_at seats seat).calls ≡ calls_before book.base seat + length (calls_of_seat seat book.log)
  pub small : All (λ (s : SeatValue). s.calls ≤ MOST_CALLS) seats
  pub few : length seats ≤ MOST_SEATS
  pub begun : first_tick ≤ book.host.clock
  pub clock : book.host.clock < 2 ^ 64
  pub bound : book.base.entries_before + length book.log + outstanding_count book.host ≤ sum_by (λ (s : SeatValue). s.calls) seats + 2 ^ 64 * (book.host.clock - first_tick)

-- What is known of an archive of this rig: its log is legal from its base, and ends in the next one.
pub record IsArchive (rig : Rig) (first_tick : ℕ) (archive : ArchiveValue) : Type 0 where
  pub past : List Logged
  pub reached : EndsIn rig first_tick past archive.base
  pub kept : IsKept archive.base.host archive.next.host archive.log
  pub next : EndsIn rig first_tick (reverse archive.log ++ past) archive.next

-- whether a piece begins where the one before it ended; if there is none, nothing was logged before it
abbrev pub IsBegun : Option BaseValue → BaseValue → Type 0
IsBegun None base = base.entries_before ≡ 0
IsBegun (Some end) base = IsSameBase end base

-- what was logged up to the end of a piece: nothing, if there is none
abbrev pub Reached : Rig → ℕ → Option BaseValue → List Logged → Type 0
Reached rig first_tick None past = past ≡ []
Reached rig first_tick (Some end) past = EndsIn rig first_tick past end

-- Calls were made on a book, one after the other: they are the last entries of its log and the last calls of the pass, which has now seen
-- the log. If none was made, the pass hasn't changed.
pub record AreMade (made : List Call) (old new : BookValue) (before after : PassValue) : Type 0 where
  pub log : new.log ≡ old.log ++ map (logged.Call before.seat) made
  pub calls : after.calls ≡ before.calls ++ made
  pub seat : after.seat ≡ before.seat
  pub none : made ≡ [] → after ≡ before
  pub known : made ≢ [] → (after.seen ≡ length_of new) × Knows new after
