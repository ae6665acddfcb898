-- Books: a host with its log from a base on, and the passes of its callers. The logs here have the oldest entry first.
use Rattle.std.specs.Prelude.{◌≡◌, ◌≢◌, ℕ, ◌+◌, ◌-◌, ◌<◌, ◌≤◌, nat_lt, Bool, true, false, ◌==◌, if◌then◌else◌, List, [], ◌∷◌, ◌++◌, length, map, reverse, drop, take, slice_get, slice_index_or, Option, Some, None, Result, OnOk, OnErr}
use Rattle.std.specs.List.{All, flat_map, list_any}
use Rattle.rig_model.specs.config.Roster.{Rig}
use Rattle.rig_model.specs.Base.{IsBase, Setting, new_base}
use Rattle.rig_model.specs.Host.{host_after}
use Rattle.rig_model.specs.HostState.{HostState, row_at}
use Rattle.rig_model.specs.Views.{after_command}
use Rattle.rig_model.specs.declared.events.Event.TheVariants.{Own}
use Rattle.host_core.specs.HostStanding.{ForEachState, HostStanding, Stands, TakesEvent, new_host}
use Rattle.host_core.specs.SameHosts.{IsSameHost}
use Rattle.rig_model.specs.Answers.{answers_of}
use Rattle.rig_model.specs.Logs.{IsLegalLog, IsReplay, answers_in, calls_of_seat, events_of}
use Rattle.rig_model.specs.Sources.{kept_of}
use Rattle.rig_model.specs.declared.lines.commands.Command.{Command}
use Rattle.locked_book.specs.declared.faults.DeskFault.{DeskFault}
use Rattle.locked_book.specs.declared.passes.TheConstants.{MOST_CALLS}
use Rattle.rig_model.specs.declared.logged.Call.{Call}
use Rattle.rig_model.specs.declared.logged.Logged.{Logged}
use Rattle.rig_model.specs.declared.logged.Logged.TheVariants as logged

-- the setting of a new host of this rig, whose first instant has this number
abbrev pub new_setting : Rig → ℕ → Setting
new_setting rig first_tick = record { config = rig; base = new_base rig first_tick }

-- what a log begins with: the host, how many entries there were before, and how many calls each seat had among them
pub record BaseValue : Type 0 where
  pub host : HostStanding
  pub entries_before : ℕ
  pub calls : List ℕ

-- how many calls a seat had before the log; none if it wasn't given
abbrev pub calls_before : BaseValue → ℕ → ℕ
calls_before base seat = slice_index_or base.calls seat 0

-- what the log of a new host begins with
abbrev pub beginning : Rig → ℕ → BaseValue
beginning rig first_tick = record { host = new_host rig first_tick; entries_before = 0; calls = [] }

-- What was logged before a base, the newest entry first: what a new host gives, after which the base's host is, with as many entries, and as
-- many calls of each seat, as the base says.
pub record EndsIn (rig : Rig) (first_tick : ℕ) (past : List Logged) (base : BaseValue) : Type 0 where
  pub replay : IsReplay (new_setting rig first_tick) past
  pub host : Stands (new_setting rig first_tick) base.host (host_after (new_setting rig first_tick) (events_of past))
  pub entries : base.entries_before ≡ length past
  pub calls : (seat : ℕ) → calls_before base seat ≡ length (calls_of_seat seat past)

-- the setting of a history that begins with this state
abbrev pub setting_from : Rig → HostState → Setting
setting_from rig state = record { config = rig; base = state }

-- A log, the oldest entry first, is legal from a base, and this is the host after it. A new host can reach the base, and what it did before is one
-- legal log with this one; and from each state that the base's host represents, this is a legal log too.
pub record IsLegalFrom (rig : Rig) (first_tick : ℕ) (base : BaseValue) (log : List Logged) (host : HostStanding) : Type 0 where
  pub past : List Logged
  pub reached : EndsIn rig first_tick past base
  pub whole : IsLegalLog (new_setting rig first_tick) (reverse log ++ past)
  pub after : Stands (new_setting rig first_tick) host (host_after (new_setting rig first_tick) (events_of (reverse log ++ past)))
  pub from_base : (state : HostState) → IsBase rig state → Stands (setting_from rig state) base.host state → IsLegalLog (setting_from rig state) (reverse log)

-- Two bases are the same: their hosts are, and they have as many entries, and as many calls of each seat, before them.
pub record IsSameBase (one other : BaseValue) : Type 0 where
  pub host : IsSameHost one.host other.host
  pub entries : one.entries_before ≡ other.entries_before
  pub calls : (seat : ℕ) → calls_before one seat ≡ calls_before other seat

-- a seat: the places of its calls in the log, and how many calls it has in all
pub record SeatValue : Type 0 where
  pub places : List ℕ
  pub calls : ℕ

-- a book: what its log begins with, the host, the log, and how many seats were given
pub record BookValue : Type 0 where
  pub base : BaseValue
  pub host : HostStanding
  pub log : List Logged
  pub seats : ℕ

-- how many entries there are, including those before the base
abbrev pub length_of : BookValue → ℕ
length_of book = book.base.entries_before + length book.log

-- the entry of a log at a place, counted from the host's beginning, if there were `before` entries before the log
abbrev pub entry_behind : ℕ → List Logged → ℕ → Option Logged
entry_behind before log place = if nat_lt place before then None else slice_get log (place - before)

-- the entry of the book's log at a place, counted from the host's beginning, if the log has it
abbrev pub entry_at : BookValue → ℕ → Option Logged
entry_at book place = entry_behind book.base.entries_before book.log place

-- no two of these places are equal
abbrev pub AreApart : List ℕ → Type 0
AreApart places = (i j : ℕ) → i < j → j < length places → slice_index_or places i 0 ≢ slice_index_or places j 0

-- places with their entries: no place is there twice, and the log has each entry at its place
pub record AllStand (book : BookValue) (entries : List (ℕ × Logged)) : Type 0 where
  pub each : All (λ (e : ℕ × Logged). entry_at book e.0 ≡ Some e.1) entries
  pub apart : AreApart (map (λ (e : ℕ × Logged). e.0) entries)

-- a pass: its seat, its calls, and the length of the longest log that it has seen
pub record PassValue : Type 0 where
  pub seat : ℕ
  pub calls : List Call
  pub seen : ℕ

-- The book knows a pass: its seat was given, its calls after the base are those of this seat in the log, and it hasn't seen a longer log.
pub record Knows (book : BookValue) (pass : PassValue) : Type 0 where
  pub given : pass.seat < book.seats
  pub before : calls_before book.base pass.seat ≤ length pass.calls
  pub calls : drop (calls_before book.base pass.seat) pass.calls ≡ calls_of_seat pass.seat book.log
  pub seen : pass.seen ≤ length_of book

-- A call of this pass by this tenant is strange to the book, whose length is n: the pass isn't full, and the tenant isn't in the roster or
-- the book doesn't know the pass.
abbrev pub IsStrange : BookValue → PassValue → ℕ → ℕ → Type 0
IsStrange book pass tenant n =
    (length pass.calls < MOST_CALLS) × (n ≡ length_of book) × (¬ ((tenant < length book.host.config.tenants) × Knows book pass))

-- A call was answered. It is the last entry of the log and the last call of the pass, which has now seen the log. The host has taken its
-- command, with this reply. Nothing else has changed.
pub record IsAnswered (old new : BookValue) (before after : PassValue) (call : Call) : Type 0 where
  pub log : new.log ≡ old.log ++ logged.Call before.seat call ∷ []
  pub pass : after ≡ record { seat = before.seat; calls = before.calls ++ call ∷ []; seen = length_of new }
  pub reply : ForEachState old.host (λ setting state. call.reply ≡ (after_command setting call.tenant call.command (row_at state call.tenant)).reply)
  pub step : TakesEvent (Own call.tenant call.command) old.host new.host
  pub base : new.base ≡ old.base
  pub seats : new.seats ≡ old.seats

-- the tenant and the command of a call
abbrev pub asked_by : Call → ℕ × Command
asked_by call = (call.tenant, call.command)

-- a tenant that asks for a command
abbrev pub asking : ℕ → Command → ℕ × Command
asking tenant command = (tenant, command)

-- The first of these commands of a tenant were called on a pass, one after the other: all of them, unless one was refused.
pub record AreCalled (tenant : ℕ) (commands : List Command) (result : Result Unit DeskFault) (old new : PassValue) : Type 0 where
  pub made : List Call
  pub calls : new.calls ≡ old.calls ++ made
  pub asked : map asked_by made ≡ map (asking tenant) (take (length made) commands)
  pub all : OnOk result (length made ≡ length commands)
  pub fewer : OnErr result (length made < length commands)

-- These calls of a pass end a log that is legal from a base, one after the other. The log's calls of this seat are those of the pass after the
-- base's number for the seat. The pass has seen the length of all that was logged.
pub record EndLegalLog (rig : Rig) (first_tick : ℕ) (pass : PassValue) (made : List Call) : Type 0 where
  pub base : BaseValue
  pub before : List Logged
  pub host : HostStanding
  pub legal : IsLegalFrom rig first_tick base (before ++ map (logged.Call pass.seat) made) host
  pub earlier : calls_before base pass.seat ≤ length pass.calls
  pub calls : calls_of_seat pass.seat (before ++ map (logged.Call pass.seat) made) ≡ drop (calls_before base pass.seat) pass.calls
  pub seen : pass.seen ≡ base.entries_before + (length before + length made)

-- what an archive has: the base at which its log begins, the log, and the base in which it ended
pub record ArchiveValue : Type 0 where
  pub base : BaseValue
  pub log : List Logged
  pub next : BaseValue

module _ (rig : Rig) (first_tick : ℕ) where
  -- where a piece begins: at the base of a new host, or where the piece before it ended
  abbrev pub BeginsAt : Option BaseValue → BaseValue → Type 0
  BeginsAt None base = EndsIn rig first_tick [] base
  BeginsAt (Some end) base = IsSameBase end base

  -- each archive begins where the piece before it ended, and the last base is where the last one ended
  abbrev pub Follow : Option BaseValue → List ArchiveValue → BaseValue → Type 0
  Follow end [] last = BeginsAt end last
  Follow end (archive ∷ rest) last = BeginsAt end archive.base × Follow (Some archive.next) rest last

  -- Archives join with a book that begins at this base: the first archive begins at the base of a new host, each next one where the one before it
  -- ended, and the book where the last one ended. Without archives, the book begins at the base of a new host.
  abbrev pub AreJoined : List ArchiveValue → BaseValue → Type 0
  AreJoined archives base = Follow None archives base

-- each tenant was answered in a log, the newest entry first, what it is over the part of the log's events that is kept for it
abbrev pub HasKeptAnswers : Setting → List Logged → Type 0
HasKeptAnswers setting log = (t : ℕ) → answers_in log t ≡ answers_of setting (kept_of setting (events_of log) t) t

-- A log, the oldest entry first, is all that a new host did: it is legal, the host is the one after it, and its answers are those of the kept
-- parts.
pub record IsWholeLog (rig : Rig) (first_tick : ℕ) (log : List Logged) (host : HostStanding) : Type 0 where
  pub legal : IsLegalLog (new_setting rig first_tick) (reverse log)
  pub after : Stands (new_setting rig first_tick) host (host_after (new_setting rig first_tick) (events_of (reverse log)))
  pub answers : HasKeptAnswers (new_setting rig first_tick) (reverse log)

-- all that archives and a log have, the oldest entry first
abbrev pub joined_log : List ArchiveValue → List Logged → List Logged
joined_log archives log = flat_map (λ (a : ArchiveValue). a.log) archives ++ log

-- some book of this rig is so, whose log is legal from its base
abbrev pub IsClosedBook : Rig → ℕ → (BookValue → Type 0) → Type 0
IsClosedBook rig first_tick Is = (book : BookValue) × IsLegalFrom rig first_tick book.base book.log book.host × Is book

-- the base that a book hands on: its host, its length, and the number of calls of each seat
pub record IsNextBase (book : BookValue) (base : BaseValue) : Type 0 where
  pub host : base.host ≡ book.host
  pub entries : base.entries_before ≡ length_of book
  pub calls : (seat : ℕ) → calls_before base seat ≡ calls_before book.base seat + length (calls_of_seat seat book.log)

-- whether one of these passes has the seat
abbrev pub has_seat : List PassValue → ℕ → Bool
has_seat passes seat = list_any (λ (p : PassValue). p.seat == seat) passes

abbrev pub pass_at : List PassValue → ℕ → PassValue
pass_at passes i = slice_index_or passes i (record { seat = 0; calls = []; seen = 0 })

-- the pass at this place of a list is known, and no pass before it has its seat
pub record Matches (book : BookValue) (passes : List PassValue) (i : ℕ) : Type 0 where
  pub known : Knows book (pass_at passes i)
  pub once : has_seat (take i passes) (pass_at passes i).seat ≡ false

-- the first of these passes that doesn't match has this seat
pub record IsMismatch (book : BookValue) (passes : List PassValue) (seat : ℕ) : Type 0 where
  pub place : ℕ
  pub within : place < length passes
  pub its_seat : seat ≡ (pass_at passes place).seat
  pub before : (k : ℕ) → k < place → Matches book passes k
  pub first : ¬ (Matches book passes place)

-- all these passes match, and this is the least seat that has a call in the log and no pass
pub record IsMissing (book : BookValue) (passes : List PassValue) (seat : ℕ) : Type 0 where
  pub all : (k : ℕ) → k < length passes → Matches book passes k
  pub called : calls_of_seat seat book.log ≢ []
  pub none : has_seat passes seat ≡ false
  pub least : (s : ℕ) → s < seat → calls_of_seat s book.log ≢ [] → has_seat passes s ≡ true

-- all these passes match, and each call in the log is of one of their seats
pub record AreAll (book : BookValue) (passes : List PassValue) : Type 0 where
  pub all : (k : ℕ) → k < length passes → Matches book passes k
  pub called : (s : ℕ) → calls_of_seat s book.log ≢ [] → has_seat passes s ≡ true
