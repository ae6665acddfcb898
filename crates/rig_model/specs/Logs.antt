-- The log of a host: what was done to it, with the replies that were given. Here the newest entry of a log comes first.
use Rattle.std.specs.Prelude.{◌≡◌, ◌<◌, ◌-◌, ◌^◌, ℕ, true, ◌==◌, if◌then◌else◌, List, [], ◌∷◌, ◌++◌, map, length}
use Rattle.tenant_lines.specs.config.Roster.{is_tenant}
use Rattle.tenant_lines.specs.Replies.{text_of_reply}
use Rattle.rig_model.specs.Base.{Setting}
use Rattle.rig_model.specs.Host.{host_after}
use Rattle.rig_model.specs.HostState.{HostState, row_at, is_awaited}
use Rattle.rig_model.specs.Legal.{IsHistory, counts}
use Rattle.rig_model.specs.Views.{after_command, row_of}
use Rattle.rig_model.specs.declared.events.Event.{Event}
use Rattle.rig_model.specs.declared.events.Event.TheVariants as event
use Rattle.rig_model.specs.declared.logged.Call.{Call}
use Rattle.rig_model.specs.declared.logged.Logged.{Logged}
use Rattle.rig_model.specs.declared.logged.Logged.TheVariants as logged

-- what an entry did to the host
abbrev pub event_of : Logged → Event
event_of (logged.Call seat call) = event.Own call.tenant call.command
event_of (logged.Tick frame) = event.Tick frame
event_of (logged.Done j) = event.Done j

-- the events of a log
abbrev pub events_of : List Logged → List Event
events_of log = map event_of log

-- the calls of a seat, in the order of the log
abbrev pub calls_of_seat : ℕ → List Logged → List Call
calls_of_seat seat [] = []
calls_of_seat seat (logged.Call s call ∷ log) = if s == seat then call ∷ calls_of_seat seat log else calls_of_seat seat log
calls_of_seat seat (logged.Tick frame ∷ log) = calls_of_seat seat log
calls_of_seat seat (logged.Done j ∷ log) = calls_of_seat seat log

-- what the tenant at place t was answered: the replies to its calls, each followed by LF, in the order in which they were given
abbrev pub answers_in : List Logged → ℕ → List ℕ
answers_in [] t = []
answers_in (logged.Call seat call ∷ past) t = if call.tenant == t then answers_in past t ++ (text_of_reply call.reply ++ 10 ∷ []) else answers_in past t
answers_in (logged.Tick frame ∷ past) t = answers_in past t
answers_in (logged.Done j ∷ past) t = answers_in past t

module _ (setting : Setting) where
  -- An entry holds after the past: a call has the reply of the tenant's own machine over its view of the past, and a completion counts.
  abbrev pub Holds : List Logged → Logged → Type 0
  Holds past (logged.Call seat call) = call.reply ≡ (after_command setting call.tenant call.command (row_of setting (events_of past) call.tenant)).reply
  Holds past (logged.Tick frame) = Unit {0}
  Holds past (logged.Done j) = counts setting (events_of past) j ≡ true

  -- each entry holds after those before it
  abbrev pub AllHold : List Logged → Type 0
  AllHold [] = Unit {0}
  AllHold (e ∷ past) = Holds past e × AllHold past

  -- The host gives an entry in this state: the reply to a command of a tenant of the roster, an instant that it doesn't refuse, or a
  -- completion that it awaits.
  abbrev pub Gives : HostState → Logged → Type 0
  Gives state (logged.Call seat call) = (is_tenant setting.config call.tenant ≡ true) × (call.reply ≡ (after_command setting call.tenant call.command (row_at state call.tenant)).reply)
  Gives state (logged.Tick frame) = (length frame ≡ setting.config.lines) × (state.clock < 2 ^ 64 - 1)
  Gives state (logged.Done j) = is_awaited state j ≡ true

  -- each entry is what the host gives after the entries before it
  abbrev pub IsReplay : List Logged → Type 0
  IsReplay [] = Unit {0}
  IsReplay (e ∷ past) = Gives (host_after setting (events_of past)) e × IsReplay past

-- a legal log from a base: its events can happen, and each entry holds after those before it
pub record IsLegalLog (setting : Setting) (log : List Logged) : Type 0 where
  pub history : IsHistory setting (events_of log)
  pub holds : AllHold setting log
