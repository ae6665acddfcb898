-- An audit that has come to some place of the text.
use Rattle.std.specs.Prelude.{◌≡◌, ℕ, ◌+◌, ◌≤◌, List, ◌++◌, Option, filter, length, reverse, string_bytes, sum_by}
use Rattle.rig_history.specs.declared.audits.Front.{Front}
use Rattle.rig_history.specs.declared.audits.Front.TheVariants.{Entry, Stop}
use Rattle.rig_history.specs.Audits.{calls_in, is_call_of}
use Rattle.rig_history.specs.Entries.{text_of_entry, text_of_log}
use Rattle.rig_model.specs.Base.{Setting, new_base}
use Rattle.rig_model.specs.config.Roster.{Rig}
use Rattle.rig_model.specs.Host.{after_event, host_after}
use Rattle.rig_model.specs.Logs.{Gives, IsReplay, event_of, events_of}
use Rattle.rig_model.specs.declared.logged.Logged.{Logged}
use Rattle.host_core.specs.HostStanding.{ForEachState, HostStanding, Stands}

-- the setting of a new host of this rig, whose first instant has this number
abbrev pub first_setting : Rig → ℕ → Setting
first_setting rig first_tick = record { config = rig; base = new_base rig first_tick }

-- from each state that it represents, the host gives the entry and takes its event
abbrev pub HasGiven : HostStanding → HostStanding → Logged → Type 0
HasGiven before after e = ForEachState before (λ setting state. Stands setting after (after_event setting state (event_of e)) × Gives setting state e)

-- The host gave this entry, and its text `own` is at the front of a text, before `later`.
pub record HasRead (rig : Rig) (before after : HostStanding) (entry : Logged) (own text later : List ℕ) : Type 0 where
  pub given : HasGiven before after entry
  pub written : own ≡ text_of_entry rig before.clock entry
  pub spells : text ≡ own ++ later

-- The host gave the entries of a text up to its rest. `calls` is the text of those that are calls of this tenant.
pub record HasPlayed (rig : Rig) (first_tick : ℕ) (tenant : Option ℕ) (host : HostStanding) (entries replies : ℕ) (calls text rest : List ℕ) : Type 0 where
  pub log : List Logged
  pub replay : IsReplay (first_setting rig first_tick) log
  pub reached : Stands (first_setting rig first_tick) host (host_after (first_setting rig first_tick) (events_of log))
  pub spells : text ≡ text_of_log rig first_tick (reverse log) ++ rest
  pub as_many : entries ≡ length log
  pub answered : replies ≡ sum_by calls_in log
  pub called : calls ≡ text_of_log rig first_tick (reverse (filter (is_call_of tenant) log))
  pub bound : entries + length rest ≤ length text
  pub fewer : replies ≤ entries

-- what is at the front of a text: an entry that the host gave, or nothing that is claimed
abbrev pub IsFront : Rig → HostStanding → HostStanding → List ℕ → Front → Type 0
IsFront rig before after text (Entry found) = HasRead rig before after found.entry (string_bytes found.text) text found.later.now
IsFront rig before after text (Stop why) = Unit {0}
