-- What the audit of a text finds.
use Rattle.std.specs.Prelude.{◌≡◌, ◌==◌, ℕ, Bool, false, List, Option, None, Some, filter, length, reverse, sum_by}
use Rattle.rig_history.specs.Entries.{text_of_log}
use Rattle.rig_model.specs.config.Roster.{Rig}
use Rattle.rig_model.specs.Base.{new_base}
use Rattle.rig_model.specs.Logs.{IsReplay}
use Rattle.rig_model.specs.declared.logged.Logged.{Logged}
use Rattle.rig_model.specs.declared.logged.Logged.TheVariants as logged

-- how many calls an entry is
abbrev pub calls_in : Logged → ℕ
calls_in (logged.Call seat call) = 1
calls_in (logged.Tick frame) = 0
calls_in (logged.Done j) = 0

-- whether an entry is a call of this tenant
abbrev pub is_call_of : Option ℕ → Logged → Bool
is_call_of (Some tenant) (logged.Call seat call) = call.tenant == tenant
is_call_of (Some tenant) (logged.Tick frame) = false
is_call_of (Some tenant) (logged.Done j) = false
is_call_of None e = false

-- A text is a history of a new host of this rig: the text of a log, the newest entry first, in which each entry is what the host gives after those
-- before it. The log has `entries` entries; `replies` of them are calls, each with its reply. `calls` is the text of those of this tenant.
pub record IsHistoryText (rig : Rig) (first_tick : ℕ) (tenant : Option ℕ) (entries replies : ℕ) (calls text : List ℕ) : Type 0 where
  pub log : List Logged
  pub replay : IsReplay (record { config = rig; base = new_base rig first_tick }) log
  pub spells : text ≡ text_of_log rig first_tick (reverse log)
  pub as_many : entries ≡ length log
  pub answered : replies ≡ sum_by calls_in log
  pub called : calls ≡ text_of_log rig first_tick (reverse (filter (is_call_of tenant) log))
