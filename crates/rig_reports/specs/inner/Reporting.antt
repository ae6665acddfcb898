-- The report about the lines of a script so far.
use Rattle.std.specs.Prelude.{◌≡◌, ℕ, zero, suc, if◌then◌else◌, Bool, List, [], ◌∷◌, ◌++◌, length}
use Rattle.rig_script.specs.host.HostStanding.{HostStanding}
use Rattle.rig_model.specs.Base.{Setting}
use Rattle.rig_model.specs.Row.{is_running}
use Rattle.rig_model.specs.declared.events.Event.{Event}
use Rattle.rig_reports.specs.inner.Reported.{reported_from, overruns_up_to, row_after}
use Rattle.rig_script.specs.Instants.{is_instant}
use Rattle.rig_script.specs.cited.HostAnswers.{IsHostAfter}
use Rattle.rig_script.specs.cited.Past.{past_of}
use Rattle.script_reports.specs.cited.Reports.{report_on_lines}
use Rattle.script_reports.specs.declared.reports.Overrun.{Overrun}

-- which of the first n tenants run after these events
abbrev pub running_up_to : Setting → List Event → ℕ → List Bool
running_up_to setting past zero = []
running_up_to setting past (suc t) = running_up_to setting past t ++ is_running (row_after setting past t) ∷ []

-- `Holds` in each setting, for all events after which this host can be in its state
abbrev pub ForEachPastOf : HostStanding → (Setting → List Event → Type 0) → Type 0
ForEachPastOf host Holds = (setting : Setting) (past : List Event) → IsHostAfter setting host past → Holds setting past

-- the overruns at a line with these events, between two places
abbrev pub overruns_of : Setting → List Event → List Event → List Event → List Overrun
overruns_of setting events before past = if is_instant events then overruns_up_to setting before past (length setting.config.tenants) else []

-- the report is that about the lines of these texts, and these tenants run after them
abbrev pub IsReporting : Setting → List ℕ → List Bool → List (List ℕ) → Type 0
IsReporting setting report ran texts =
    (report ≡ report_on_lines (reported_from setting [] 0 texts)) × (ran ≡ running_up_to setting (past_of setting texts) (length setting.config.tenants))
