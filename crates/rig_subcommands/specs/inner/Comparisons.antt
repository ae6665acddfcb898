-- Two scripts compared: the path of their configuration, which faults are those of a script, and whether the comparison says all that it
-- seems to.
use Rattle.std.specs.Prelude.{◌≡◌, ℕ, Bool, true, false, if◌then◌else◌, List, Option, Some, None}
use Rattle.rig_script.specs.declared.courses.Course.{Course}
use Rattle.rig_script.specs.declared.faults.ScriptFault.TheVariants.{Read, Write, Turns, Memory}
use Rattle.rig_files.specs.declared.faults.SubcommandFault.{SubcommandFault}
use Rattle.rig_files.specs.declared.faults.SubcommandFault.TheVariants.{Arguments, Configuration, Script, Picture, Run, Faulty, Unread, Reported, Short}

-- the first of two paths, or else the other
abbrev pub first_of : Option (List ℕ) → Option (List ℕ) → Option (List ℕ)
first_of None other = other
first_of (Some path) other = Some path

-- whether a fault is one of a script: it can't be read, or isn't a run
abbrev pub is_of_script : SubcommandFault → Bool
is_of_script (Run why) = true
is_of_script (Picture why) = true
is_of_script (Script Read) = true
is_of_script (Script Write) = false
is_of_script (Script Turns) = false
is_of_script (Script Memory) = false
is_of_script (Arguments error) = false
is_of_script (Configuration why) = false
is_of_script Faulty = false
is_of_script Unread = false
is_of_script (Reported report) = false
is_of_script (Short shortfall) = false

-- the fault of reading a script: one of the script is reported with the script's name
abbrev pub reported_fault : SubcommandFault → SubcommandFault
reported_fault fault = if is_of_script fault then Unread else fault

-- the script was answered to its end, and has a line of a tenant
abbrev pub IsWhole : Course → Type 0
IsWhole course = (course.bad_line ≡ None) × (course.has_tenant ≡ true)
