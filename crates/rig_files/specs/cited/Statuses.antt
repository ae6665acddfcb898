-- The exit status of each fault of a subcommand.
use Rattle.std.specs.Prelude.{ℕ}
use Rattle.rig_files.specs.declared.faults.SubcommandFault.{SubcommandFault}
use Rattle.rig_files.specs.declared.faults.SubcommandFault.TheVariants.{Arguments, Configuration, Script, Picture, Run, Faulty, Unread, Reported, Short}

-- 2 for arguments, 1 for the configuration, 4 if something is wrong with what was read, 3 for the rest
abbrev pub status_of : SubcommandFault → ℕ
status_of (Arguments error) = 2
status_of (Configuration fault) = 1
status_of (Script fault) = 3
status_of (Picture fault) = 3
status_of (Run fault) = 3
status_of Faulty = 4
status_of Unread = 3
status_of (Reported report) = 4
status_of (Short shortfall) = 4
