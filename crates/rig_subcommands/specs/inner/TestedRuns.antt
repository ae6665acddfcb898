-- How the tests of runs ended, and what is printed of that.
use Rattle.std.specs.Prelude.{ℕ, Bool, true, false, ◌+◌, ◌-◌, ◌^◌, min, List, ◌++◌, Option, None, Some, codes}
use Rattle.std.specs.Fmt.{decimal}
use Rattle.rig_model.specs.declared.config.faults.ConfigFault.TheVariants as config
use Rattle.plant_couplings.specs.declared.faults.PlantFault.TheVariants as plant
use Rattle.rig_files.specs.declared.configuration.ConfigurationFault.TheVariants.{Plant, Refused, Unreadable}
use Rattle.rig_files.specs.declared.faults.SubcommandFault.{SubcommandFault}
use Rattle.rig_files.specs.declared.faults.SubcommandFault.TheVariants as fault
use Rattle.rig_subcommands.specs.declared.tested_runs.Outcome.{Outcome}
use Rattle.rig_subcommands.specs.declared.tested_runs.Outcome.TheVariants.{AsRecorded, Different, Updated}
use Rattle.rig_subcommands.specs.declared.tested_runs.Tally.{Tally}

-- the words after the name of a run
abbrev pub text_of_outcome : Outcome → List ℕ
text_of_outcome AsRecorded = codes "as recorded"
text_of_outcome Different = codes "different"
text_of_outcome Updated = codes "different, updated"

-- one more, up to the greatest number of 64 bits
abbrev pub one_more : ℕ → ℕ
one_more n = min (n + 1) (2 ^ 64 - 1)

-- the numbers with one more test; `None` is a run that isn't tested
abbrev pub counted : Option Outcome → Tally → Tally
counted (Some AsRecorded) t = record { as_recorded = one_more t.as_recorded; different = t.different; updated = t.updated; not_run = t.not_run }
counted (Some Different) t = record { as_recorded = t.as_recorded; different = one_more t.different; updated = t.updated; not_run = t.not_run }
counted (Some Updated) t = record { as_recorded = t.as_recorded; different = t.different; updated = one_more t.updated; not_run = t.not_run }
counted None t = record { as_recorded = t.as_recorded; different = t.different; updated = t.updated; not_run = one_more t.not_run }

-- the last line
abbrev pub summary : Tally → List ℕ
summary t =
    codes "test: " ++ (decimal t.as_recorded ++ (codes " as recorded, " ++ (decimal t.different ++ (codes " different, " ++ (decimal t.updated ++ (codes " updated, "
    ++ (decimal t.not_run ++ codes " not run\n")))))))

-- whether a fault is one of the files of a run: the run itself, or its configuration
abbrev pub is_of_files : SubcommandFault → Bool
is_of_files (fault.Run why) = true
is_of_files (fault.Configuration Unreadable) = true
is_of_files (fault.Configuration (Refused config.NotToml)) = true
is_of_files (fault.Configuration (Refused (config.Missing field))) = true
is_of_files (fault.Configuration (Refused (config.Range field))) = true
is_of_files (fault.Configuration (Refused (config.Twice field))) = true
is_of_files (fault.Configuration (Refused config.Memory)) = false
is_of_files (fault.Configuration (Plant plant.NotToml)) = true
is_of_files (fault.Configuration (Plant plant.Tables)) = true
is_of_files (fault.Configuration (Plant (plant.Missing at))) = true
is_of_files (fault.Configuration (Plant (plant.Numbers at))) = true
is_of_files (fault.Configuration (Plant (plant.NoLine at))) = true
is_of_files (fault.Configuration (Plant plant.Memory)) = false
is_of_files (fault.Arguments error) = false
is_of_files (fault.Script why) = false
is_of_files (fault.Picture why) = false
is_of_files fault.Faulty = false
is_of_files fault.Unread = false
is_of_files (fault.Reported report) = false
is_of_files (fault.Short shortfall) = false
