-- What a report about a script lacks, by how the script went.
use Rattle.std.specs.Prelude.{ℕ, Option, Some, None, if◌then◌else◌}
use Rattle.rig_script.specs.declared.courses.Course.{Course}
use Rattle.rig_script.specs.declared.courses.Shortfall.{Shortfall}
use Rattle.rig_script.specs.declared.courses.Shortfall.TheVariants.{CutOff, NoTenant}

-- the report lacks something if the script was cut off, or if no line of it is a tenant's
abbrev pub shortfall_of : Course → Option Shortfall
shortfall_of course = by course.bad_line
  where
    by : Option ℕ → Option Shortfall
    by (Some number) = Some (CutOff number)
    by None = if course.has_tenant then None else Some NoTenant
