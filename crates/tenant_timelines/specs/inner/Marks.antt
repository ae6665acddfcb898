-- What happens to a tenant between one line of a script and the next.
use Rattle.std.specs.Prelude.{Option, Some, None, if◌then◌else◌}
use Rattle.giotto_tasks.specs.Names.{same_name}
use Rattle.tenant_timelines.specs.declared.marks.Doing.{Doing}
use Rattle.tenant_timelines.specs.declared.marks.Doing.TheVariants.{Empty, Loaded, Running, StoppedAsked, StoppedOverrun}
use Rattle.tenant_timelines.specs.declared.marks.Mark.{Mark}
use Rattle.tenant_timelines.specs.declared.marks.Mark.TheVariants.{Start, Switch, Stop, Overrun}

-- what happened, by what the tenant did before and does now; a tenant that runs on in another mode took a switch
abbrev pub mark_between : Doing → Doing → Option Mark
mark_between (Running m) (Running n) = if same_name m n then None else Some Switch
mark_between (Running m) StoppedAsked = Some Stop
mark_between (Running m) (StoppedOverrun t) = Some Overrun
mark_between (Running m) Empty = None
mark_between (Running m) (Loaded n) = None
mark_between Empty (Running n) = Some Start
mark_between (Loaded m) (Running n) = Some Start
mark_between StoppedAsked (Running n) = Some Start
mark_between (StoppedOverrun t) (Running n) = Some Start
mark_between _ _ = None
