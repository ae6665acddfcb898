-- Which active tasks a mode invokes.
use Rattle.std.specs.Prelude.{IsSome}
use Rattle.rig_model.specs.rules.Declarations.{period_of_task}
use Rattle.rig_model.specs.text.Program.{GiottoProgram, ModeDeclaration}
use Rattle.tenant_slots.specs.Places.{name_of_task}
use Rattle.tenant_state.specs.declared.tenants.Active.{Active}

-- the mode invokes the active task
abbrev pub IsInvokedIn : GiottoProgram → ModeDeclaration → Active → Type 0
IsInvokedIn p m a = IsSome (period_of_task m (name_of_task p a.task))
