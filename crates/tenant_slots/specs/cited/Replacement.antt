-- The slots of the ports that keep their values when a program replaces another.
use Rattle.std.specs.Prelude.{Bool, ◌||◌, List, map, filter}
use Rattle.giotto_tasks.specs.declared.names.Name.{Name}
use Rattle.rig_model.specs.text.Program.{GiottoProgram}
use Rattle.rig_model.specs.rules.Declarations.{sensor_names, actuator_names, driver_ports}
use Rattle.giotto_check.specs.cited.Facts.{ProgramFits}
use Rattle.giotto_check.specs.cited.Slots.{HaveSlots}
use Rattle.rig_model.specs.Replacement.{stands_in_both}
use Rattle.tenant_slots.specs.declared.replacement.Carried.{Carried}

-- a port of this name keeps its value: it is a sensor of both programs, or an actuator of both
abbrev pub is_carried : GiottoProgram → GiottoProgram → Name → Bool
is_carried old new x = stands_in_both sensor_names old new x || stands_in_both actuator_names old new x

-- these entries are for ports of these names: each has its slots in the two programs
pub record AreCarried (old new : GiottoProgram) (names : List Name) (entries : List Carried) : Type 0 where
  pub from : HaveSlots old names (map (λ (c : Carried). c.from) entries)
  pub to : HaveSlots new names (map (λ (c : Carried). c.to) entries)

-- the table is for all ports that keep their values, in the order of the new program. Both programs are well-formed.
pub record IsCarryTable (old new : GiottoProgram) (table : List Carried) : Type 0 where
  pub old_fits : ProgramFits old
  pub new_fits : ProgramFits new
  pub entries : AreCarried old new (filter (is_carried old new) (driver_ports new)) table
