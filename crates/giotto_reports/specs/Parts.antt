-- The parts of a program that take steps, what each costs, and how each is named.
use Rattle.std.specs.Prelude.{ℕ, ◌-◌, ◌^◌, ◌==◌, min, List, ◌++◌, map, Option, codes}
use Rattle.std.specs.List.{find, flat_map}
use Rattle.giotto_tasks.specs.Cost.{cost_of}
use Rattle.giotto_breaks.specs.text.Program.{TaskDeclaration, ActuatorUpdate, ModeSwitch, TaskInvocation, ModeDeclaration, GiottoProgram}
use Rattle.giotto_breaks.specs.text.ProgramTrees.{task_of, mode_of, update_of, switch_of, invocation_of}
use Rattle.giotto_breaks.specs.rules.Costs.{update_cost, switch_cost, invocation_cost}
use Rattle.giotto_reports.specs.declared.parts.Part.{Part}
use Rattle.giotto_reports.specs.declared.parts.Part.TheVariants.{Body, Update, Switch, Invocation}

-- the body of a task, or a driver of a mode
pub data ProgramPart : Type 0 where
  body : TaskDeclaration → ProgramPart
  update : ModeDeclaration → ActuatorUpdate → ProgramPart
  switch : ModeDeclaration → ModeSwitch → ProgramPart
  invocation : ModeDeclaration → TaskInvocation → ProgramPart

-- the part that a `Part` of the code represents
abbrev pub part_of : Part → ProgramPart
part_of (Body t) = body (task_of t.now)
part_of (Update m u) = update (mode_of m.now) (update_of u.now)
part_of (Switch m s) = switch (mode_of m.now) (switch_of s.now)
part_of (Invocation m i) = invocation (mode_of m.now) (invocation_of i.now)

-- a body costs what its statements do, and a driver what its guard and its values do
abbrev pub cost_of_part : ProgramPart → ℕ
cost_of_part (body t) = cost_of t.block
cost_of_part (update m u) = update_cost u
cost_of_part (switch m s) = switch_cost s
cost_of_part (invocation m i) = invocation_cost i

-- the cost that is reported: the greatest number of 64 bits if the part costs more
abbrev pub steps_of_part : ProgramPart → ℕ
steps_of_part part = min (cost_of_part part) (2 ^ 64 - 1)

-- a mode's updates, switches and invocations
abbrev pub drivers_of : ModeDeclaration → List ProgramPart
drivers_of m = map (update m) m.updates ++ (map (switch m) m.switches ++ map (invocation m) m.invocations)

-- the bodies of a program's tasks, and then the drivers of its modes
abbrev pub parts_of : GiottoProgram → List ProgramPart
parts_of p = map body p.tasks ++ flat_map drivers_of p.modes

-- the first of these parts for which this cost is reported
abbrev pub first_of_cost : ℕ → List ProgramPart → Option ProgramPart
first_of_cost cost parts = find (λ part. steps_of_part part == cost) parts

-- a part is named by its task, or by its mode and what it writes, switches to or invokes
abbrev pub text_of_part : ProgramPart → List ℕ
text_of_part (body t) = codes "the body of `" ++ (t.name ++ codes "`")
text_of_part (update m u) = codes "the update of `" ++ (u.actuator ++ (codes "` in mode `" ++ (m.name ++ codes "`")))
text_of_part (switch m s) = codes "the switch from mode `" ++ (m.name ++ (codes "` to `" ++ (s.target ++ codes "`")))
text_of_part (invocation m i) = codes "the invocation of `" ++ (i.task ++ (codes "` in mode `" ++ (m.name ++ codes "`")))
