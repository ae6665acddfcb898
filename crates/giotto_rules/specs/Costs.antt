-- The greatest cost over a program's bodies and drivers.
use Rattle.std.specs.Prelude.{ℕ, ◌+◌, max, List, ◌++◌, map, Option, Some, None}
use Rattle.std.specs.List.{fold, sum}
use Rattle.giotto_tasks.specs.declared.names.Name.{Name}
use Rattle.giotto_tasks.specs.Cost.{cost_of, operators_of}
use Rattle.giotto_tasks.specs.Syntax.{Expression}
use Rattle.giotto_text.specs.Program.{TaskDeclaration, ActuatorUpdate, ModeSwitch, TaskInvocation, ModeDeclaration, GiottoProgram}

-- the greatest of some numbers, or 0 if there are none
abbrev pub greatest : List ℕ → ℕ
greatest ns = fold max 0 ns

-- an absent guard costs nothing
abbrev pub guard_cost : Option Expression → ℕ
guard_cost None = 0
guard_cost (Some e) = operators_of e

-- the cost of an update: the sum over its guard and its value
abbrev pub update_cost : ActuatorUpdate → ℕ
update_cost u = guard_cost u.guard + operators_of u.value

-- the cost of a switch: the sum over its guard and the values of its destinations
abbrev pub switch_cost : ModeSwitch → ℕ
switch_cost s = guard_cost s.guard + sum (map (λ (d : Name × Expression). operators_of d.1) s.destinations)

-- the cost of an invocation: the sum over its guard and its arguments
abbrev pub invocation_cost : TaskInvocation → ℕ
invocation_cost i = guard_cost i.guard + sum (map operators_of i.arguments)

-- the greatest cost over the drivers of a mode
abbrev pub mode_cost : ModeDeclaration → ℕ
mode_cost m = greatest (map update_cost m.updates ++ (map switch_cost m.switches ++ map invocation_cost m.invocations))

-- the greatest cost over the bodies and drivers of a program, or 0 if it has none
abbrev pub greatest_cost_of : GiottoProgram → ℕ
greatest_cost_of p = greatest (map (λ (t : TaskDeclaration). cost_of t.block) p.tasks ++ map mode_cost p.modes)
