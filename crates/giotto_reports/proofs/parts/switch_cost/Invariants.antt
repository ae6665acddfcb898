use Rattle.std.proofs.Common.{◌≡◌, ◌+◌, ◌-◌, ◌^◌, min, map, take}
use Rattle.std.specs.List.{sum}
use Rattle.giotto_tasks.specs.declared.names.Name.{Name}
use Rattle.giotto_tasks.specs.Cost.{operators_of}
use Rattle.giotto_tasks.specs.Syntax.{Expression}
use Rattle.giotto_breaks.specs.text.ProgramTrees.{guard_of, destination_of}
use Rattle.giotto_breaks.specs.rules.Costs.{guard_cost}
use Rattle.giotto_reports.proofs.parts.switch_cost.Given as goal

abbrev pub invariant-loop-destination : goal.invariant-loop-destination
invariant-loop-destination l =
    l.total ≡ min (guard_cost (guard_of l.switch.guard) + sum (map (λ (d : Name × Expression). operators_of d.1) (map destination_of (take l.destination-index l.destination-items)))) (2 ^ 64 - 1)
