use Rattle.std.proofs.Common.{◌≡◌, map, take}
use Rattle.giotto_check.specs.declared.timetables.SlotExpr.{SlotExpr}
use Rattle.giotto_check.specs.cited.Timetables.{value_over}
use Rattle.tenant_slots.proofs.tasks.argument_values.Given as goal

abbrev pub invariant-loop-argument : goal.invariant-loop-argument
invariant-loop-argument l = l.given ≡ map (λ (a : SlotExpr). value_over a l.values) (take l.argument-index l.arguments)
