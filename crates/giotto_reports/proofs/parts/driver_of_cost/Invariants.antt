use Rattle.std.proofs.Common.{◌≡◌, None, map, take}
use Rattle.giotto_breaks.specs.text.ProgramTrees.{mode_of, update_of, switch_of, invocation_of}
use Rattle.giotto_reports.specs.Parts.{update, switch, invocation, first_of_cost}
use Rattle.giotto_reports.proofs.parts.driver_of_cost.Given as goal

abbrev pub invariant-loop-update : goal.invariant-loop-update
invariant-loop-update l = first_of_cost l.cost (map (update (mode_of l.mode)) (map update_of (take l.update-index l.update-items))) ≡ None

abbrev pub invariant-loop-switch : goal.invariant-loop-switch
invariant-loop-switch l = first_of_cost l.cost (map (switch (mode_of l.mode)) (map switch_of (take l.switch-index l.switch-items))) ≡ None

abbrev pub invariant-loop-invocation : goal.invariant-loop-invocation
invariant-loop-invocation l = first_of_cost l.cost (map (invocation (mode_of l.mode)) (map invocation_of (take l.invocation-index l.invocation-items))) ≡ None
