use Rattle.std.proofs.Common.{◌≡◌, ◌<◌, ℕ, Bool, List, [], Vec, get_or, length, map}
use Rattle.std.specs.declared.alloc.Global.{Global}
use Rattle.rig_retests.specs.Reached.{AreReaching, ForLinks}
use Rattle.rig_retests.proofs.reaches.ReachTable.new.Given as goal

abbrev pub invariant-loop-tenant : goal.invariant-loop-tenant
invariant-loop-tenant l =
    (length l.rows.items ≡ l.tenant)
    × ForLinks l.config l.retests.links (λ setting past. (t : ℕ) → t < l.tenant → AreReaching l.plant t (get_or (map (λ (row : Vec Bool Global). row.items) l.rows.items) t []) setting past)
