use Rattle.std.proofs.Common.{◌≡◌, ◌-◌, length, take, drop, ◌∙◌}
use Rattle.std.specs.List.{each_same}
use Rattle.tenant_state.proofs.tenants.active_tasks.ActiveTasks.copy.Goals as goal

pub returns : goal.returns
returns c =
    let tasks = c.self.inside in
    let same : c.in_ok-clone.field-0.items ≡ tasks.entries.items = each_same tasks.entries.items c.in_ok-clone.field-0.items c.in_ok-clone.ensures.cases.0 in
    (λ k. record { items = take tasks.count (same k); ended = take tasks.ended (drop tasks.count (same k)); room = length (same k) - tasks.count }) ∙ c.self.view_is
