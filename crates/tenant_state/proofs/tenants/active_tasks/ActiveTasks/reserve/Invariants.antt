use Rattle.std.proofs.Common.{◌≡◌, ◌≤◌, ◌+◌, length, take, drop}
use Rattle.tenant_state.proofs.tenants.active_tasks.ActiveTasks.reserve.Given as goal

abbrev pub invariant-loop-entry : goal.invariant-loop-entry
invariant-loop-entry l =
    let tasks = l.self-inside in
    let before = l.initial.self-inside in
    record {
      count : tasks.count ≡ before.count;
      number : tasks.ended ≡ before.ended;
      items : take tasks.count tasks.entries.items ≡ take tasks.count before.entries.items;
      ended : take tasks.ended (drop tasks.count tasks.entries.items) ≡ take tasks.ended (drop tasks.count before.entries.items);
      within : tasks.count + tasks.ended ≤ length before.entries.items;
      long : length tasks.entries.items ≡ tasks.count + l._entry;
    }
