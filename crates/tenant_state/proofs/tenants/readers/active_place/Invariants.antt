use Rattle.std.proofs.Common.{◌≡◌, find, drop}
use Rattle.tenant_slots.specs.Places.{name_of_task}
use Rattle.giotto_tasks.specs.Names.{same_name}
use Rattle.tenant_state.specs.declared.tenants.Active.{Active}
use Rattle.tenant_state.proofs.tenants.readers.active_place.Given as goal

abbrev pub invariant-loop-entry : goal.invariant-loop-entry
invariant-loop-entry l =
    let named = λ (a : Active). same_name (name_of_task l.checked a.task) l.name in
    find named l.active ≡ find named (drop l.entry-index l.active)
