use Rattle.std.proofs.Common.{◌≡◌, Bool, not}
use Rattle.std.proofs.lemmas.List.Filters.{FiltersInPlace}
use Rattle.tenant_state.specs.declared.tenants.Active.{Active}
use Rattle.tenant_slots.specs.cited.Due.{is_among_due}
use Rattle.tenant_state.proofs.Dropped.{AreBehind}
use Rattle.tenant_state.proofs.tenants.phase_one.drop_due.Given as goal

abbrev pub invariant-loop-i : goal.invariant-loop-i
invariant-loop-i l =
    let due : Active → Bool = λ a. is_among_due l.time a.task l.invocations in
    let before = l.initial.active-inside in
    let now = l.active-inside in
    record {
      count : now.count ≡ before.count;
      stay : FiltersInPlace (λ a. not (due a)) before.entries.items now.entries.items l.kept l.i;
      behind : AreBehind due before.entries.items now.entries.items l.kept l.i;
    }
