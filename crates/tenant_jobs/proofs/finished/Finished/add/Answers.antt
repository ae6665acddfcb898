use Rattle.std.proofs.Common.{◌≡◌, false, arith, sym, subst}
use Rattle.slab.specs.Slab.{values, with_value}
use Rattle.tenant_jobs.specs.declared.jobs.JobResult.{JobResult}
use Rattle.tenant_jobs.specs.Finished.{TableEntry, TaskTable, has_result}
use Rattle.tenant_jobs.proofs.Slots.{length-values}
use Rattle.tenant_jobs.proofs.TableChanges.{IsAdded, is_added_under}
use Rattle.tenant_jobs.proofs.finished.Finished.add.Goals as goal

abbrev came : (c : goal.After-self-1) → JobResult
came c = record { outputs = c.outputs.result.now; states = c.states.result.now }

added : (c : goal.After-self-1) → IsAdded (values c.self.inside.entries) (values (with_value c.self.inside.entries c.in-Some.key c.set_result.new.self)) c.args.done.id (came c)
added c =
    subst (λ (e : TableEntry). IsAdded (values c.self.inside.entries) (values (with_value c.self.inside.entries c.in-Some.key e)) c.args.done.id (came c)) (sym c.set_result.ensures) (
    is_added_under c.self.inside.entries c.in-Some.key c.index_mut.result.now c.args.done.id (came c) c.self.invariant.0 c.index_mut.ensures.value
    (rw c.id.ensures at c.in-Some.ensures.found)
    (subst (λ (t : TaskTable). has_result t.entries c.args.done.id ≡ false) (sym c.self.view_is) c.requires.none)
    )

pub overflow_add-self : goal.overflow_add-self
overflow_add-self c = omega (arith, c.self.invariant.1, (added c).bounded, length-values c.self.inside.entries, c.len-entries.ensures, c.len-entries.type_inv)

pub invariant_of-self : goal.invariant_of-self
invariant_of-self c =
    let was = c.self.inside.entries in
    let is = with_value was c.in-Some.key c.set_result.new.self in (
      (added c.before.before.before).differ,
      omega (arith, c.self.invariant.1, (added c.before.before.before).results),
      omega (arith, c.self.invariant.2, (added c.before.before.before).as_many, length-values was, length-values is),
      omega (arith, c.self.invariant.3, (added c.before.before.before).as_many, length-values was, length-values is),
    )

pub returns-clause-entries : goal.returns-clause-entries
returns-clause-entries c j = rw (← c.self.view_is, ← c.outputs.ensures, ← c.states.ensures) ((added c.before.before.before).found j)

pub returns-clause-results : goal.returns-clause-results
returns-clause-results c = rw (← c.self.view_is) (added c.before.before.before).results

pub returns-clause-count : goal.returns-clause-count
returns-clause-count c = rw (← c.self.view_is) (added c.before.before.before).as_many
