use Rattle.std.proofs.Common.{◌≡◌, ◌+◌, ◌≤◌, false, ap, arith, sym, ◌∙◌, not, subst, length, vec_capacity}
use Rattle.slab.specs.Slab.{Slab, values, slab_len, with_value}
use Rattle.tenant_jobs.specs.Finished.{TableEntry, has_result}
use Rattle.tenant_jobs.specs.cited.Finished.{computed, result_count, NamesDiffer}
use Rattle.tenant_jobs.proofs.Slots.{length-values, written_back}
use Rattle.tenant_jobs.proofs.TableChanges.{IsAdded, is_added_under}
use Rattle.tenant_jobs.proofs.TableEntries.{has_result_under}
use Rattle.tenant_jobs.proofs.finished.Finished.compute.Goals as goal

pub invariant_of-self : goal.invariant_of-self
invariant_of-self c =
    let f = c.self.inside in
    let kept = written_back f.entries c.in-Some.place c.index_mut-entry.result.now c.index_mut-entry.ensures.value in
    subst (λ (s : Slab TableEntry). NamesDiffer (values s) × (f.results ≡ result_count (values s)) × (slab_len s + length f.spare.items ≤ s.capacity) × (slab_len s + length f.spare.items ≤ vec_capacity f.spare)) (sym kept) c.self.invariant

pub returns-then-has_result-clause-computed : goal.returns-then-has_result-clause-computed
returns-then-has_result-clause-computed c =
    let came = has_result_under c.self.inside.entries c.in-Some.place c.index_mut-entry.result.now c.args.id.now c.self.invariant.0 c.index_mut-entry.ensures.value c.in-Some.ensures.found in
    rw (← c.self.view_is) (sym (ap not (came ∙ (sym c.has_result.ensures ∙ c.if-has_result.true))))

not_yet : (c : goal.After-self-2-1) → has_result (values c.self.inside.entries) c.args.id.now ≡ false
not_yet c =
    has_result_under c.self.inside.entries c.in-Some.place c.index_mut-entry.result.now c.args.id.now c.self.invariant.0 c.index_mut-entry.ensures.value c.in-Some.ensures.found
    ∙ (sym c.has_result.ensures ∙ c.if-has_result.false)

added : (c : goal.After-self-2-1)
    → IsAdded (values c.self.inside.entries) (values (with_value c.self.inside.entries c.in-Some.place c.compute.new.self)) c.args.id.now (computed c.args.body.now c.args.inputs.now c.args.states.now)
added c =
    rw c.compute.ensures (is_added_under c.self.inside.entries c.in-Some.place c.index_mut-entry.result.now c.args.id.now _ c.self.invariant.0 c.index_mut-entry.ensures.value c.in-Some.ensures.found (not_yet c))

pub overflow_add-self : goal.overflow_add-self
overflow_add-self c = omega (arith, c.self.invariant.1, (added c).bounded, length-values c.self.inside.entries, c.len-entries.ensures, c.len-entries.type_inv)

pub invariant_of-self-2 : goal.invariant_of-self-2
invariant_of-self-2 c =
    let was = c.self.inside.entries in
    let is = with_value was c.in-Some.place c.compute.new.self in (
      (added c.before).differ,
      omega (arith, c.self.invariant.1, (added c.before).results),
      omega (arith, c.self.invariant.2, (added c.before).as_many, length-values was, length-values is),
      omega (arith, c.self.invariant.3, (added c.before).as_many, length-values was, length-values is),
    )

pub returns-clause-computed : goal.returns-clause-computed
returns-clause-computed c = rw (← c.self.view_is) (sym (ap not (not_yet c.before)))

pub returns-clause-entries : goal.returns-clause-entries
returns-clause-entries c j = rw (← c.self.view_is) ((added c.before).found j)

pub returns-clause-count : goal.returns-clause-count
returns-clause-count c = rw (← c.self.view_is) (added c.before).as_many
