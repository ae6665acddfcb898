use Rattle.std.proofs.Common.{◌≡◌, Some, arith, ◌∙◌, Bool, true, false, refl}
use Rattle.std.specs.Int.{from_bool}
use Rattle.slab.specs.Slab.{values}
use Rattle.tenant_jobs.specs.Finished.{entry_in}
use Rattle.tenant_jobs.proofs.TableChanges.{IsRemoved, is_removed_under}
use Rattle.tenant_jobs.proofs.TableEntries.{weight_of}
use Rattle.tenant_jobs.proofs.finished.Finished.remove.Goals as goal

as_number : (b d : Bool) → b ≡ d → from_bool b ≡ weight_of d
as_number true true e = refl
as_number false false e = refl
as_number true false e = absurd (cc)
as_number false true e = absurd (cc)

removed : (c : goal.After-from)
    → (entry_in (values c.self.inside.entries) c.args.id.now ≡ Some c.remove-entry.result) × IsRemoved (values c.self.inside.entries) (values c.remove-entry.new.self) c.args.id.now c.remove-entry.result.result
removed c =
    is_removed_under c.self.inside.entries c.remove-entry.new.self c.in-Some.key c.remove-entry.result c.args.id.now c.self.invariant.0 c.remove-entry.ensures.value c.in-Some.ensures.found c.remove-entry.ensures.updates

pub overflow_sub-self : goal.overflow_sub-self
overflow_sub-self c = omega (arith, c.self.invariant.1, (removed c).1.results, c.from.ensures ∙ as_number _ _ c.has_result.ensures)

pub push_reserved-requires : goal.push_reserved-requires
push_reserved-requires c = omega (arith, c.self.invariant.3, c.remove-entry.ensures.len)

pub invariant_of-self : goal.invariant_of-self
invariant_of-self c = (
  (removed c.before.before.before).1.differ,
  omega (arith, c.self.invariant.1, (removed c.before.before.before).1.results, c.from.ensures ∙ as_number _ _ c.has_result.ensures),
  omega (arith, c.self.invariant.2, c.remove-entry.ensures.len, c.remove-entry.ensures.capacity, c.push_reserved.ensures.len),
  omega (arith, c.self.invariant.3, c.remove-entry.ensures.len, c.push_reserved.ensures.len, c.push_reserved.ensures.capacity),
)

pub returns-clause-entries : goal.returns-clause-entries
returns-clause-entries c j = rw (← c.self.view_is) ((removed c.before.before.before).1.found j)

pub returns-clause-results : goal.returns-clause-results
returns-clause-results c = rw (← c.self.view_is, (removed c.before.before.before).0) (removed c.before.before.before).1.results

pub returns-clause-count : goal.returns-clause-count
returns-clause-count c = rw (← c.self.view_is, (removed c.before.before.before).0) (removed c.before.before.before).1.fewer

pub returns-clause-room : goal.returns-clause-room
returns-clause-room c = rw (← c.self.view_is, (removed c.before.before.before).0) (omega (arith, c.push_reserved.ensures.len))
