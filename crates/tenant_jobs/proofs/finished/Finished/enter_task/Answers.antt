use Rattle.std.proofs.Common.{◌≡◌, false, sym, ◌∙◌, subst, find, is_some, arith}
use Rattle.slab.specs.Slab.{values}
use Rattle.tenant_jobs.specs.Finished.{TaskTable}
use Rattle.tenant_jobs.specs.cited.Finished.{is_entered}
use Rattle.tenant_jobs.proofs.TableChanges.{IsEntered, is_entered_at, is_of}
use Rattle.tenant_jobs.proofs.finished.Finished.enter_task.Goals as goal

entered : (c : goal.After-new) → IsEntered (values c.self.inside.entries) (values c.insert_reserved.new.self) c.args.id
entered c =
    let not_yet : is_some (find (is_of c.args.id) (values c.self.inside.entries)) ≡ false = subst (λ (t : TaskTable). is_entered t.entries c.args.id ≡ false) (sym c.self.view_is) c.requires.new in
    is_entered_at c.self.inside.entries c.insert_reserved.new.self c.insert_reserved.result c.args.id (rw c.set_name.ensures at c.insert_reserved.ensures.updates) c.insert_reserved.ensures.was_vacant c.self.invariant.0 not_yet

pub invariant_of-self : goal.invariant_of-self
invariant_of-self c = (
  (entered c).differ,
  c.self.invariant.1 ∙ sym (entered c).results,
  omega (arith, c.self.invariant.2, c.insert_reserved.ensures.len, c.insert_reserved.ensures.capacity, c.in-Some.ensures.len),
  omega (arith, c.self.invariant.3, c.insert_reserved.ensures.len, c.in-Some.ensures.capacity, c.in-Some.ensures.len),
)

pub returns-clause-entries : goal.returns-clause-entries
returns-clause-entries c j = rw (← c.self.view_is) ((entered c).found j)

pub returns-clause-results : goal.returns-clause-results
returns-clause-results c = rw (← c.self.view_is) (entered c).results

pub returns-clause-count : goal.returns-clause-count
returns-clause-count c = rw (← c.self.view_is) (entered c).more
