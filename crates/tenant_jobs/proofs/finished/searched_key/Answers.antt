use Rattle.std.proofs.Common.{ap, refl, arith, sym, ◌∙◌, Bool, List, ℕ, map, find}
use Rattle.tenant_jobs.specs.Finished.{TableEntry}
use Rattle.rig_model.specs.Jobs.{same_job}
use Rattle.tenant_jobs.proofs.TableEntries.{find_past}
use Rattle.slab.proofs.SlabLemmas.{Contains-cons, Contains-entries}
use Rattle.tenant_jobs.proofs.Slots.{values-entries}
use Rattle.tenant_jobs.proofs.finished.searched_key.Goals as goal

pub loop-key-init : goal.loop-key-init
loop-key-init c =
    let left = c.into_iter-key-iterator.ensures.into_iter_gives ∙ c.iter-key-items.ensures.rest in (
      tt,
      tt,
      λ key e there. (Contains-entries c.args.entries.now key e).0 (rw left at there),
      rw (left, values-entries c.args.entries.now) refl,
    )

pub returns-then-is_named-clause-found : goal.returns-then-is_named-clause-found
returns-then-is_named-clause-found c =
    let found = c.loop-key.invariant.2 c.in-Some.key c.in-Some.entry.now (rw c.in-Some.ensures.steps (0, omega arith, refl)) in
    rw found (sym c.is_named.ensures ∙ c.if-is_named.true)

pub loop-key-preserved : goal.loop-key-preserved
loop-key-preserved c =
    let at = c.in-Some.ensures.steps in
    let is_named : TableEntry → Bool = λ e. same_job e.id c.args.id in (
      tt,
      tt,
      λ key e there. c.loop-key.invariant.2 key e (rw at (Contains-cons _ _ _ there)),
      sym (find_past is_named c.in-Some.entry.now (map (λ e. e.1) c.next.new.self) (sym c.is_named.ensures ∙ c.if-is_named.false)) ∙ (ap (λ (zs : List (ℕ × TableEntry)). find is_named (map (λ e. e.1) zs)) (sym at) ∙ c.loop-key.invariant.3),
    )
