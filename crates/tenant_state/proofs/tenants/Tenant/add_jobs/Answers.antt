use Rattle.std.proofs.Common.{rules, ◌≡◌, ◌++◌, true, length, map, sym, ap, subst, ◌∙◌, arith}
use Rattle.std.specs.Prelude.{is_some}
use Rattle.std.specs.Arc.{arc_value}
use Rattle.std.specs.List.{AllByRecursion, list_all}
use Rattle.std.proofs.lemmas.Bool.{and_parts}
use Rattle.std.proofs.lemmas.List.{length-map}
use Rattle.giotto_tasks.specs.Sound.{all_different}
use Rattle.giotto_tasks.proofs.cited.ListLemmas.{all_map}
use Rattle.tenant_slots.specs.Places.{name_of_task}
use Rattle.tenant_state.specs.Jobs.{released_at}
use Rattle.tenant_state.specs.Standing.{Standing}
use Rattle.tenant_state.specs.Tenants.{tasks_in}
use Rattle.tenant_state.specs.declared.tenants.Active.{Active}
use Rattle.tenant_state.specs.inner.Tenants.{IsActiveIn, IsActiveOf, its_job, released_in}
use Rattle.tenant_state.proofs.Shares.{shared_map}
use Rattle.tenant_state.proofs.TenantBehind.{differ_in, jobs_in}
use Rattle.tenant_state.proofs.tenants.Tenant.add_jobs.Goals as goal
use Rattle.tenant_state.proofs.tenants.Tenant.add_jobs.Goals.{After-own}

-- its jobs are those of the code's tasks
its_jobs : (c : After-own) → released_at c.args.self.now.tenancy.owner.place c.args.tick c.args.self.now.row ≡ map (its_job c.own.result c.in-Some.checked) (released_in c.args.tick c.as_slice-active.result.now)
its_jobs c =
    let s = c.self.inside in
    jobs_in c.in-Some.checked c.args.tick c.args.self.now.tenancy.owner.place c.args.self.now.row s.active.items (ap (λ (y : Standing). y.row.program) (sym c.self.view_is) ∙ c.in-Some.is)
    (ap (λ (y : Standing). y.row.active) (sym c.self.view_is) ∙ ap (λ o. tasks_in o s.active.items) c.in-Some.is)
    ∙ (λ k. map (its_job ((ap (λ (y : Standing). y.tenancy.owner.place) (sym c.self.view_is) ∙ sym c.own.ensures.place) k) c.in-Some.checked) (released_in c.args.tick (sym c.as_slice-active.ensures k)))

pub add_jobs-requires : goal.add_jobs-requires
add_jobs-requires c =
    let s = c.self.inside in
    let p = c.in-Some.checked in
    let is = rw c.in-Some.is at c.self.invariant.0 in
    let jobs = its_jobs (goal.at.add_jobs-requires c).After-own in
    let long = length-map (released_in c.args.tick c.as_slice-active.result.now) (its_job c.own.result p) in
    record {
      each = subst (AllByRecursion (IsActiveOf p)) (sym c.as_slice-active.ensures) (all_map (IsActiveIn p s.next_tick) (IsActiveOf p) s.active.items (λ a is. is.declared) is.fits.each);
      different = subst (λ xs. all_different (map (λ (a : Active). name_of_task p a.task) (released_in c.args.tick xs)) ≡ true) (sym c.as_slice-active.ensures) (differ_in p c.args.tick s.active.items is.different);
      shares = search rules;
      shared = λ some. ap (list_all is_some) c.as_mut_slice-shares.ensures.value ∙ sym (shared_map arc_value s.shares.items)
          ∙ (and_parts _ _ (ap (λ (y : Standing). y.ready.shared) c.self.view_is ∙ c.requires.shares (omega (arith, some, ap length jobs, long)))).0;
      room = omega (arith, ap length jobs, long, c.requires.room);
    }

pub returns : goal.returns
returns c =
    let jobs = its_jobs (goal.at.returns c).After-own in
    record {
      jobs = c.add_jobs.ensures.jobs ∙ ap (λ js. c.args.jobs.now.jobs ++ js) (sym jobs);
      room = omega (arith, ap length jobs, length-map (released_in c.args.tick c.as_slice-active.result.now) (its_job c.own.result c.in-Some.checked), c.add_jobs.ensures.room);
      rest = search rules;
    }
