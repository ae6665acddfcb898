use Rattle.std.proofs.Common.{◌≡◌, ◌-◌, ◌<◌, ◌++◌, append-nil, append_assoc, length, take, get_or, refl, sym, ap, ◌∙◌, arith}
use Rattle.std.specs.List.{flat_map}
use Rattle.std.proofs.lemmas.List.{get_or-set_other, get_or_default, take_all}
use Rattle.std.proofs.lemmas.List.Concat.{length-flat_map}
use Rattle.std.proofs.lemmas.List.Sums.{sum_by-drop_more}
use Rattle.tenant_state.specs.Jobs.{released_at}
use Rattle.tenant_state.specs.Standing.{Standing, no_tenant}
use Rattle.instant_engine.specs.Tenants.{tenant_at}
use Rattle.instant_engine.specs.cited.Halves.{last_jobs}
use Rattle.instant_engine.proofs.cited.AtRest.{readied, same_length}
use Rattle.instant_engine.proofs.cited.Loops.{jobs_more}
use Rattle.instant_engine.proofs.instants.add_jobs.Goals as goal
use Rattle.instant_engine.proofs.instants.add_jobs.Goals.{After-next_tick-last}

pub loop-i-init : goal.loop-i-init
loop-i-init c = record { rest = refl; others = λ t le. refl; room = omega (arith, c.requires.room, length-flat_map last_jobs c.args.tenants.now); jobs = sym (append-nil c.args.jobs.now.jobs) }

-- the next tenant is as it was, and its jobs are those of its last instant
module _ (c : After-next_tick-last) where
  abbrev x : Standing
  x = get_or c.loop-i.tenants c.loop-i.i c.index-tenants-i.result

  inside : c.loop-i.i < length c.args.tenants.now
  inside = omega (arith, c.loop-i-test.true)

  here : x ≡ tenant_at c.args.tenants.now c.loop-i.i
  here = get_or_default c.loop-i.tenants c.loop-i.i c.index-tenants-i.result no_tenant (omega (arith, inside, same_length c.args.tenants.now c.loop-i.tenants c.loop-i.invariant.rest)) ∙ c.loop-i.invariant.others c.loop-i.i (omega arith)

  its_jobs : released_at x.tenancy.owner.place (c.next_tick-last.result - 1) x.row ≡ last_jobs (tenant_at c.args.tenants.now c.loop-i.i)
  its_jobs = λ k. released_at (here k).tenancy.owner.place ((c.next_tick-last.ensures.number ∙ ap (λ (s : Standing). s.row.next_tick) here) k - 1) (here k).row

pub overflow_sub-last : goal.overflow_sub-last
overflow_sub-last c =
    let read = (goal.at.overflow_sub-last c).After-next_tick-last in
    omega (arith, c.next_tick-last.ensures.number, ap (λ (s : Standing). s.row.next_tick) (here read), c.requires.later c.loop-i.i no_tenant (inside read))

pub add_jobs-requires : goal.add_jobs-requires
add_jobs-requires c =
    let read = (goal.at.add_jobs-requires c).After-next_tick-last in
    let jobs = ap length (its_jobs read) in
    record {
      shares = λ some. ap (λ (s : Standing). s.ready.shared) (here read) ∙ c.requires.shares c.loop-i.i no_tenant (inside read) (omega (arith, some, jobs));
      room = omega (arith, jobs, c.loop-i.invariant.room, sum_by-drop_more (λ (s : Standing). length (last_jobs s)) c.args.tenants.now c.loop-i.i no_tenant (inside read));
    }

pub loop-i-preserved : goal.loop-i-preserved
loop-i-preserved c =
    let read = (goal.at.loop-i-preserved c).After-next_tick-last in
    let i = c.loop-i.i in
    let all = c.args.tenants.now in
    let s : Standing = c.add_jobs.new.self in
    let same = c.add_jobs.ensures.rest in
    let jobs = its_jobs read in
    record {
      rest = readied c.loop-i.tenants all i c.index-tenants-i.result s c.loop-i.invariant.rest (ap (λ (y : Standing). y.tenancy) same) (ap (λ (y : Standing). y.row) same) (ap (λ (y : Standing). y.ready.ended) same);
      others = λ t le. get_or-set_other c.loop-i.tenants i t s no_tenant (λ e. absurd (omega (arith, e, le))) ∙ c.loop-i.invariant.others t (omega (arith, le));
      room = omega (arith, c.add_jobs.ensures.room, ap length jobs, c.loop-i.invariant.room, sum_by-drop_more (λ (y : Standing). length (last_jobs y)) all i no_tenant (inside read));
      jobs = c.add_jobs.ensures.jobs ∙ (λ k. c.loop-i.invariant.jobs k ++ jobs k) ∙ append_assoc c.args.jobs.now.jobs (flat_map last_jobs (take i all)) (last_jobs (tenant_at all i))
          ∙ ap (λ js. c.args.jobs.now.jobs ++ js) (sym (jobs_more i all (inside read)));
    }

pub returns-clause-jobs : goal.returns-clause-jobs
returns-clause-jobs c = c.loop-i.invariant.jobs ∙ ap (λ ts. c.args.jobs.now.jobs ++ flat_map last_jobs ts) (take_all c.loop-i.i c.args.tenants.now (omega (arith, c.loop-i-test.false)))
