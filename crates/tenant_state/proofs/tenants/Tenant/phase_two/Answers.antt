use Rattle.std.proofs.Common.{◌≡◌, ◌++◌, length, sym, ap, subst, ◌∙◌, arith}
use Rattle.tenant_state.specs.Jobs.{released_at}
use Rattle.tenant_state.specs.Standing.{Standing}
use Rattle.tenant_state.specs.cited.Halves.{IsSecondHalf}
use Rattle.tenant_state.specs.cited.Standing.{AreReleased}
use Rattle.tenant_state.proofs.tenants.Tenant.phase_two.Goals as goal
use Rattle.tenant_state.proofs.tenants.Tenant.phase_two.Goals.{After-second_half}

-- the jobs that it adds are those of the number that the instant had
same_jobs : (c : After-second_half) → released_at c.second_half.new.self.tenancy.owner.place c.next_tick-tick.result c.second_half.new.self.row
    ≡ released_at c.args.self.now.tenancy.owner.place c.args.self.now.row.next_tick c.second_half.new.self.row
same_jobs c = λ k. released_at (c.second_half.ensures.half.tenancy k).owner.place (c.next_tick-tick.ensures.number k) c.second_half.new.self.row

pub add_jobs-requires : goal.add_jobs-requires
add_jobs-requires c =
    let jobs = same_jobs (goal.at.add_jobs-requires c).After-second_half in
    record {
      shares = λ some. c.second_half.ensures.shared (c.requires.shares (omega (arith, some, ap length jobs, c.second_half.ensures.few)));
      room = omega (arith, ap length jobs, c.second_half.ensures.few, c.requires.jobs);
    }

pub returns : goal.returns
returns c =
    let jobs = same_jobs (goal.at.returns c).After-second_half in
    let half = c.second_half.ensures.half in
    let row = ap (λ (s : Standing). s.row) c.add_jobs.ensures.rest in
    let placed : c.as_mut_slice.result.now ≡ c.args.granted.now = c.as_mut_slice.ensures.value ∙ c.places_of-places.ensures in
    record {
      half = subst (λ granted. IsSecondHalf c.args.frame.now granted c.args.self.now c.add_jobs.new.self) placed (rw (c.add_jobs.ensures.rest) (record { step = half.step; next_tick = half.next_tick; tenancy = half.tenancy; program = half.program; offers = half.offers; binds = half.binds; ended = half.ended }));
      released = subst (AreReleased c.args.self.now.row) (sym row) c.second_half.ensures.released;
      jobs = c.add_jobs.ensures.jobs ∙ ap (λ js. c.args.jobs.now.jobs ++ js) (jobs ∙ ap (released_at c.args.self.now.tenancy.owner.place c.args.self.now.row.next_tick) (sym row));
      room = omega (arith, c.add_jobs.ensures.room, ap length jobs, c.second_half.ensures.few);
    }
