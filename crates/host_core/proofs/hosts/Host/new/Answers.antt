use Rattle.std.proofs.Common.{◌≡◌, ◌∙◌, ◌<◌, List, length, map, ap, sym, subst, arith}
use Rattle.std.specs.List.{enumerate_from}
use Rattle.std.proofs.lemmas.Simd.{map-map}
use Rattle.host_core.specs.HostStanding.{Stands, new_host}
use Rattle.rig_model.specs.Base.{new_base}
use Rattle.instant_engine.specs.job_table.Finished.{TaskTable}
use Rattle.instant_engine.specs.state.Standing.{Standing, at_rest}
use Rattle.host_core.proofs.NewHost.{begun, new_stands}
use Rattle.host_core.proofs.NewTenants.{new_more, new_all, new_whole}
use Rattle.host_core.proofs.hosts.Host.new.Goals as goal
use Rattle.rig_model.specs.config.Roster.{Rig}

pub loop-place-preserved : goal.loop-place-preserved
loop-place-preserved c =
    let tenants = c.args.config.now.tenants in
    let same : length c.tenants-place-end.result.now ≡ length tenants = ap length c.tenants-place-end.ensures.value in
    let lt : c.loop-place.place < length tenants = omega (arith, same, c.loop-place-test.true) in
    new_more c.args.first_tick c.args.config.now c.loop-place.place c.loop-place.tenants.items c.push.new.self.items c.in_ok-tenant.tenant
    lt c.loop-place.invariant c.in_ok-push.ensures.items c.in_ok-tenant.ensures

pub invariant_of-result : goal.invariant_of-result
invariant_of-result c =
    let tenants = c.args.config.now.tenants in
    let same : length c.tenants-place-end.result.now ≡ length tenants = ap length c.tenants-place-end.ensures.value in
    let all = new_all c.args.first_tick c.args.config.now c.loop-place.place c.loop-place.tenants.items (omega (arith, same, c.loop-place-test.false)) c.loop-place.invariant in
    record {
      whole = rw (c.in_ok-copy.ensures, all, c.new.ensures) (new_whole c.args.first_tick c.args.config.now);
      places = rw c.in_ok-copy.ensures (omega (arith, c.in_ok-granted.ensures));
    }

pub returns-clause-host : goal.returns-clause-host
returns-clause-host c =
    let tenants = c.args.config.now.tenants in
    let same : length c.tenants-place-end.result.now ≡ length tenants = ap length c.tenants-place-end.ensures.value in
    let all = new_all c.args.first_tick c.args.config.now c.loop-place.place c.loop-place.tenants.items (omega (arith, same, c.loop-place-test.false)) c.loop-place.invariant in
    ap (λ (xs : List Standing). record { config = c.in_ok-copy.copy; tenants = xs; entries = c.new.result.entries; clock = c.args.first_tick })
    (ap (map at_rest) all ∙ map-map at_rest (begun c.args.config.now c.args.first_tick) (enumerate_from 0 tenants))
    ∙ ap (λ (t : TaskTable). record (new_host c.args.config.now c.args.first_tick) { config = c.in_ok-copy.copy; entries = t.entries }) c.new.ensures
    ∙ ap (λ (k : Rig). record (new_host c.args.config.now c.args.first_tick) { config = k }) c.in_ok-copy.ensures

pub returns-clause-base : goal.returns-clause-base
returns-clause-base c = λ setting same.
    subst (λ host. Stands setting host (new_base c.args.config.now c.args.first_tick)) (sym (returns-clause-host c))
    (subst (λ (k : Rig). Stands setting (new_host k c.args.first_tick) (new_base k c.args.first_tick)) same (new_stands setting c.args.first_tick))
