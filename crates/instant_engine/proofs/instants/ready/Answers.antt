use Rattle.std.proofs.Common.{rules, ◌<◌, length, ap, arith}
use Rattle.std.proofs.lemmas.List.Elements.{AllWithin-more_set}
use Rattle.instant_engine.specs.cited.Halves.{IsReady}
use Rattle.rig_model.specs.Row.{Row}
use Rattle.std.proofs.lemmas.List.Sums.{sum_by-take-le}
use Rattle.tenant_state.specs.Standing.{Standing, most_released}
use Rattle.instant_engine.proofs.cited.AtRest.{readied, same_length, same_most}
use Rattle.instant_engine.proofs.cited.Loops.{most_more, none_of_one}
use Rattle.instant_engine.proofs.instants.ready.Goals as goal

pub returns-in_default-clause-rest : goal.returns-in_default-clause-rest
returns-in_default-clause-rest c =
    readied c.loop-i.tenants c.args.tenants.now c.loop-i.i c.index-tenants-i.result c.ready.new.self c.loop-i.invariant.rest c.ready.ensures.tenancy c.ready.ensures.row c.ready.ensures.ended

pub returns-in_err-most-clause-rest : goal.returns-in_err-most-clause-rest
returns-in_err-most-clause-rest c =
    readied c.loop-i.tenants c.args.tenants.now c.loop-i.i c.index-tenants-i.result c.ready.new.self c.loop-i.invariant.rest c.ready.ensures.tenancy c.ready.ensures.row c.ready.ensures.ended

pub returns-in_default-clause-never_refused : goal.returns-in_default-clause-never_refused
returns-in_default-clause-never_refused c = λ none.
    let within : c.loop-i.i < length c.loop-i.tenants = omega (arith, c.loop-i-test.true, same_length c.args.tenants.now c.loop-i.tenants c.loop-i.invariant.rest) in
    let given = c.ready.ensures.never_refused (none_of_one c.args.tenants.now c.loop-i.tenants c.loop-i.i c.index-tenants-i.result c.loop-i.invariant.rest within none) in
    search rules

pub returns-in_err-most-clause-never_refused : goal.returns-in_err-most-clause-never_refused
returns-in_err-most-clause-never_refused c = λ none.
    let within : c.loop-i.i < length c.loop-i.tenants = omega (arith, c.loop-i-test.true, same_length c.args.tenants.now c.loop-i.tenants c.loop-i.invariant.rest) in
    let one = none_of_one c.args.tenants.now c.loop-i.tenants c.loop-i.i c.index-tenants-i.result c.loop-i.invariant.rest within none in
    absurd (omega (
      arith,
      c.in_err-most.ensures,
      c.loop-i.invariant.most,
      c.in-Ok.ensures.most,
      one,
      none,
      same_most c.args.tenants.now c.loop-i.tenants c.loop-i.invariant.rest,
      sum_by-take-le (λ (s : Standing). most_released s.row) c.loop-i.tenants c.loop-i.i,
    ))

pub loop-i-preserved : goal.loop-i-preserved
loop-i-preserved c =
    let within : c.loop-i.i < length c.loop-i.tenants = omega (arith, c.loop-i-test.true, same_length c.args.tenants.now c.loop-i.tenants c.loop-i.invariant.rest) in
    record {
      rest = readied c.loop-i.tenants c.args.tenants.now c.loop-i.i c.index-tenants-i.result c.ready.new.self c.loop-i.invariant.rest c.ready.ensures.tenancy c.ready.ensures.row c.ready.ensures.ended;
      ready = AllWithin-more_set c.loop-i.tenants c.loop-i.i c.ready.new.self within IsReady c.loop-i.invariant.ready (record { room = c.in-Ok.ensures.room; shares = c.in-Ok.ensures.shares });
      most = omega (arith, c.in_ok-most.ensures.1, c.loop-i.invariant.most, c.in-Ok.ensures.most, ap (λ (r : Row). most_released r) c.ready.ensures.row, most_more c.loop-i.tenants c.loop-i.i c.ready.new.self within);
    }
