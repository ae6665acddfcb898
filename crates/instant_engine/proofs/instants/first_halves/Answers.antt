use Rattle.std.proofs.Common.{◌<◌, length, get_or, ap, sym, subst, ◌∙◌, arith}
use Rattle.std.proofs.lemmas.List.Elements.{All-set}
use Rattle.std.proofs.lemmas.List.Sums.{sum_by-set}
use Rattle.tenant_state.specs.cited.Halves.{IsFirstHalf}
use Rattle.instant_engine.specs.cited.Halves.{IsReady}
use Rattle.tenant_state.specs.Standing.{Standing, no_tenant, most_released}
use Rattle.tenant_state.specs.cited.Standing.{HasItsEntries, HasItsResults}
use Rattle.instant_engine.proofs.cited.Loops.{stepped_more, stepped_all, unstepped}
use Rattle.instant_engine.proofs.instants.first_halves.Goals as goal

pub phase_one-requires : goal.phase_one-requires
phase_one-requires c =
    let inside : c.loop-i.i < length c.args.tenants.now = omega (arith, c.loop-i-test.true) in
    let here = unstepped _ c.loop-i.i c.args.tenants.now c.loop-i.tenants c.index-tenants-i.result inside c.loop-i.invariant.halves in
    record {
      rest = ap (λ (s : Standing). s.ready.ended) here ∙ (c.requires.between c.loop-i.i no_tenant inside).rest;
      entries = subst (λ s. HasItsEntries s c.args.finished.now.entries) (sym here) (c.requires.entries c.loop-i.i no_tenant inside);
      results = subst (λ s. HasItsResults s c.args.finished.now.entries) (sym here) (c.requires.results c.loop-i.i no_tenant inside);
    }

pub loop-i-preserved : goal.loop-i-preserved
loop-i-preserved c =
    let d : Standing = c.index-tenants-i.result in
    let half : Standing = c.phase_one.new.self in
    let inside : c.loop-i.i < length c.args.tenants.now = omega (arith, c.loop-i-test.true) in
    let within : c.loop-i.i < length c.loop-i.tenants = omega (arith, inside, c.loop-i.invariant.halves.as_many) in
    record {
      halves = stepped_more (λ t. IsFirstHalf c.args.finished.now.entries) c.loop-i.i c.args.tenants.now c.loop-i.tenants d half inside c.loop-i.invariant.halves c.phase_one.ensures.half;
      ready = λ all.
          let before : IsReady (get_or c.loop-i.tenants c.loop-i.i d) = c.loop-i.invariant.ready all c.loop-i.i d within in
          All-set IsReady c.loop-i.tenants c.loop-i.i half
          (record { room = omega (arith, c.phase_one.ensures.fewer, c.phase_one.ensures.room, before.room); shares = λ some. c.phase_one.ensures.shared (before.shares (omega (arith, some, c.phase_one.ensures.fewer))) })
          (c.loop-i.invariant.ready all);
      fewer =
          omega (
            arith,
            c.loop-i.invariant.fewer,
            c.phase_one.ensures.fewer,
            sum_by-set (λ (s : Standing). most_released s.row) c.loop-i.tenants c.loop-i.i half d within,
          );
      binds =
          omega (
            arith,
            c.loop-i.invariant.binds,
            ap length c.phase_one.ensures.half.binds,
            sum_by-set (λ (s : Standing). length s.row.binds) c.loop-i.tenants c.loop-i.i half d within,
          );
    }

pub returns-clause-halves : goal.returns-clause-halves
returns-clause-halves c = stepped_all _ c.loop-i.i c.args.tenants.now c.loop-i.tenants (omega (arith, c.loop-i-test.false)) c.loop-i.invariant.halves
