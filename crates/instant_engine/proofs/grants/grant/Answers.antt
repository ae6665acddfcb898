use Rattle.std.proofs.Common.{◌≡◌, ◌≢◌, ◌+◌, ⊎_elim, length, map, take, drop, refl, sym, ap, subst, ◌∙◌, arith}
use Rattle.std.proofs.lemmas.Bool.{cases_eq}
use Rattle.rig_model.specs.Granted.{granted_by}
use Rattle.instant_engine.specs.cited.Tenants.{binds_of, granted_at, roster_among, rows_of}
use Rattle.instant_engine.proofs.Granting.{written_others}
use Rattle.instant_engine.proofs.cited.Loops.{binds_next, binds_upto, binds_within}
use Rattle.instant_engine.proofs.grants.grant.Goals as goal

pub loop-place-init : goal.loop-place-init
loop-place-init c = record { long = refl; first = refl; so_far = λ t lt. absurd (omega arith) }

pub grant_to-first-requires : goal.grant_to-first-requires
grant_to-first-requires c =
    let tenants = c.args.tenants.now in
    let place = c.loop-place.place in
    let now = c.loop-place.invariant in
    record {
      rosters = c.requires.rosters;
      tenant = c.loop-place-test.true;
      places = omega (arith, now.long, now.first, binds_next place tenants c.loop-place-test.true, binds_within (place + 1) tenants, c.requires.places);
    }

pub loop-place-preserved : goal.loop-place-preserved
loop-place-preserved c =
    let tenants = c.args.tenants.now in
    let place = c.loop-place.place in
    let now = c.loop-place.invariant in
    let next = binds_next place tenants c.loop-place-test.true in
    record {
      long = c.grant_to-first.auto.granted ∙ now.long;
      first = c.grant_to-first.ensures.behind ∙ omega (arith, now.first, next);
      so_far = λ t lt. ⊎_elim
          (λ (same : t ≡ place).
          subst (λ k. granted_at tenants k c.grant_to-first.new.granted ≡ map (granted_by (roster_among tenants) (rows_of tenants) (rows_of tenants) k) (rows_of tenants k).binds) (sym same)
          (ap (λ n. take (length (rows_of tenants place).binds) (drop n c.grant_to-first.new.granted)) (sym now.first) ∙ c.grant_to-first.ensures.granted))
          (λ (differ : t ≢ place).
          written_others c.loop-place.granted c.grant_to-first.new.granted c.loop-place.first (length (rows_of tenants t).binds) (binds_of (take t tenants)) (omega (arith, now.first, binds_upto t place tenants (omega (arith, lt, differ)) c.loop-place-test.true)) c.grant_to-first.ensures.before
          ∙ now.so_far t (omega (arith, lt, differ)))
          (cases_eq t place);
    }

pub returns : goal.returns
returns c = record { granted = λ t lt. c.loop-place.invariant.so_far t (omega (arith, lt, c.loop-place-test.false)) }
