use Rattle.std.proofs.Common.{◌≡◌, ◌+◌, drop, length, map, take, refl, ap, sym, ◌∙◌, arith, length-set}
use Rattle.std.proofs.lemmas.List.{get_or_default, length-map, take_all}
use Rattle.rig_model.specs.Granted.{granted_by}
use Rattle.instant_engine.specs.cited.Tenants.{roster_among, rows_of}
use Rattle.tenant_state.specs.Standing.{Standing, no_tenant}
use Rattle.instant_engine.proofs.Granting.{others_before, written_more}
use Rattle.instant_engine.proofs.grants.grant_to.Goals as goal

pub loop-i-init : goal.loop-i-init
loop-i-init c = record {
  long = refl;
  many = c.bind_count-binds.ensures ∙ ap (λ (s : Standing). length s.row.binds) (c.index-tenants-place.is ∙ get_or_default c.args.tenants.now c.args.place c.index-tenants-place.result no_tenant c.requires.tenant);
  before = refl;
  here = refl;
}

pub loop-i-preserved : goal.loop-i-preserved
loop-i-preserved c =
    let now = c.loop-i.invariant in
    let bs = (rows_of c.args.tenants.now c.args.place).binds in
    record {
      long = length-set c.loop-i.granted (c.args.first + c.loop-i.i) c.note.new.self ∙ now.long;
      many = now.many;
      before = others_before c.loop-i.granted c.args.first c.loop-i.i c.note.new.self ∙ now.before;
      here = written_more c.loop-i.granted c.args.first c.loop-i.i c.note.new.self (granted_by (roster_among c.args.tenants.now) (rows_of c.args.tenants.now) (rows_of c.args.tenants.now) c.args.place) bs
          (omega (arith, now.long, c.requires.places)) (omega (arith, now.many, c.loop-i-test.true)) (c.note.ensures ∙ c.granted_by-value.ensures) now.here;
    }

pub returns-clause-before : goal.returns-clause-before
returns-clause-before c = c.loop-i.invariant.before

pub returns-clause-granted : goal.returns-clause-granted
returns-clause-granted c =
    let bs = (rows_of c.args.tenants.now c.args.place).binds in
    let by = granted_by (roster_among c.args.tenants.now) (rows_of c.args.tenants.now) (rows_of c.args.tenants.now) c.args.place in
    let end : c.loop-i.i ≡ length bs = omega (arith, c.loop-i.auto.i-end, c.loop-i-test.false, c.loop-i.invariant.many) in
    ap (λ n. take n (drop c.args.first c.loop-i.granted)) (sym end) ∙ c.loop-i.invariant.here ∙ take_all c.loop-i.i (map by bs) (omega (arith, end, length-map bs by))
