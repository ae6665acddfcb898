use Rattle.std.proofs.Common.{Bor, ℕ, ◌≡◌, ◌<◌, length, get_or, Some, sym, ap, ◌∙◌, arith}
use Rattle.std.specs.Prelude.{option_map}
use Rattle.std.proofs.lemmas.List.{get_or_default}
use Rattle.giotto_tasks.specs.declared.names.Name.{Name}
use Rattle.instant_engine.specs.Tenants.{tenant_at}
use Rattle.rig_model.specs.grants.Grants.{bind_at, name_of_place}
use Rattle.tenant_state.specs.Standing.{Standing, no_tenant}
use Rattle.instant_engine.proofs.Granting.{bound_within, granted_there, name_there}
use Rattle.instant_engine.proofs.grants.granted_by.Goals as goal
use Rattle.instant_engine.proofs.grants.granted_by.Goals.{In_ok-supplier}

module _ (c : In_ok-supplier) where
  own : c.index-tenants-place.result ≡ tenant_at c.args.tenants.now c.args.place
  own = c.index-tenants-place.is ∙ get_or_default c.args.tenants.now c.args.place c.index-tenants-place.result no_tenant c.requires.tenant

  bound : bind_at c.index-tenants-place.result.tenancy.owner.roster c.index-tenants-place.result.row.binds c.args.i ≡ Some (c.in_ok-supplier.field-0-0.now, c.in_ok-supplier.supplier, c.in_ok-supplier.actuator.now)
  bound = sym c.bind_at.ensures.bind ∙ ap (option_map (λ (b : Bor Name × ℕ × Bor Name). (b.0.now, b.1, b.2.now))) c.in_ok-supplier.was

  many : length c.index-tenants-place.result.tenancy.owner.roster ≡ length c.args.tenants.now
  many = ap (λ (s : Standing). length s.tenancy.owner.roster) own ∙ ap length (c.requires.rosters.same c.args.place c.requires.tenant) ∙ c.requires.rosters.whole

  below : c.in_ok-supplier.supplier < length c.args.tenants.now
  below =
      omega (
        arith,
        bound_within c.index-tenants-place.result.tenancy.owner.roster c.index-tenants-place.result.row.binds c.args.i c.in_ok-supplier.supplier c.in_ok-supplier.field-0-0.now c.in_ok-supplier.actuator.now bound,
        many,
      )

pub returns : goal.returns
returns c =
    let earlier = (goal.at.returns c).In_ok-supplier in
    let tenants = c.args.tenants.now in
    let it = c.in_ok-supplier in
    let x = c.index-tenants-place.result in
    let s = c.index-tenants-supplier.result in
    let name = c.index-roster-place.result in
    let supplier = c.index-tenants-supplier.is ∙ get_or_default tenants it.supplier s no_tenant (below earlier) in
    let within : c.args.place < length x.tenancy.owner.roster = omega (arith, many earlier, c.requires.tenant) in
    let named : name ≡ name_of_place x.tenancy.owner.roster c.args.place =
    c.index-roster-place.is ∙ ap (λ names. get_or names c.args.place name) c.roster.ensures ∙ name_there x.tenancy.owner.roster c.args.place name within in
    c.granted_from.ensures
    ∙ sym (granted_there tenants c.args.place c.args.i it.supplier it.field-0-0.now it.actuator.now name x s c.requires.rosters c.requires.tenant (own earlier) supplier (bound earlier) named)
