use Rattle.std.proofs.Common.{◌≡◌, map, sym, ap, ◌∙◌}
use Rattle.std.specs.Arc.{arc_value}
use Rattle.std.specs.Option.{option_map}
use Rattle.tenant_state.specs.Tenants.{standing_of}
use Rattle.tenant_state.proofs.Copies.{fits_copied, standing_copied}
use Rattle.tenant_state.proofs.tenants.Tenant.copy.Goals as goal

module _ (c : goal.After-copy) where
  budgets : c.in_ok-budgets.budgets ≡ c.self.inside.budgets
  budgets = ap (λ copies. copies.0) c.in_ok-budgets.ensures

  grants : c.in_ok-budgets.grants ≡ c.self.inside.grants
  grants = ap (λ copies. copies.1) c.in_ok-budgets.ensures

  active : c.in_ok-active.active ≡ c.self.inside.active
  active = ap (λ copies. copies.0) c.in_ok-active.ensures

  trace : c.in_ok-active.trace ≡ c.self.inside.trace
  trace = ap (λ copies. copies.1) c.in_ok-active.ensures

  values : c.in_ok-beginning.beginning.values.items ≡ c.self.inside.values.items
  values = c.in_ok-beginning.ensures.values ∙ c.as_slice.ensures.value

  shares : map (option_map arc_value) c.in_ok-beginning.beginning.shares.items ≡ map (option_map arc_value) c.self.inside.shares.items
  shares = c.in_ok-beginning.ensures.shares ∙ ap (map (option_map arc_value)) c.as_slice-2.ensures.value

pub invariant_of-result : goal.invariant_of-result
invariant_of-result c =
    let tenant = c.self.inside in
    let programs = c.in_ok-program.ensures in (
      rw (c.copy.ensures, programs.program, active c, values c, shares c) c.self.invariant.0,
      rw (budgets c, trace c) c.self.invariant.1,
      rw (programs.program) (fits_copied tenant.program tenant.waiting c.in_ok-program.waiting programs.waiting c.self.invariant.2),
    )

pub returns : goal.returns
returns c =
    let tenant = c.self.inside in
    let programs = c.in_ok-program.ensures in
    let copied = c.in_ok-active.active in
    let values_copied = c.in_ok-beginning.beginning.values.items in
    let shares_copied = map (option_map arc_value) c.in_ok-beginning.beginning.shares.items in
    standing_copied c.in_ok-budgets.budgets c.in_ok-budgets.grants c.copy.result c.in_ok-program.program tenant.mode tenant.mode_time copied.items copied.ended copied.room values_copied shares_copied
    tenant.waiting c.in_ok-program.waiting c.in_ok-active.trace tenant.next_tick programs.waiting
    ∙ (λ k. standing_of (budgets c k) (grants c k) (c.copy.ensures k) (programs.program k) tenant.mode tenant.mode_time (active c k).items (active c k).ended (active c k).room (values c k) (shares c k)
    tenant.waiting (trace c k) tenant.next_tick)
    ∙ c.self.view_is
