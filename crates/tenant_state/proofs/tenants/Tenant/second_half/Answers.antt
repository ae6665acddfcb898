use Rattle.std.proofs.Common.{sym, ap, subst, ◌∙◌}
use Rattle.rig_model.specs.FirstHalf.{due_tasks}
use Rattle.rig_model.specs.SecondHalf.{replaced_if_due}
use Rattle.tenant_state.specs.Standing.{Standing, most_released}
use Rattle.tenant_state.specs.cited.Halves.{IsSecondHalf}
use Rattle.tenant_state.specs.cited.Standing.{AreReleased, IsBehind}
use Rattle.tenant_state.proofs.Installed.{half_behind, nothing_due, released_then}
use Rattle.tenant_state.proofs.TenantBehind.{few_released}
use Rattle.tenant_state.proofs.TenantFacts.{AreEarly, early_of}
use Rattle.tenant_state.proofs.tenants.Tenant.second_half.Goals as goal
use Rattle.tenant_state.proofs.tenants.Tenant.second_half.Goals.{then-self-eq0+then-is_running, else-self-eq0}

pub go_on-requires-clause-ended_due : goal.go_on-requires-clause-ended_due
go_on-requires-clause-ended_due c = elim c.if-self-eq0.branch [
  | then-self-eq0+then-is_running w ↦
      ap (λ (s : Standing). due_tasks s.row) w.self-is ∙ nothing_due w.install_waiting.new.self.row (w.install_waiting.ensures.active ∙ w.install_waiting.ensures.none_active)
  | else-self-eq0 w ↦ ap (λ (s : Standing). due_tasks s.row) w.self-is ∙ c.requires.ended_due
]

pub returns-clause-half : goal.returns-clause-half
returns-clause-half c =
    let after = c.go_on.new.self in
    elim c.if-self-eq0.branch [
      | then-self-eq0+then-is_running w ↦
          let done = w.install_waiting.ensures in
          half_behind c.args.self.now c.if-self-eq0.self after (ap (λ (s : Standing). s.tenancy) w.self-is ∙ done.tenancy) (ap (λ (s : Standing). s.row.next_tick) w.self-is ∙ done.next_tick) c.args.frame.now c.args.granted.now
          (sym w.is_running.ensures ∙ w.if-is_running.true) (subst (IsBehind c.args.self.now replaced_if_due) (sym w.self-is) done.step) done.none_active
          (ap (λ (s : Standing). s.row.offers) w.self-is ∙ done.offers) (ap (λ (s : Standing). s.row.binds) w.self-is ∙ done.binds) c.go_on.ensures.half
      | else-self-eq0 w ↦ subst (λ s. IsSecondHalf c.args.frame.now c.args.granted.now s after) w.self-is c.go_on.ensures.half
    ]

pub returns-clause-released : goal.returns-clause-released
returns-clause-released c =
    let after = c.go_on.new.self in
    elim c.if-self-eq0.branch [
      | then-self-eq0+then-is_running w ↦
          let done = w.install_waiting.ensures in
          released_then c.args.self.now c.if-self-eq0.self after (ap (λ (s : Standing). s.tenancy) w.self-is ∙ done.tenancy) (ap (λ (s : Standing). s.row.next_tick) w.self-is ∙ done.next_tick)
          (ap (λ (s : Standing). s.row.active) w.self-is ∙ done.active) (ap (λ (s : Standing). most_released s.row) w.self-is ∙ done.most) c.go_on.ensures.released
      | else-self-eq0 w ↦ subst (λ (s : Standing). AreReleased s.row after.row) w.self-is c.go_on.ensures.released
    ]

pub returns-clause-few : goal.returns-clause-few
returns-clause-few c =
    let s = c.self.inside in
    few_released c.args.self.now.tenancy.owner.place c.args.self.now.row c.go_on.new.self.row
    (subst (λ (s : Standing). AreEarly s.row.next_tick s.row.active) c.self.view_is (early_of s.grants s.mode s.mode_time s.next_due s.active.items s.active.ended s.values.items _ s.next_tick s.program c.self.invariant.0.fits))
    (returns-clause-released c)
