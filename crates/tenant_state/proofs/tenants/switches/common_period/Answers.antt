use Rattle.std.proofs.Common.{◌≡◌, ◌++◌, ℕ, [], map, take, Option, Some, None, sym, ap, subst, ◌∙◌}
use Rattle.std.specs.List.{cons_option}
use Rattle.std.proofs.lemmas.List.{take_all}
use Rattle.rig_model.specs.text.Program.{ModeDeclaration}
use Rattle.rig_model.specs.rules.Declarations.{period_of_task}
use Rattle.tenant_slots.specs.Places.{name_of_task}
use Rattle.tenant_slots.proofs.cited.InvokedPeriods.{period_divides}
use Rattle.tenant_slots.proofs.cited.Numbered.{mode_fits_at}
use Rattle.tenant_slots.specs.cited.CommonPeriods.{IsCommonPeriod}
use Rattle.tenant_state.specs.Tenants.{active_of}
use Rattle.tenant_state.proofs.TaskPeriods.{periods_more, periods_of, small_product, with_first, with_more, with_none}
use Rattle.tenant_state.proofs.tenants.switches.common_period.Goals as goal
use Rattle.tenant_state.proofs.tenants.switches.common_period.Goals.{in-Some+in-None, in-Some+in-Some-common, in_default}

pub common_multiple-requires-clause-positive : goal.common_multiple-requires-clause-positive
common_multiple-requires-clause-positive c =
    let p = c.args.checked.now in
    let is = c.in-Some-common.is in
    let small = small_product p c.known.ensures.fits c.args.mode (map (active_of p) (take c.loop-a.a-index c.args.active.now)) (name_of_task p c.a-item.result.task) c.in-Some-common.other c.in-Some.period
    (λ past. let none = c.loop-a.invariant.none past in cc)
    (λ m at. subst (IsCommonPeriod (periods_of m (map (active_of p) (take c.loop-a.a-index c.args.active.now)))) is (c.loop-a.invariant.there m at))
    c.in-Some.ensures.there in
    (small.0, small.1)

pub common_multiple-requires-clause-small : goal.common_multiple-requires-clause-small
common_multiple-requires-clause-small c =
    let p = c.args.checked.now in
    let is = c.in-Some-common.is in
    (small_product p c.known.ensures.fits c.args.mode (map (active_of p) (take c.loop-a.a-index c.args.active.now)) (name_of_task p c.a-item.result.task) c.in-Some-common.other c.in-Some.period
    (λ past. let none = c.loop-a.invariant.none past in cc)
    (λ m at. subst (IsCommonPeriod (periods_of m (map (active_of p) (take c.loop-a.a-index c.args.active.now)))) is (c.loop-a.invariant.there m at))
    c.in-Some.ensures.there).2

pub loop-a-preserved : goal.loop-a-preserved
loop-a-preserved c =
    let p = c.args.checked.now in
    let active = c.args.active.now in
    let k = c.loop-a.a-index in
    let a = c.a-item.result in
    let fits = c.known.ensures.fits in
    let more = λ (m : ModeDeclaration) (o : Option ℕ) (same : o ≡ period_of_task m (name_of_task p a.task)).
    periods_more p m active k a c.loop-a-test.true c.a-item.is ∙ ap (λ (o : Option ℕ). periods_of m (map (active_of p) (take k active)) ++ cons_option o []) (sym same) in
    elim c.match-period_of.branch [
      | in-Some+in-None w ↦ record {
        there = λ m at. rw (w.common-is, more m (Some w.in-Some.period) (w.in-Some.ensures.there m at))
            (with_first _ w.in-Some.period (subst (IsCommonPeriod (periods_of m (map (active_of p) (take k active)))) w.in-None.is (c.loop-a.invariant.there m at))
            (period_divides p m (mode_fits_at p fits c.args.mode m at) _ _ (sym (w.in-Some.ensures.there m at))).0);
        none = λ past. absurd (let none = w.in-Some.ensures.none past in cc);
      }
      | in-Some+in-Some-common w ↦ record {
        there = λ m at. rw (w.common-is, more m (Some w.in-Some.period) (w.in-Some.ensures.there m at))
            (with_more _ w.in-Some.period w.in-Some-common.other _ (subst (IsCommonPeriod (periods_of m (map (active_of p) (take k active)))) w.in-Some-common.is (c.loop-a.invariant.there m at)) w.common_multiple.ensures);
        none = λ past. absurd (let none = w.in-Some.ensures.none past in cc);
      }
      | in_default w ↦ record {
        there = λ m at. rw (w.common-is, more m None (w.in_default.ensures.there m at)) (with_none _ _ (c.loop-a.invariant.there m at));
        none = λ past. w.common-is ∙ c.loop-a.invariant.none past;
      }
    ]

pub returns-clause-there : goal.returns-clause-there
returns-clause-there c m at =
    let p = c.args.checked.now in
    subst (λ xs. IsCommonPeriod (periods_of m (map (active_of p) xs)) c.loop-a.common) (take_all c.loop-a.a-index c.args.active.now c.loop-a-test.false) (c.loop-a.invariant.there m at)
