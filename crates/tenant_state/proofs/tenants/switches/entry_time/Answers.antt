use Rattle.std.proofs.Common.{◌-◌, ◌%◌, map, sym, ap, ◌∙◌, arith}
use Rattle.std.specs.Prelude.{slice_get}
use Rattle.std.proofs.Math.Nat.{mod-lt}
use Rattle.rig_model.specs.text.Program.{ModeDeclaration, GiottoProgram}
use Rattle.rig_model.specs.text.ProgramTrees.{mode_of}
use Rattle.tenant_slots.proofs.cited.Numbered.{mode_fits_at}
use Rattle.tenant_state.specs.Tenants.{active_of}
use Rattle.tenant_state.proofs.TaskPeriods.{before_end, before_end_none, common_positive, mapped_there, periods_common, periods_of}
use Rattle.tenant_state.proofs.tenants.switches.entry_time.Goals as goal

pub nonzero_rem-time : goal.nonzero_rem-time
nonzero_rem-time c =
    common_positive c.args.checked.now c.program.ensures.fits c.args.from (map (active_of c.args.checked.now) c.args.active.now) c.in-Some.common c.in-Some.ensures.there (λ past. let none = c.in-Some.ensures.none past in cc)

pub overflow_sub-common : goal.overflow_sub-common
overflow_sub-common c =
    let some = common_positive c.args.checked.now c.program.ensures.fits c.args.from (map (active_of c.args.checked.now) c.args.active.now) c.in-Some.common c.in-Some.ensures.there (λ past. let none = c.in-Some.ensures.none past in cc) in
    omega (arith, mod-lt c.args.time some)

pub returns-in-None : goal.returns-in-None
returns-in-None c m t at_from at_target = sym (before_end_none m t c.args.time _ (c.in-None.ensures.there m at_from))

pub returns-in-Some : goal.returns-in-Some
returns-in-Some c m t at_from at_target =
    let p = c.args.checked.now in
    let f = mode_fits_at p c.program.ensures.fits c.args.from m at_from in
    let active = map (active_of p) c.args.active.now in
    let whole = before_end m t c.args.time (periods_of m active) c.in-Some.common f.positive (periods_common p m f active) (c.in-Some.ensures.there m at_from) in
    let period = ap (λ (m : ModeDeclaration). m.period)
    (mapped_there mode_of c.modes.result.now c.args.target c.index-modes-target.result t (ap (λ ms. slice_get ms c.args.target) (c.modes.ensures ∙ ap (λ (q : GiottoProgram). q.modes) c.program.ensures.tree) ∙ at_target)) in
    c.saturating_sub.ensures ∙ ap (λ n. n - (c.in-Some.common - c.args.time % c.in-Some.common)) period ∙ sym whole
