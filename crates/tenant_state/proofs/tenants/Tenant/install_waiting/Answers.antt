use Rattle.std.proofs.Common.{Option, ◌≡◌, map, None, Some, sym, ap, ◌∙◌}
use Rattle.std.specs.Arc.{arc_value}
use Rattle.std.specs.Option.{option_map}
use Rattle.rig_model.specs.text.Program.{GiottoProgram}
use Rattle.tenant_state.specs.declared.tenants.waiting.Waiting.{Waiting}
use Rattle.rig_model.specs.Row.{Row}
use Rattle.rig_model.specs.SecondHalf.{replaced_if_due}
use Rattle.tenant_state.specs.Standing.{Standing, most_released, with_last}
use Rattle.tenant_state.proofs.Installed.{none_left, stands_for_itself}
use Rattle.tenant_state.proofs.Replaced.{due_is, installed_is, released_as_before, released_behind}
use Rattle.tenant_state.proofs.tenants.Tenant.install_waiting.Goals as goal

pub returns-then-is_none-clause-none_active : goal.returns-then-is_none-clause-none_active
returns-then-is_none-clause-none_active c =
    none_left _ _ _ _ _ _ _ _ _ _ _ _ c.self.inside.waiting c.self.inside.trace _ _ c.self.view_is c.self.invariant.0 c.requires.running c.in-Some.old c.in-Some.is c.known.ensures.fits c.requires.ended_due c.requires.begins

pub returns-in_default-take-clause-none_active : goal.returns-in_default-take-clause-none_active
returns-in_default-take-clause-none_active c =
    none_left _ _ _ _ _ _ _ _ _ _ _ _ c.self.inside.waiting c.self.inside.trace _ _ c.self.view_is c.self.invariant.0 c.requires.running c.in-Some.old c.in-Some.is c.known.ensures.fits c.requires.ended_due c.requires.begins

pub put_in_place-requires-clause-none_active : goal.put_in_place-requires-clause-none_active
put_in_place-requires-clause-none_active c =
    ap (λ (t : Standing). t.row.active) c.self.view_is
    ∙ none_left _ _ _ _ _ _ _ _ _ _ _ _ c.self.inside.waiting c.self.inside.trace _ _ c.self.view_is c.self.invariant.0 c.requires.running c.in-Some.old c.in-Some.is c.known.ensures.fits c.requires.ended_due c.requires.begins

pub returns-clause-none_active : goal.returns-clause-none_active
returns-clause-none_active c =
    none_left _ _ _ _ _ _ _ _ _ _ _ _ c.self.inside.waiting c.self.inside.trace _ _ c.self.view_is c.self.invariant.0 c.requires.running c.in-Some.old c.in-Some.is c.known.ensures.fits c.requires.ended_due c.requires.begins

pub returns-clause-active : goal.returns-clause-active
returns-clause-active c = c.put_in_place.ensures.active ∙ sym (returns-clause-none_active c)

pub returns-clause-step : goal.returns-clause-step
returns-clause-step c = λ row stands.
    let s = c.self.inside in
    let new = c.in-Some-take.waiting.program in
    let here = ap (λ (t : Standing). t.row) c.self.view_is ∙ stands ∙ ap (λ (t : Standing). with_last t.tenancy.budgets.trace row) (sym c.self.view_is) in
    let has : row.program ≡ Some c.in-Some.old = ap (λ (r : Row). r.program) (sym here) ∙ c.in-Some.is in
    let waits : row.waiting ≡ Some new = ap (λ (r : Row). r.waiting) (sym here) ∙ ap (option_map (λ (w : Waiting). w.program)) (sym c.take.ensures.value ∙ c.in-Some-take.is) in
    let begins : row.mode_time ≡ 0 = ap (λ (r : Row). r.mode_time) (sym stands) ∙ c.requires.begins in
    let program_of : Option Waiting → Option GiottoProgram = option_map (λ (w : Waiting). w.program) in
    c.put_in_place.ensures.step (record row { waiting = None })
    (ap (λ (r : Row). record r { waiting = program_of c.take.new.self }) here ∙ ap (λ (o : Option Waiting). record (with_last s.budgets.trace row) { waiting = program_of o }) c.take.ensures.after)
    ∙ ap (with_last c.put_in_place.new.self.tenancy.budgets.trace) (installed_is c.in-Some.old new (record row { waiting = None }) has ∙ sym (installed_is c.in-Some.old new row has) ∙ sym (due_is new row begins waits))

pub returns-clause-most : goal.returns-clause-most
returns-clause-most c =
    let row = c.args.self.now.row in
    let own = stands_for_itself _ _ _ _ _ _ c.self.inside.next_due _ _ _ _ (map (option_map arc_value) c.self.inside.shares.items) c.self.inside.waiting c.self.inside.trace _ _ c.self.view_is c.self.invariant.1 in
    let behind = replaced_if_due row in
    ap most_released (returns-clause-step c row own) ∙ released_as_before behind behind.active behind.ports _ ∙ released_behind row c.requires.running
