use Rattle.std.proofs.Common.{None, ◌≡◌, false, cond, [], ◌∷◌, Some, refl, sym, ap, ◌∙◌, arith}
use Rattle.std.specs.Prelude.{slice_get}
use Rattle.std.specs.Option.{option_map_or}
use Rattle.std.specs.Vec.{with_items}
use Rattle.giotto_tasks.proofs.cited.ListLemmas.{whole_slice}
use Rattle.rig_model.specs.text.Program.{ModeDeclaration}
use Rattle.rig_model.specs.declared.lines.replies.Refusal.{Refusal}
use Rattle.tenant_state.specs.declared.tenants.State.TheVariants.{Running}
use Rattle.rig_model.specs.Commands.{refused, start_program}
use Rattle.rig_model.specs.Row.{Row, is_running}
use Rattle.tenant_state.specs.Standing.{Standing, with_last}
use Rattle.rig_model.specs.declared.trace.records.Happening.TheVariants as happening
use Rattle.rig_model.specs.trace.cited.Noted.{noted}
use Rattle.tenant_state.proofs.EndedTasks.{some_of}
use Rattle.tenant_state.proofs.Records.{recorded_behind}
use Rattle.tenant_state.proofs.Stops.{row_of}
use Rattle.tenant_state.proofs.TenantCommands.{stands_at_beginning}
use Rattle.tenant_state.proofs.tenants.Tenant.start.Goals as goal

pub returns-clause-started : goal.returns-clause-started
returns-clause-started c = λ tenancy row stands.
    let s = c.self.inside in
    let p = c.in-Some.program in
    let start = c.start_place-mode.result in
    let new = c.reset_ports.new.values in
    let view = ap (λ (t : Standing). t.row) c.self.view_is in
    let here = view ∙ stands ∙ ap (λ (t : Standing). with_last t.tenancy.budgets.trace row) (sym c.self.view_is) in
    let rests : is_running row ≡ false = ap is_running (sym stands) ∙ sym c.is_running.ensures ∙ c.if-is_running.false in
    let none = c.forget_ended.ensures.items ∙ c.self.invariant.0.rests (ap (λ (t : Standing). is_running t.row) c.self.view_is ∙ sym c.is_running.ensures ∙ c.if-is_running.false) in
    let has : row.program ≡ Some p = ap (λ (r : Row). r.program) (sym (view ∙ stands)) ∙ c.in-Some.is in
    let place = some_of {P = λ (m : ModeDeclaration). m.name ≡ p.start} (slice_get p.modes start) c.start_place-mode.ensures in
    let starts = ap (λ o. option_map_or (λ (m : ModeDeclaration). m.name) o []) place.1 ∙ place.2 in
    let written : (with_items s.values new).items ≡ new = whole_slice s.values.len new s.values.items (omega (arith, c.as_mut_slice.ensures.len, c.reset_ports.auto.values)) in
    let told : c.note.new.self ≡ noted s.next_tick (happening.Start p.start ∷ []) s.trace = c.note.ensures ∙ ap (λ x. noted s.next_tick (happening.Start x ∷ []) s.trace) (c.mode_name-name.ensures ∙ starts) in
    let steps = ap (λ b. cond b (refused row Refusal.Running) (start_program row row.program)) rests ∙ ap (start_program row) has in
    rw steps (record {
      same_reply = refl;
      stands = (λ k. row_of s.grants Running (c.in-Some.is k) start 0 (none k) (written k) None (told k) s.next_tick)
          ∙ recorded_behind s.budgets.trace s.next_tick (happening.Start p.start) _ _ s.trace c.self.invariant.1.same_most (ap (λ (r : Row). r.records) here)
          (stands_at_beginning s.grants s.state s.program s.mode s.mode_time s.active.items s.values.items s.waiting s.trace s.next_tick s.budgets.trace row Running p start new here starts c.reset_ports.ensures)
          (ap (λ (r : Row). r.next_tick) here);
    })
