use Rattle.std.proofs.Common.{length, sym, ap, subst, ◌∙◌, arith}
use Rattle.std.specs.Prelude.{IsSomeAnd}
use Rattle.std.proofs.lemmas.List.{length-map}
use Rattle.rig_model.specs.text.Program.{names_of}
use Rattle.rig_model.specs.text.PortNames.{own_ports}
use Rattle.tenant_slots.specs.well_formed.cited.Timetables.{AreEach, IsExpression}
use Rattle.tenant_state.specs.inner.Tenants.{IsActiveAs}
use Rattle.tenant_state.specs.declared.tenants.Active.{Active}
use Rattle.tenant_state.proofs.tenants.releases.activate.Goals as goal

pub returns-clause-fits : goal.returns-clause-fits
returns-clause-fits c =
    let p = c.args.checked.now in
    let its = c.requires.its in
    let t = its.task in
    let given = subst (λ es. AreEach (IsExpression p) its.invocation.arguments es) (sym c.as_slice.ensures.value) its.is.arguments in
    let inputs = ap length (c.argument_values.ensures p its.invocation.arguments given c.requires.values) ∙ length-map its.invocation.arguments _ ∙ its.as_many in
    let states = ap length (c.state_values.ensures t its.there) ∙ length-map (own_ports t.name (names_of t.states)) _ ∙ length-map (names_of t.states) _ ∙ length-map t.states _ in
    let old = c.args.active.now in
    let a : Active = record old { task = c.args.invocation.now.task; release = c.args.release; inputs = c.argument_values.new.given; states = c.state_values.new.taken } in
    record {
      early = omega arith;
      declared = subst (λ o. IsSomeAnd o (IsActiveAs a)) (sym its.there) (record { inputs_fit = inputs; states_fit = states });
    }
