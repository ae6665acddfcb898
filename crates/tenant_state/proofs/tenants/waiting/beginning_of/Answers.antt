use Rattle.std.proofs.Common.{map, None, List, ap, ◌∙◌, subst, sym}
use Rattle.tenant_slots.specs.well_formed.cited.Timetables.{AreEach}
use Rattle.rig_model.specs.text.Program.{GiottoProgram, TaskDeclaration}
use Rattle.tenant_state.specs.inner.Tenants.{IsShareOf}
use Rattle.tenant_state.proofs.TenantCommands.{none_of_each, none_shared}
use Rattle.tenant_state.proofs.tenants.waiting.beginning_of.Goals as goal

pub returns-clause-begins : goal.returns-clause-begins
returns-clause-begins c =
    let p = c.args.program.now in
    let none = c.in_ok-shares.ensures ∙ none_of_each c.tasks.result.now
    ∙ ap (λ (ts : List TaskDeclaration). map (λ t. None) ts) (c.tasks.ensures ∙ ap (λ (p : GiottoProgram). p.tasks) c.program.ensures.tree) in
    record {
      long = c.in_ok-values.ensures.long;
      initial = c.in_ok-values.ensures.ports;
      share_each = subst (AreEach IsShareOf p.tasks) (sym none) (none_shared p.tasks);
    }
