use Rattle.std.proofs.Common.{◌<◌, [], length, sym, ap, ◌∙◌, arith}
use Rattle.std.specs.Option.{option_map_or}
use Rattle.std.proofs.lemmas.List.{length-map}
use Rattle.rig_model.specs.text.Program.{TaskDeclaration}
use Rattle.rig_model.specs.text.ProgramTrees.{task_of}
use Rattle.tenant_state.proofs.Shares.{task_at}
use Rattle.tenant_state.proofs.tenants.phase_two.job_for.Goals as goal

pub returns : goal.returns
returns c =
    let tasks = c.tasks.result.now in
    let k = c.args.active.now.task in
    let within : k < length tasks = omega (arith, sym (ap length c.tasks.ensures) ∙ length-map tasks task_of, c.requires.there) in
    let name = c.copy.ensures ∙ sym (ap (λ o. option_map_or (λ (t : TaskDeclaration). t.name) o []) (task_at tasks c.args.program.now.tasks k c.index-tasks-active.result c.tasks.ensures within)) in
    c.new.ensures
    ∙ (λ i. record { id = record { tenant = c.args.tenant; tick = c.args.active.now.release; task = name i }; body = c.requires.body i; inputs = c.copy-inputs.ensures i; states = c.copy-states.ensures i })
