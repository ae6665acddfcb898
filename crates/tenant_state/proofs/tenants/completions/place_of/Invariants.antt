use Rattle.std.proofs.Common.{◌≡◌, find, drop}
use Rattle.rig_model.specs.Jobs.{same_job, job_of}
use Rattle.tenant_state.specs.declared.tenants.Active.{Active}
use Rattle.tenant_state.specs.Tenants.{active_of}
use Rattle.tenant_state.proofs.tenants.completions.place_of.Given as goal

abbrev pub invariant-loop-place : goal.invariant-loop-place
invariant-loop-place l =
    let named = λ (a : Active). same_job (job_of l.tenant (active_of l.checked a)) l.id in
    find named l.active ≡ find named (drop l.place l.active)
