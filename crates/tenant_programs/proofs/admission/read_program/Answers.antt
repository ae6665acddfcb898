use Rattle.std.proofs.Common.{◌≡◌, refl, sym, ap, ◌∙◌}
use Rattle.std.specs.Prelude.{Err}
use Rattle.rig_model.specs.declared.text.faults.ReadFault.TheVariants.{Memory}
use Rattle.rig_model.specs.Admission.{program_read, refusal_of_text}
use Rattle.tenant_programs.proofs.admission.read_program.Goals as goal

pub returns-in-Err-clause-refused : goal.returns-in-Err-clause-refused
returns-in-Err-clause-refused c = λ other.
    let not_memory : c.in-Err.fault ≡ Memory → ⊥ = λ memory. other (c.refusal_of.ensures ∙ ap refusal_of_text memory) in
    ap program_read (c.in-Err.ensures.fault c.in-Err.fault refl not_memory) ∙ ap Err (sym c.refusal_of.ensures)
