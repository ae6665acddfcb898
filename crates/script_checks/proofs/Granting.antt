-- The programs that commands load.
use Rattle.std.proofs.Common.{◌≡◌, List, ℕ, Some, None, Result, Ok, Err, refl}
use Rattle.program_checks.specs.reports.Reports.{IsWellFormed}
use Rattle.rig_model.specs.rules.Rules.{first_broken_rule}
use Rattle.rig_model.specs.text.Parsing.{parsed}
use Rattle.rig_model.specs.text.Program.{GiottoProgram}
use Rattle.program_checks.proofs.cited.WellFormed.{program_of_text, text_of_program}
use Rattle.rig_model.specs.Admission.{program_of}
use Rattle.rig_model.specs.declared.lines.replies.Refusal.{Refusal}
use Rattle.script_checks.specs.Grants.{loaded}
use Rattle.script_checks.specs.declared.binds.What.TheVariants.{Program}

pub loaded_program : (text : List ℕ) (p : GiottoProgram) → parsed text ≡ Ok p → first_broken_rule p ≡ None → Some (Program p) ≡ loaded text
loaded_program text p is none = rw (program_of_text text p is none) refl

pub nothing_loaded : (text : List ℕ) → (IsWellFormed text → ⊥) → None ≡ loaded text
nothing_loaded text refused = by (program_of text) refl
  where
    by : (r : Result GiottoProgram Refusal) → program_of text ≡ r → None ≡ loaded text
    by (Err refusal) is = rw is refl
    by (Ok p) is = absurd (refused (text_of_program text p is))
