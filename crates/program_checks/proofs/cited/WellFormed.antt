-- What a text was found to be agrees with how the host reads it.
use Rattle.std.proofs.Common.{◌≡◌, ℕ, List, Option, Some, None, Result, Ok, Err, refl}
use Rattle.rig_model.specs.rules.Rules.{first_broken_rule}
use Rattle.rig_model.specs.text.Parsing.{parsed}
use Rattle.rig_model.specs.text.Program.{GiottoProgram}
use Rattle.rig_model.specs.declared.text.faults.ReadFault.{ReadFault}
use Rattle.giotto_reports.specs.Reports.{IsWellFormed}
use Rattle.rig_model.specs.Admission.{program_of, refusal_of_text}
use Rattle.rig_model.specs.declared.lines.replies.Refusal.TheVariants.{Rule}

-- the host accepts a text's program if it is well-formed
pub program_of_text : (text : List ℕ) (p : GiottoProgram) → parsed text ≡ Ok p → first_broken_rule p ≡ None → program_of text ≡ Ok p
program_of_text text p is none = rw (is, none) refl

-- a text whose program the host accepts is well-formed
pub text_of_program : (text : List ℕ) (p : GiottoProgram) → program_of text ≡ Ok p → IsWellFormed text
text_of_program text p e = by (parsed text) refl
  where
    by_rule : (q : GiottoProgram) → parsed text ≡ Ok q → (rule : Option ℕ) → first_broken_rule q ≡ rule → IsWellFormed text
    by_rule q is None none = (q, is, none)
    by_rule q is (Some n) some = let bad : Err (Rule n) ≡ Ok p = rw (is, some) at e in absurd (cc)

    by : (r : Result GiottoProgram ReadFault) → parsed text ≡ r → IsWellFormed text
    by (Ok q) is = by_rule q is (first_broken_rule q) refl
    by (Err fault) is = let bad : Err (refusal_of_text fault) ≡ Ok p = rw is at e in absurd (cc)
