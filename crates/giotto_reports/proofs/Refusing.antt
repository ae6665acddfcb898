-- A text for which the reader reports a fault.
use Rattle.std.proofs.Common.{◌≡◌, ◌∷◌, [], List, ℕ, Ok, Err, refl, sym, inl, ◌∙◌}
use Rattle.giotto_faults.specs.declared.faults.ProgramFault.{ProgramFault}
use Rattle.giotto_faults.specs.declared.faults.ProgramFault.TheVariants.{Syntax, TooDeep, TooMany, Memory}
use Rattle.giotto_faults.specs.declared.findings.Finding.{Finding}
use Rattle.giotto_breaks.specs.faults.Faults.{Tells}
use Rattle.giotto_breaks.specs.faults.Findings.{IsErrorAt, offset_told}
use Rattle.giotto_breaks.specs.text.Parsing.{parsed}
use Rattle.giotto_text.specs.declared.faults.ReadFault.{ReadFault}
use Rattle.giotto_reports.specs.Reports.{IsWellFormed, TellWhy}

unread : (text : List ℕ) (fault : ReadFault) → parsed text ≡ Err fault → IsWellFormed text → ⊥
unread text fault is found = let both : Err fault ≡ Ok found.0 = sym is ∙ found.1 in absurd (cc)

refused : (text : List ℕ) (fault : ProgramFault) → Tells text fault → (fault ≡ Memory → ⊥) → IsWellFormed text → ⊥
refused text (Syntax s) tells some found = unread text _ tells.0 found
refused text (TooDeep offset) tells some found = unread text _ tells.0 found
refused text (TooMany port) tells some found = unread text _ tells found
refused text Memory tells some found = some refl

pub told_why : (text : List ℕ) (fault : ProgramFault) (f : Finding) (findings : List Finding) → Tells text fault → (fault ≡ Memory → ⊥) → IsErrorAt (offset_told text fault) f → findings ≡ f ∷ []
    → (IsWellFormed text → ⊥) × TellWhy text findings
told_why text fault f findings tells some error is = (refused text fault tells some, inl (fault, some, tells, (f, is, error)))
