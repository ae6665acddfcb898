use Rattle.std.proofs.Common.{◌++◌, ◌∙◌, List, ℕ, ap, refl, string_bytes}
use Rattle.giotto_faults.specs.declared.findings.Severity.TheVariants.{Note}
use Rattle.script_checks.proofs.Showing.{one_note}
use Rattle.script_checks.proofs.binds.add_note.Goals as goal

pub returns : goal.returns
returns c =
    one_note c.args.file.now (c.args.place, (Note, string_bytes c.args.note.0)) c.note_with-finding.result (string_bytes c.args.text.now) (string_bytes c.in_ok-shown.shown) (string_bytes c.push_str.new.self)
    (rw (c.note_with-finding.ensures.severity, c.note_with-finding.ensures.message) refl) c.in_ok-shown.ensures
    (c.in_ok-push_str.ensures.bytes ∙ ap (λ (t : List ℕ). string_bytes c.args.text.now ++ t) c.as_str.ensures.value)
