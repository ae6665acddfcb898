use Rattle.std.proofs.Common.{◌≡◌, ◌++◌, ◌∙◌, ℕ, List, length, string_bytes, subst, sym}
use Rattle.script_checks.specs.Grants.{Told, notes_of, said_from}
use Rattle.script_checks.specs.Reports.{AddsNotes, told_first}
use Rattle.script_checks.specs.Scripts.{is_good}
use Rattle.script_checks.proofs.Keeping.{notes_of_kept}
use Rattle.script_checks.proofs.scripts.CheckedLines.report.Goals as goal

pub returns : goal.returns
returns c = λ lines count checked.
    let config = c.args.script.now.config.now in
    let file = c.args.script.now.file.now in
    let first : string_bytes c.in_ok-text.text ≡ told_first file (length lines) (is_good config lines) = c.in_ok-text.ensures ∙ (λ k. told_first file (sym count k) (checked.0 k)) in
    let before : string_bytes c.push_str.new.self ≡ told_first file (length lines) (is_good config lines) ++ string_bytes c.args.self.faults = c.in_ok-push_str.ensures.bytes ∙ (λ k. first k ++ c.as_str.ensures.value k) in
    let after = string_bytes c.add_notes.new.text in
    let notes = subst (λ (l : List Told). AddsNotes file l (string_bytes c.push_str.new.self) after) (notes_of_kept config (said_from config 1 lines) c.args.self.grants checked.2) c.in_ok-add_notes.ensures in
    (checked.0, (string_bytes c.args.self.faults, checked.1, subst (λ (l : List ℕ). AddsNotes file (notes_of config lines) l after) before notes))
