use Rattle.std.proofs.Common.{◌≡◌, ◌<◌, ◌∙◌, Some, ap, length, option_map, string_bytes, sym}
use Rattle.script_checks.specs.Grants.{note_of, note_on}
use Rattle.script_checks.specs.declared.binds.Noted.{Noted}
use Rattle.script_checks.specs.inner.Facts.{has_fact}
use Rattle.script_checks.proofs.Showing.{command_further}
use Rattle.script_checks.proofs.binds.GrantLines.add_notes.Goals as goal

pub loop-noted-preserved : goal.loop-noted-preserved
loop-noted-preserved c =
    let l = c.loop-noted in
    let config = c.args.config.now in
    let facts = c.args.self.now.facts in
    let noted = c.args.self.now.noted.items in
    let one = c.noted-item.result in
    let there : l.noted-index < length noted = rw c.deref-noted-items.ensures.value at c.loop-noted-test.true in
    let some : note_of config (has_fact facts) one.said ≡ Some (string_bytes c.in-Some.message) = sym c.in_ok-message.ensures ∙ ap (option_map string_bytes) c.in-Some.is in
    command_further c.args.file.now (λ (n : Noted). note_on config (has_fact facts) n.said) noted l.noted-index one (string_bytes c.args.text.now) (string_bytes l.text) (string_bytes c.add_note.new.text) l.invariant there
    (rw c.deref-noted-items.ensures.value at c.noted-item.is) (rw some c.in_ok-add_note.ensures)
