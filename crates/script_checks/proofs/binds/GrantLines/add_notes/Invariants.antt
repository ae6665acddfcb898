use Rattle.std.proofs.Common.{take, string_bytes}
use Rattle.std.specs.List.{flat_map}
use Rattle.script_checks.specs.Grants.{note_on}
use Rattle.script_checks.specs.Reports.{AddsNotes}
use Rattle.script_checks.specs.declared.binds.Noted.{Noted}
use Rattle.script_checks.specs.inner.Facts.{has_fact}
use Rattle.script_checks.proofs.binds.GrantLines.add_notes.Given as goal

abbrev pub invariant-loop-noted : goal.invariant-loop-noted
invariant-loop-noted l =
    AddsNotes l.file (flat_map (λ (n : Noted). note_on l.config (has_fact l.fn.self.facts) n.said) (take l.noted-index l.fn.self.noted.items)) (string_bytes l.initial.text) (string_bytes l.text)
