use Rattle.std.proofs.Common.{ℕ, List}
use Rattle.std.specs.Io.KnownBytes.{Appends}
use Rattle.rig_operator.specs.Asked.{Adds}
use Rattle.rig_operator.proofs.Progress.{HasOperated, HasRead}
use Rattle.text_lines.specs.cited.Reading.{IsLeft, has_ended}
use Rattle.rig_operator.proofs.operating.operate.Given as goal

abbrev pub invariant-loop : goal.invariant-loop
invariant-loop g l =
    let asked = g.G.Rig.asked in
    let contents = g.W.Write.contents in
    let left = g.I.Read.remaining in
    (goal.iterator-loop g).can_next l.iterator' ×
    (goal.iterator-loop g).is_finite l.iterator' ×
    HasOperated (Adds (asked l.initial.rig) (asked l.rig)) (Appends (contents l.initial.writer) (contents l.writer)) l.number (λ texts. (bytes : List ℕ) → IsLeft l.initial.lines (left l.initial.reader) bytes
    → (rest : List ℕ) × IsLeft l.lines (left l.reader) rest × HasRead bytes texts rest (has_ended l.lines))
