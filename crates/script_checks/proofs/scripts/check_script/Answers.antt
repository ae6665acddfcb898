use Rattle.std.proofs.Common.{◌≡◌, ◌+◌, ◌∙◌, ℕ, true≢false, List, [], ◌∷◌, ◌++◌, length, subst, sym}
use Rattle.script_checks.specs.inner.Reading.{AreChecked, IsNextLine}
use Rattle.script_checks.proofs.Stepping.{at_end, at_last, begun, has_bytes, no_bytes, one_line}
use Rattle.script_checks.proofs.scripts.check_script.Goals as goal
use Rattle.script_checks.proofs.scripts.check_script.Goals.{else-not-is_whole-via-then-not-is_whole+else-is_empty, else-not-is_whole-via-else-not-is_whole}

pub loop-count-init : goal.loop-count-init
loop-count-init g c = begun c.args.config.now c.args.file.now (g.R.Read.remaining c.args.reader.now) c.new-checked.result (c.new-checked.ensures c.args.config.now c.args.file.now)

pub returns-then-is_empty : goal.returns-then-is_empty
returns-then-is_empty g c =
    let l = c.loop-count in
    let known = g.R.Read.remaining in
    let line = c.read_line.new.line in
    let next = subst (λ b. IsNextLine (known l.reader) (known c.read_line.new.reader) b line.items) c.if-not-is_whole.true c.in_ok-is_whole.ensures in
    at_end c.args.config.now c.args.file.now (known c.args.reader.now) l.count (known l.reader) (known c.read_line.new.reader) line.items l.checked l.invariant c.in_ok-report.field-0 next
    (no_bytes line.items line.len c.is_empty.result line.ok.0 c.is_empty.ensures c.if-is_empty.true) c.in_ok-report.ensures

pub returns-then-not-is_whole-2 : goal.returns-then-not-is_whole-2
returns-then-not-is_whole-2 g c =
    let config = c.args.config.now in
    let file = c.args.file.now in
    let l = c.loop-count in
    let known = g.R.Read.remaining in
    let line = c.read_line.new.line in
    let next = subst (λ b. IsNextLine (known l.reader) (known c.read_line.new.reader) b line.items) c.if-not-is_whole-2.true c.in_ok-is_whole.ensures in
    let adds = subst (λ (text : List ℕ). (lines : List (List ℕ)) → length lines + 1 ≡ l.count + 1 → AreChecked config file lines l.checked → AreChecked config file (lines ++ text ∷ []) c.add.new.self) c.as_slice.ensures.value c.in_ok-add.ensures in
    let last = at_last config file (known c.args.reader.now) l.count (known l.reader) (known c.read_line.new.reader) line.items l.checked l.invariant c.add.new.self c.in_ok-report-2.field-0 next in
    elim c.else-not-is_whole.branch [
      | else-not-is_whole-via-then-not-is_whole+else-is_empty w ↦ last (has_bytes line.items line.len w.is_empty.result line.ok.0 w.is_empty.ensures w.if-is_empty.false) adds c.in_ok-report-2.ensures
      | else-not-is_whole-via-else-not-is_whole w ↦ absurd (true≢false (sym w.if-not-is_whole.false ∙ c.if-not-is_whole-2.true))
    ]

pub loop-count-preserved : goal.loop-count-preserved
loop-count-preserved g c =
    let config = c.args.config.now in
    let file = c.args.file.now in
    let l = c.loop-count in
    let known = g.R.Read.remaining in
    let line = c.read_line.new.line in
    let next = subst (λ b. IsNextLine (known l.reader) (known c.read_line.new.reader) b line.items) c.if-not-is_whole-2.false c.in_ok-is_whole.ensures in
    let adds = subst (λ (text : List ℕ). (lines : List (List ℕ)) → length lines + 1 ≡ l.count + 1 → AreChecked config file lines l.checked → AreChecked config file (lines ++ text ∷ []) c.add.new.self) c.as_slice.ensures.value c.in_ok-add.ensures in
    one_line config file (known c.args.reader.now) l.count (known l.reader) (known c.read_line.new.reader) line.items l.checked l.invariant c.add.new.self next adds
