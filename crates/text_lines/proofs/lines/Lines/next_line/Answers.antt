use Rattle.std.proofs.Common.{◌≡◌, length, ℕ, List, Err, rules, arith, ap, sym, subst, ◌∙◌}
use Rattle.text_lines.specs.cited.Reading.{IsLeft, IsNextLine, has_ended, reads_of}
use Rattle.std.proofs.lemmas.Result.{err_from_is_err_and}
use Rattle.text_lines.proofs.cited.CountedReads.{both_counted}
use Rattle.text_lines.proofs.NextLine.{IsLeftIn, AreAheadIn, reading_resumes, line_next, unread_next, none_whole, unfilled, kept_same, line_further, fewer_left}
use Rattle.text_lines.proofs.lines.Lines.next_line.Goals as goal

pub returns-in-Ok-Some-clause-line : goal.returns-in-Ok-Some-clause-line
returns-in-Ok-Some-clause-line g c = λ bytes left.
    let s = c.loop-self.self in
    line_next bytes s.codec s.buffer.items (g.R.Read.remaining c.loop-self.reader) s.at_end c.in-Ok-Some.text c.decode.new.self c.decode.new.src.items
    (c.loop-self.invariant.reading left.0) (c.loop-self.invariant.ahead bytes left) (rw c.in-Ok-Some.field-0-is at c.in-Ok-Some.ensures.next)

pub returns-in-Err-clause-line : goal.returns-in-Err-clause-line
returns-in-Err-clause-line g c = λ bytes left.
    let s = c.loop-self.self in
    let rest = g.R.Read.remaining c.loop-self.reader in
    unread_next bytes s.codec s.buffer.items rest s.at_end c.in-Err.error c.decode.new.self c.decode.new.src.items c.unread.result (IsLeftIn c.decode.new.self c.decode.new.src.items rest s.at_end)
    (c.loop-self.invariant.reading left.0) (c.loop-self.invariant.ahead bytes left) c.in-Err.ensures.next (c.unread.ensures.memory, c.unread.ensures.other)

pub returns-in_err-fill-clause-count : goal.returns-in_err-fill-clause-count
returns-in_err-fill-clause-count g c =
    let left = g.R.Read.remaining in
    both_counted (reads_of c.args.self.now) (reads_of c.loop-self.self) (reads_of c.fill.new.self) (left c.args.reader.now) (left c.loop-self.reader) (left c.fill.new.reader) c.loop-self.invariant.counted c.fill.ensures.count

pub returns-in-Ok-Some-clause-further : goal.returns-in-Ok-Some-clause-further
returns-in-Ok-Some-clause-further g c = λ begins.
    let s = c.loop-self.self in
    let on = line_further s.codec s.buffer.items c.in-Ok-Some.text c.decode.new.self c.decode.new.src.items (c.loop-self.invariant.reading begins.0) (rw c.in-Ok-Some.field-0-is at c.in-Ok-Some.ensures.next) in
    let less = fewer_left s.reads (length s.buffer.items) (length c.decode.new.src.items) on.1 in
    let before = c.loop-self.invariant.fewer begins.0 in
    ((on.0, c.loop-self.invariant.bound begins.1), omega (arith, less, before))

pub returns-in_default-clause-line : goal.returns-in_default-clause-line
returns-in_default-clause-line g c = λ bytes left.
    let s = c.loop-self.self in
    let rest = g.R.Read.remaining c.loop-self.reader in
    let none = rw c.in-Ok-None.field-0-is at c.in-Ok-None.ensures.next in
    let on = reading_resumes s.codec s.buffer.items c.decode.new.self c.decode.new.src.items (c.loop-self.invariant.reading left.0) none.1 (rw c.in-Ok-None.field-0-is at c.in-Ok-None.ensures.settled) in
    none_whole bytes c.decode.new.self c.decode.new.src.items rest s.at_end rest on.0 none.0
    (subst (λ zs. AreAheadIn zs rest s.at_end bytes) (sym on.1) (c.loop-self.invariant.ahead bytes left)) (kept_same rest)

pub returns-in_err-fill-clause-line : goal.returns-in_err-fill-clause-line
returns-in_err-fill-clause-line g c = λ bytes left.
    let s = c.loop-self.self in
    let rest = g.R.Read.remaining c.loop-self.reader in
    let new = g.R.Read.remaining c.fill.new.reader in
    let none = rw c.in-Ok-None.field-0-is at c.in-Ok-None.ensures.next in
    let on = reading_resumes s.codec s.buffer.items c.decode.new.self c.decode.new.src.items (c.loop-self.invariant.reading left.0) none.1 (rw c.in-Ok-None.field-0-is at c.in-Ok-None.ensures.settled) in
    let failed = err_from_is_err_and c.from_residual.result c.from_residual.ensures.1 in
    let fault = c.in_err-fill.field-0.0 in
    subst (λ r. IsNextLine bytes r new (has_ended c.fill.new.self) (IsLeft c.fill.new.self new)) (sym (failed.1 ∙ ap (λ f. Err f) failed.2))
    (unfilled bytes c.decode.new.self c.decode.new.src.items rest s.at_end (has_ended c.fill.new.self) new fault (IsLeft c.fill.new.self new) on.0 none.0
    (subst (λ zs. AreAheadIn zs rest s.at_end bytes) (sym on.1) (c.loop-self.invariant.ahead bytes left)) c.in_err-fill.ensures.faults c.in_err-fill.ensures.kept (λ is. c.in_err-fill.ensures.memory (ap (λ f. Err f) is)))

pub loop-self-preserved : goal.loop-self-preserved
loop-self-preserved g c =
    let s = c.loop-self.self in
    let left = g.R.Read.remaining in
    let given = c.in_ok-fill.ensures in
    let now = c.loop-self.invariant in
    let none = rw c.in-Ok-None.field-0-is at c.in-Ok-None.ensures.next in
    let resumed = reading_resumes s.codec s.buffer.items c.decode.new.self c.decode.new.src.items in
    let settled = rw c.in-Ok-None.field-0-is at c.in-Ok-None.ensures.settled in
    record {
      reading = λ begins. given.reading (resumed (now.reading begins) none.1 settled).0;
      ahead = λ bytes from.
          let on = resumed (now.reading from.0) none.1 settled in
          given.filled bytes (subst (λ zs. AreAheadIn zs (left c.loop-self.reader) s.at_end bytes) (sym on.1) (now.ahead bytes from));
      counted = both_counted (reads_of c.args.self.now) (reads_of s) (reads_of c.fill.new.self) (left c.args.reader.now) (left c.loop-self.reader) (left c.fill.new.reader) now.counted c.fill.ensures.count;
      bound = λ few. c.fill.ensures.bound (now.bound few);
      fewer = λ begins.
          let on = resumed (now.reading begins) none.1 settled in
          let kept : length c.decode.new.src.items ≡ length s.buffer.items = ap (λ (l : List ℕ). length l) on.1 in
          let before = now.fewer begins in
          let less = given.fewer in
          omega (arith, before, less, kept);
      stays_ended = λ ended. let on = now.stays_ended ended in let off = c.if-self.false in absurd (cc);
      written = search rules;
    }
