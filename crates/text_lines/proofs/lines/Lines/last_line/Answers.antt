use Rattle.std.proofs.Common.{◌≡◌, ◌<◌, true, ℕ, List, length, ap, arith}
use Rattle.std.proofs.lemmas.Bool.Decides.{nat_tests}
use Rattle.std.proofs.lemmas.List.{nil_from_length}
use Rattle.text_lines.specs.cited.Reading.{IsLeft}
use Rattle.text_lines.proofs.NextLine.{IsLeftIn, last_next, end_next, cr_next, unread_last, last_further, cr_further, fewer_left}
use Rattle.text_lines.proofs.lines.Lines.last_line.Goals as goal

pub returns-then-is_empty-clause-line : goal.returns-then-is_empty-clause-line
returns-then-is_empty-clause-line c = λ remaining bytes reading ahead.
    let s = c.args.self.now in
    let empty : length s.buffer.items ≡ 0 = grind (arith, nat_tests, c.is_empty.ensures, c.if-is_empty.true) in
    end_next bytes s.buffer.items remaining (IsLeft s remaining) (rw c.requires at ahead) (nil_from_length s.buffer.items empty)

pub returns-in-Ok-Some-clause-line : goal.returns-in-Ok-Some-clause-line
returns-in-Ok-Some-clause-line c = λ remaining bytes reading ahead.
    let s = c.args.self.now in
    rw c.requires (last_next bytes s.codec s.buffer.items remaining c.in-Ok-Some.text c.decode_eof.new.self c.decode_eof.new.src.items reading (rw c.requires at ahead)
    (rw c.in-Ok-Some.field-0-is at c.in-Ok-Some.ensures))

pub returns-in-Ok-None-clause-line : goal.returns-in-Ok-None-clause-line
returns-in-Ok-None-clause-line c = λ remaining bytes reading ahead.
    let s = c.args.self.now in
    let some : 0 < length s.buffer.items = grind (arith, nat_tests, c.is_empty.ensures, c.if-is_empty.false) in
    rw c.requires (cr_next bytes s.codec s.buffer.items remaining c.decode_eof.new.self c.decode_eof.new.src.items c.clear.new.self.items c.new.result reading (rw c.requires at ahead)
    (rw c.in-Ok-None.field-0-is at c.in-Ok-None.ensures) some c.clear.ensures.items c.new.ensures.bytes)

pub returns-in-Err-clause-line : goal.returns-in-Err-clause-line
returns-in-Err-clause-line c = λ remaining bytes reading ahead.
    let s = c.args.self.now in
    let some : 0 < length s.buffer.items = grind (arith, nat_tests, c.is_empty.ensures, c.if-is_empty.false) in
    rw c.requires (unread_last bytes s.codec s.buffer.items remaining c.in-Err.error c.decode_eof.new.self c.decode_eof.new.src.items c.unread.result
    (IsLeftIn c.decode_eof.new.self c.decode_eof.new.src.items remaining true) reading (rw c.requires at ahead) some c.in-Err.ensures (c.unread.ensures.memory, c.unread.ensures.other))

pub returns-in-Ok-Some-clause-further : goal.returns-in-Ok-Some-clause-further
returns-in-Ok-Some-clause-further c = λ reading few.
    let s = c.args.self.now in
    let some : 0 < length s.buffer.items = grind (arith, nat_tests, c.is_empty.ensures, c.if-is_empty.false) in
    let on = last_further s.codec s.buffer.items c.in-Ok-Some.text c.decode_eof.new.self c.decode_eof.new.src.items reading some (rw c.in-Ok-Some.field-0-is at c.in-Ok-Some.ensures) in
    ((on.0, few), fewer_left s.reads (length s.buffer.items) (length c.decode_eof.new.src.items) on.1)

pub returns-in-Ok-None-clause-further : goal.returns-in-Ok-None-clause-further
returns-in-Ok-None-clause-further c = λ reading few.
    let s = c.args.self.now in
    let some : 0 < length s.buffer.items = grind (arith, nat_tests, c.is_empty.ensures, c.if-is_empty.false) in
    let on = cr_further s.codec s.buffer.items c.decode_eof.new.self c.decode_eof.new.src.items reading (rw c.in-Ok-None.field-0-is at c.in-Ok-None.ensures) in
    let none : length c.clear.new.self.items ≡ 0 = ap (λ (l : List ℕ). length l) c.clear.ensures.items in
    ((on, few), fewer_left s.reads (length s.buffer.items) (length c.clear.new.self.items) (omega (arith, some, none)))
