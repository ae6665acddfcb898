use Rattle.std.proofs.Common.{◌∷◌, codes, sym, ap, ◌∙◌, arith}
use Rattle.giotto_tasks.specs.Names.{same_name}
use Rattle.giotto_tasks.proofs.cited.NameLemmas.{same_name_is}
use Rattle.tenant_lines.specs.Words.{words_of}
use Rattle.rig_model.specs.OperatorLines.{operator_line_of}
use Rattle.rig_model.proofs.OperatorWords.{words_with, blank_line, other_line, lines_line, wait_line, archive_line, halt_line}
use Rattle.rig_model.proofs.operator_lines.operator_line.Goals as goal

pub returns-then-is_word : goal.returns-then-is_word
returns-then-is_word c =
    let is = same_name_is c.cut.result.0.now (codes "tick") (sym c.is_word.ensures ∙ c.if-is_word.true) in
    let words = words_with c.args.line.now (codes "tick") (sym c.cut.ensures.word ∙ is) (omega arith) in
    ap (λ r. operator_line_of (codes "tick" ∷ words_of r)) c.cut.ensures.rest ∙ ap operator_line_of (sym words)

pub returns-then-is_word-2 : goal.returns-then-is_word-2
returns-then-is_word-2 c =
    let is = same_name_is c.cut.result.0.now (codes "work") (sym c.is_word-2.ensures ∙ c.if-is_word-2.true) in
    let words = words_with c.args.line.now (codes "work") (sym c.cut.ensures.word ∙ is) (omega arith) in
    c.work.ensures ∙ ap operator_line_of (ap (λ r. codes "work" ∷ words_of r) c.cut.ensures.rest ∙ sym words)

pub returns-then-is_word-3 : goal.returns-then-is_word-3
returns-then-is_word-3 c =
    let is = same_name_is c.cut.result.0.now (codes "lines") (sym c.is_word-3.ensures ∙ c.if-is_word-3.true) in
    let words = words_with c.args.line.now (codes "lines") (sym c.cut.ensures.word ∙ is) (omega arith) in
    c.alone.ensures ∙ lines_line c.cut.result.1.now ∙ ap operator_line_of (ap (λ r. codes "lines" ∷ words_of r) c.cut.ensures.rest ∙ sym words)

pub returns-in-empty : goal.returns-in-empty
returns-in-empty c = sym (blank_line c.args.line.now (sym c.cut.ensures.word ∙ c.in-empty.is))

pub returns-in-wait : goal.returns-in-wait
returns-in-wait c =
    let words = words_with c.args.line.now (codes "wait") (sym c.cut.ensures.word ∙ c.in-wait.is) (omega arith) in
    c.alone-in-wait.ensures ∙ wait_line c.cut.result.1.now ∙ ap operator_line_of (ap (λ r. codes "wait" ∷ words_of r) c.cut.ensures.rest ∙ sym words)

pub returns-in-archive : goal.returns-in-archive
returns-in-archive c =
    let words = words_with c.args.line.now (codes "archive") (sym c.cut.ensures.word ∙ c.in-archive.is) (omega arith) in
    c.alone-in-archive.ensures ∙ archive_line c.cut.result.1.now ∙ ap operator_line_of (ap (λ r. codes "archive" ∷ words_of r) c.cut.ensures.rest ∙ sym words)

pub returns-in-halt : goal.returns-in-halt
returns-in-halt c =
    let words = words_with c.args.line.now (codes "halt") (sym c.cut.ensures.word ∙ c.in-halt.is) (omega arith) in
    c.alone-in-halt.ensures ∙ halt_line c.cut.result.1.now ∙ ap operator_line_of (ap (λ r. codes "halt" ∷ words_of r) c.cut.ensures.rest ∙ sym words)

pub returns-in_default : goal.returns-in_default
returns-in_default c =
    let first = c.cut.ensures.word in
    let no_tick = ap (λ w. same_name w (codes "tick")) (sym first) ∙ sym c.is_word.ensures ∙ c.if-is_word.false in
    let no_lines = ap (λ w. same_name w (codes "lines")) (sym first) ∙ sym c.is_word-3.ensures ∙ c.if-is_word-3.false in
    let no_work = ap (λ w. same_name w (codes "work")) (sym first) ∙ sym c.is_word-2.ensures ∙ c.if-is_word-2.false in
    sym (other_line c.args.line.now (λ is. c.in_default.not-empty (first ∙ is)) no_tick no_lines no_work
    (λ is. c.in_default.not-wait (first ∙ is)) (λ is. c.in_default.not-archive (first ∙ is)) (λ is. c.in_default.not-halt (first ∙ is)))
