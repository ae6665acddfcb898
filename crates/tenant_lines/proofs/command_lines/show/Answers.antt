use Rattle.std.proofs.Common.{codes, sym, ap, ◌∙◌, arith}
use Rattle.giotto_tasks.proofs.cited.NameLemmas.{same_name_is}
use Rattle.tenant_lines.specs.CommandLine.{shown_by}
use Rattle.tenant_lines.proofs.CommandLines.{differ, words_begin, others_shown}
use Rattle.tenant_lines.proofs.command_lines.show.Goals as goal

pub returns-then-is_word : goal.returns-then-is_word
returns-then-is_word c =
    let first = sym c.cut.ensures.word ∙ same_name_is c.cut.result.0.now (codes "port") (sym c.if-is_word.ensures) in
    c.show_port.ensures ∙ rw c.cut.ensures.rest (sym (ap shown_by (words_begin c.args.rest.now (codes "port") first (omega arith))))

pub returns-then-is_word-2 : goal.returns-then-is_word-2
returns-then-is_word-2 c =
    let first = sym c.cut.ensures.word ∙ same_name_is c.cut.result.0.now (codes "mode") (sym c.if-is_word-2.ensures) in
    c.alone.ensures ∙ rw c.cut.ensures.rest (sym (ap shown_by (words_begin c.args.rest.now (codes "mode") first (omega arith))))

pub returns-then-is_word-3 : goal.returns-then-is_word-3
returns-then-is_word-3 c =
    let first = sym c.cut.ensures.word ∙ same_name_is c.cut.result.0.now (codes "all") (sym c.if-is_word-3.ensures) in
    c.alone-then-is_word-3.ensures ∙ rw c.cut.ensures.rest (sym (ap shown_by (words_begin c.args.rest.now (codes "all") first (omega arith))))

pub returns : goal.returns
returns c =
    let word = c.cut.result.0.now in
    sym (others_shown c.args.rest.now (λ is. differ word (codes "mode") c.if-is_word-2.ensures (c.cut.ensures.word ∙ is)) (λ is. differ word (codes "all") c.if-is_word-3.ensures (c.cut.ensures.word ∙ is)) (λ is. differ word (codes "port") c.if-is_word.ensures (c.cut.ensures.word ∙ is)))
