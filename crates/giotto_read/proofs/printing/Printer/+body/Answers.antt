use Rattle.std.proofs.Common.{◌≡◌, [], ◌∷◌, ◌∙◌, length, sym, rules}
use Rattle.std.specs.Prelude.{vec_len}
use Rattle.std.proofs.lemmas.List.{take_all}
use Rattle.giotto_tasks.specs.Trees.{block_of, expression_of, statement_of}
use Rattle.giotto_tasks.proofs.cited.TreeLemmas.{branch_of}
use Rattle.giotto_text.specs.Canonical.{block_tokens, else_tokens, expression_tokens, in_braces, keyword, statement_tokens}
use Rattle.giotto_text.specs.declared.tokens.Keyword.TheVariants.{Else, Repeat}
use Rattle.giotto_text.specs.declared.tokens.Token.TheVariants as tokens
use Rattle.giotto_read.proofs.PrintingLemmas.{behind, braces_written, branch_written, else_some, none_left, repeat_of, some_left, statements_written, written_more}
use Rattle.giotto_read.proofs.Writing.{written_none}
use Rattle.giotto_read.proofs.printing.Printer.+body.Goals as goal

pub in_braces-loop-statement-preserved : goal.in_braces-loop-statement-preserved
in_braces-loop-statement-preserved t c =
    written_more statement_tokens statement_of c.symbol.new.self c.args.block.now c.loop-statement.statement-index c.statement-item.result c.loop-statement.self c.statement.new.self c.loop-statement-test.true c.statement-item.is c.loop-statement.invariant c.in_ok-statement.ensures

pub in_braces-returns : goal.in_braces-returns
in_braces-returns t c =
    let ss = c.args.block.now in
    let all = take_all c.loop-statement.statement-index ss c.loop-statement-test.false in
    let inner = rw (all, sym (statements_written ss)) at c.loop-statement.invariant in
    rw (braces_written c.args.self.now c.symbol.new.self c.loop-statement.self (block_tokens (block_of ss)) c.in_ok-symbol.ensures inner) c.symbol-2.ensures

pub statement-returns-then-is_empty : goal.statement-returns-then-is_empty
statement-returns-then-is_empty t c =
    let size : length c.in-If.otherwise.items ≡ vec_len c.in-If.otherwise = search rules in
    let none = none_left c.in-If.otherwise.items c.is_empty.result (rw size c.is_empty.ensures) c.if-is_empty.true in
    let block = rw c.deref.ensures.value at c.in_ok-in_braces-in-If.ensures in
    rw (c.in-If.is, branch_of c.in-If.condition c.in-If.then c.in-If.otherwise, none)
    (sym (branch_written c.args.self.now c.keyword.new.self c.expression.new.self c.in_braces.new.self (expression_tokens (expression_of c.in-If.condition)) (in_braces (block_tokens (block_of c.in-If.then.items))) [] c.in_ok-keyword-in-If.ensures c.in_ok-expression-in-If.ensures block ∙ written_none c.in_braces.new.self))

pub statement-returns-in_ok-keyword-in-If-2 : goal.statement-returns-in_ok-keyword-in-If-2
statement-returns-in_ok-keyword-in-If-2 t c =
    let otherwise = c.in-If.otherwise.items in
    let size : length otherwise ≡ vec_len c.in-If.otherwise = search rules in
    let some = some_left otherwise c.is_empty.result (rw size c.is_empty.ensures) c.if-is_empty.false in
    let block = rw c.deref.ensures.value at c.in_ok-in_braces-in-If.ensures in
    let last = else_tokens (block_of otherwise) (block_tokens (block_of otherwise)) in
    let whole = branch_written c.args.self.now c.keyword.new.self c.expression.new.self c.in_braces.new.self (expression_tokens (expression_of c.in-If.condition)) (in_braces (block_tokens (block_of c.in-If.then.items))) last c.in_ok-keyword-in-If.ensures c.in_ok-expression-in-If.ensures block in
    rw (c.in-If.is, branch_of c.in-If.condition c.in-If.then c.in-If.otherwise, whole, else_some otherwise (block_tokens (block_of otherwise)) some, behind c.in_braces.new.self c.keyword-in-If.new.self (keyword Else) (in_braces (block_tokens (block_of otherwise))) c.in_ok-keyword-in-If-2.ensures, sym c.deref-in-If.ensures.value) c.in_braces-in-If.ensures

pub statement-returns-in_ok-number-in-Repeat : goal.statement-returns-in_ok-number-in-Repeat
statement-returns-in_ok-number-in-Repeat t c =
    let block = in_braces (block_tokens (block_of c.in-Repeat.block.items)) in
    rw (c.in-Repeat.is, repeat_of c.in-Repeat.times c.in-Repeat.block, behind c.args.self.now c.keyword-in-Repeat.new.self (keyword Repeat) (tokens.Number c.in-Repeat.times ∷ block) c.in_ok-keyword-in-Repeat.ensures, behind c.keyword-in-Repeat.new.self c.number.new.self (tokens.Number c.in-Repeat.times) block c.in_ok-number-in-Repeat.ensures, sym c.deref-in-Repeat.ensures.value) c.in_braces-in-Repeat.ensures
