use Rattle.std.proofs.Common.{map, sym}
use Rattle.giotto_text.specs.Canonical.{keyword, name_tokens, with_commas}
use Rattle.giotto_text.specs.declared.tokens.Keyword.TheVariants as keywords
use Rattle.giotto_read.proofs.PrintingLemmas.{behind, none_left, optional_some, some_left}
use Rattle.giotto_read.proofs.Writing.{written_none}
use Rattle.giotto_read.proofs.printing.Printer.task_outputs.Goals as goal

pub returns-then-is_empty : goal.returns-then-is_empty
returns-then-is_empty c = rw (none_left c.args.outputs.now c.is_empty.result c.is_empty.ensures c.if-is_empty.true) (sym (written_none c.args.self.now))

pub returns : goal.returns
returns c =
    let xs = c.args.outputs.now in
    let some = optional_some keywords.Output name_tokens xs (some_left xs c.is_empty.result c.is_empty.ensures c.if-is_empty.false) in
    rw (some, behind c.args.self.now c.keyword.new.self (keyword keywords.Output) (with_commas (map name_tokens xs)) c.in_ok-keyword.ensures) c.names.ensures
