use Rattle.std.proofs.Common.{[], ap, ◌∙◌}
use Rattle.giotto_text.specs.Canonical.{canonical_of, canonical_tokens}
use Rattle.giotto_text.specs.Parsing.{parsed}
use Rattle.giotto_read.proofs.PrintingLemmas.{some_tokens, written_joined}
use Rattle.giotto_read.proofs.printing.print.Goals as goal

pub returns-clause-text : goal.returns-clause-text
returns-clause-text c =
    let p = c.args.program.now in
    c.into_text.ensures (canonical_of p) (rw (c.in_ok-program.ensures, c.new.ensures.bytes, c.parts.ensures.tree) (written_joined [] (canonical_tokens p) (some_tokens p)))

pub returns-clause-reads_back : goal.returns-clause-reads_back
returns-clause-reads_back c =
    let p = c.args.program.now in
    ap parsed (c.into_text.ensures (canonical_of p) (rw (c.in_ok-program.ensures, c.new.ensures.bytes, c.parts.ensures.tree) (written_joined [] (canonical_tokens p) (some_tokens p))))
    ∙ c.canonical.ensures.reads p c.parts.ensures.printable
