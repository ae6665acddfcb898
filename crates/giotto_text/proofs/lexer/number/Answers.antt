use Rattle.std.proofs.Common.{sym, ◌∙◌}
use Rattle.giotto_text.proofs.Lexing.{digits_parsed}
use Rattle.giotto_text.proofs.lexer.number.Goals as goal

pub returns-in_default-clause-token : goal.returns-in_default-clause-token
returns-in_default-clause-token c =
    let parsed = digits_parsed c.args.run.now c.parse.result c.requires.begun c.requires.digits c.if-run-gt19.false
    (rw c.as_text.ensures at c.parse.ensures.value.0) in
    absurd (cc (sym parsed ∙ c.in_default.is))
