use Rattle.std.proofs.Common.{◌∙◌, sym}
use Rattle.script_checks.proofs.Wording.{known_word, unknown_word}
use Rattle.script_checks.proofs.line_texts.words_of_command.Goals as goal

pub returns-then-is_known : goal.returns-then-is_known
returns-then-is_known c =
    rw (known_word c.args.speaker.now c.args.word.now (sym c.is_empty.ensures ∙ c.if-is_empty.false) (sym c.requires ∙ c.if-is_known.true)) c.format-then-is_known.ensures.ok

pub returns-else-is_known : goal.returns-else-is_known
returns-else-is_known c =
    rw (unknown_word c.args.speaker.now c.args.word.now (sym c.is_empty.ensures ∙ c.if-is_empty.false) (sym c.requires ∙ c.if-is_known.false)) c.format-else-is_known.ensures.ok
