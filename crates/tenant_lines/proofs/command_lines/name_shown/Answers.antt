use Rattle.tenant_lines.proofs.SingleBlanks.{port_named}
use Rattle.tenant_lines.proofs.command_lines.name_shown.Goals as goal

pub returns : goal.returns
returns c =
    port_named c.args.line.now c.skip_blanks.result.now c.in_ok-words.words.now c.in_ok-words.name.now c.name_of_word.result
    c.skip_blanks.ensures c.in_ok-words.ensures.front c.in_ok-words.ensures.back c.if-not-is_word.ensures c.name_of_word.ensures
