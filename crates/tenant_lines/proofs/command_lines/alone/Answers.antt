use Rattle.std.proofs.Common.{sym, ◌∙◌}
use Rattle.tenant_lines.proofs.CommandLines.{alone_by_word}
use Rattle.tenant_lines.proofs.command_lines.alone.Goals as goal

pub returns : goal.returns
returns c = c.then_some.ensures ∙ rw (c.is_empty.ensures, c.first_word.ensures) (sym (alone_by_word c.args.command c.args.rest.now))
