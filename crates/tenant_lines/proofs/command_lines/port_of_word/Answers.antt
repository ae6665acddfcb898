use Rattle.std.proofs.Common.{Some, sym, ◌∙◌, arith}
use Rattle.std.proofs.lemmas.Str.Pattern.{split_once_first}
use Rattle.tenant_lines.proofs.PortWords.{port_of_parts}
use Rattle.tenant_lines.proofs.command_lines.port_of_word.Goals as goal

pub returns-in-Some : goal.returns-in-Some
returns-in-Some c =
    let word = c.args.word.now in
    let parts = split_once_first 46 word (Some (c.in-Some.task, c.in-Some.name)) c.in-Some.ensures.cases (omega arith) in
    c.own_port_of.ensures ∙ rw (parts.1, parts.2) (sym (port_of_parts word parts.0))
