use Rattle.std.proofs.Common.{◌≡◌, Some, None, sym, ◌∙◌}
use Rattle.tenant_lines.specs.CommandLine.{port_of_word}
use Rattle.tenant_lines.specs.Words.{first_word_of}
use Rattle.tenant_lines.proofs.CommandLines.{no_port_shown, port_shown}
use Rattle.tenant_lines.proofs.command_lines.show_port.Goals as goal

pub returns-in_err-port : goal.returns-in_err-port
returns-in_err-port c =
    let none : port_of_word (first_word_of c.args.rest.now) ≡ None = rw (← c.cut.ensures.word) (sym c.port_of_word.ensures ∙ c.in_err-port.was) in
    c.from_residual.ensures ∙ sym (no_port_shown c.args.rest.now none)

pub returns : goal.returns
returns c =
    let is : port_of_word (first_word_of c.args.rest.now) ≡ Some c.in_ok-port.port = rw (← c.cut.ensures.word) (sym c.port_of_word.ensures ∙ c.in_ok-port.was) in
    c.alone.ensures ∙ rw c.cut.ensures.rest (sym (port_shown c.in_ok-port.port c.args.rest.now is))
