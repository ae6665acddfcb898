use Rattle.std.proofs.Common.{Ok, Err}
use Rattle.giotto_text.specs.declared.tokens.Symbol.TheVariants.{CloseParenthesis}
use Rattle.giotto_text.specs.declared.tokens.Token.TheVariants as token
use Rattle.giotto_text.specs.Parsing.{read_list, read_parentheses, read_token, read_name}
use Rattle.giotto_read.proofs.DoingLists.{failed_as, does_same, parentheses_stopped, parentheses_unclosed}
use Rattle.giotto_read.proofs.reader.Reader.inputs.Goals as goal

pub returns-in_err-inputs : goal.returns-in_err-inputs
returns-in_err-inputs c =
    let other = c.if-accept.ensures in
    failed_as (λ xs. xs) (λ xs. xs) (read_parentheses read_name) (read_list read_name) c.args.self.now c.symbol.new.self c.names.new.self c.in_err-inputs.field-0.0 c.from_residual-in_err-inputs.result c.from_residual-in_err-inputs.ensures
    (parentheses_stopped read_name c.args.self.now c.symbol.new.self c.names.new.self c.in_ok-symbol.ensures other.1) (does_same (λ xs. xs) (read_list read_name) c.symbol.new.self c.accept.new.self c.names.new.self (Err c.in_err-inputs.field-0.0) other.0 c.in_err-inputs.ensures)

pub returns-in_err-symbol-2 : goal.returns-in_err-symbol-2
returns-in_err-symbol-2 c =
    let other = c.if-accept.ensures in
    failed_as {U = Unit {0}} (λ xs. xs) (λ _. tt) (read_parentheses read_name) (read_token (token.Symbol CloseParenthesis)) c.args.self.now c.names.new.self c.symbol-2.new.self c.in_err-symbol-2.field-0.0 c.from_residual-in_err-symbol-2.result c.from_residual-in_err-symbol-2.ensures
    (parentheses_unclosed read_name c.args.self.now c.symbol.new.self c.names.new.self c.symbol-2.new.self c.in_ok-inputs.inputs c.in_ok-symbol.ensures other.1 (does_same (λ xs. xs) (read_list read_name) c.symbol.new.self c.accept.new.self c.names.new.self (Ok c.in_ok-inputs.inputs) other.0 c.in_ok-inputs.ensures)) c.in_err-symbol-2.ensures
