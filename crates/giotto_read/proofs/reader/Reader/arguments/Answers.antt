use Rattle.std.proofs.Common.{map, Ok, Err}
use Rattle.giotto_tasks.specs.Trees.{expression_of}
use Rattle.giotto_text.specs.declared.tokens.Symbol.TheVariants.{CloseParenthesis}
use Rattle.giotto_text.specs.declared.tokens.Token.TheVariants as token
use Rattle.giotto_text.specs.Parsing.{read_list, read_parentheses, read_token, read_expression}
use Rattle.giotto_read.proofs.DoingLists.{failed_as, does_same, parentheses_stopped, parentheses_unclosed, parentheses_read}
use Rattle.giotto_read.proofs.reader.Reader.arguments.Goals as goal

pub returns-in_err-arguments : goal.returns-in_err-arguments
returns-in_err-arguments c =
    let other = c.if-accept.ensures in
    failed_as (map expression_of) (map expression_of) (read_parentheses read_expression) (read_list read_expression) c.args.self.now c.symbol.new.self c.expressions.new.self c.in_err-arguments.field-0.0 c.from_residual-in_err-arguments.result c.from_residual-in_err-arguments.ensures
    (parentheses_stopped read_expression c.args.self.now c.symbol.new.self c.expressions.new.self c.in_ok-symbol.ensures other.1) (does_same (map expression_of) (read_list read_expression) c.symbol.new.self c.accept.new.self c.expressions.new.self (Err c.in_err-arguments.field-0.0) other.0 c.in_err-arguments.ensures)

pub returns-in_err-symbol-2 : goal.returns-in_err-symbol-2
returns-in_err-symbol-2 c =
    let other = c.if-accept.ensures in
    failed_as {U = Unit {0}} (map expression_of) (λ _. tt) (read_parentheses read_expression) (read_token (token.Symbol CloseParenthesis)) c.args.self.now c.expressions.new.self c.symbol-2.new.self c.in_err-symbol-2.field-0.0 c.from_residual-in_err-symbol-2.result c.from_residual-in_err-symbol-2.ensures
    (parentheses_unclosed read_expression c.args.self.now c.symbol.new.self c.expressions.new.self c.symbol-2.new.self (map expression_of c.in_ok-arguments.arguments) c.in_ok-symbol.ensures other.1 (does_same (map expression_of) (read_list read_expression) c.symbol.new.self c.accept.new.self c.expressions.new.self (Ok c.in_ok-arguments.arguments) other.0 c.in_ok-arguments.ensures)) c.in_err-symbol-2.ensures

pub returns : goal.returns
returns c =
    let other = c.if-accept.ensures in
    parentheses_read read_expression c.args.self.now c.symbol.new.self c.expressions.new.self c.symbol-2.new.self (map expression_of c.in_ok-arguments.arguments) c.in_ok-symbol.ensures other.1
    (does_same (map expression_of) (read_list read_expression) c.symbol.new.self c.accept.new.self c.expressions.new.self (Ok c.in_ok-arguments.arguments) other.0 c.in_ok-arguments.ensures) c.in_ok-symbol-2.ensures
