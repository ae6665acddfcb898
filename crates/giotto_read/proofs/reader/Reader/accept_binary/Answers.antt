use Rattle.std.proofs.Common.{refl, sym}
use Rattle.giotto_text.specs.declared.tokens.Token.TheVariants as token
use Rattle.giotto_text.specs.Parsing.{binary_in}
use Rattle.giotto_read.proofs.DoingSteps.{one_got, one_stopped, not_binary}
use Rattle.giotto_read.proofs.NextToken.{room}
use Rattle.giotto_read.proofs.reader.Reader.accept_binary.Goals as goal

pub returns-in_err-symbol : goal.returns-in_err-symbol
returns-in_err-symbol c = rw c.from_residual.ensures (refl, not_binary c.args.self.now c.in_err-symbol.ensures.none)

pub returns-in_err-operator : goal.returns-in_err-operator
returns-in_err-operator c = rw c.from_residual-in_err-operator.ensures (refl, one_stopped binary_in c.args.self.now (token.Symbol c.in_ok-symbol.symbol) c.in_ok-symbol.ensures.some (sym c.in_err-operator.ensures))

pub invariant_of-self : goal.invariant_of-self
invariant_of-self c = record { within = room c.args.self.now (token.Symbol c.in_ok-symbol.symbol) c.in_ok-symbol.ensures.some (λ same. cc); shallow = c.args.self.now.shallow }

pub returns : goal.returns
returns c = one_got binary_in c.args.self.now (token.Symbol c.in_ok-symbol.symbol) c.in_ok-operator.operator c.in_ok-symbol.ensures.some (λ same. cc) (sym c.in_ok-operator.ensures)
