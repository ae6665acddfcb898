use Rattle.std.proofs.Common.{◌≢◌, refl}
use Rattle.giotto_text.specs.declared.tokens.Token.TheVariants as token
use Rattle.giotto_text.specs.Parsing.{end_mark, name_in}
use Rattle.giotto_read.proofs.DoingSteps.{one_got, not_name}
use Rattle.giotto_read.proofs.NextToken.{room}
use Rattle.giotto_read.proofs.reader.Reader.name.Goals as goal

pub returns-in_default : goal.returns-in_default
returns-in_default c = not_name c.args.self.now c.in_default.ensures.none

pub invariant_of-self : goal.invariant_of-self
invariant_of-self c = let other : token.Name c.in-Some.name.now ≢ end_mark = λ same. cc in record { within = room c.args.self.now (token.Name c.in-Some.name.now) c.in-Some.ensures.some other; shallow = c.args.self.now.shallow }

pub returns : goal.returns
returns c = rw c.copy-name.ensures (one_got name_in c.args.self.now (token.Name c.in-Some.name.now) c.in-Some.name.now c.in-Some.ensures.some (λ same. cc) refl)
