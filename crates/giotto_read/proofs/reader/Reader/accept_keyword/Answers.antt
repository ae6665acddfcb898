use Rattle.std.proofs.Common.{refl}
use Rattle.giotto_text.specs.declared.tokens.Token.TheVariants as token
use Rattle.giotto_text.specs.Parsing.{this}
use Rattle.giotto_read.proofs.DoingSteps.{one_got, not_this, this_self}
use Rattle.giotto_read.proofs.NextToken.{room}
use Rattle.giotto_read.proofs.reader.Reader.accept_keyword.Goals as goal

pub returns-then-not-next_is_keyword : goal.returns-then-not-next_is_keyword
returns-then-not-next_is_keyword c = (refl, not_this c.args.self.now (token.Keyword c.args.keyword) c.if-not-next_is_keyword.ensures.no)

pub invariant_of-self : goal.invariant_of-self
invariant_of-self c = record { within = room c.args.self.now (token.Keyword c.args.keyword) c.if-not-next_is_keyword.ensures.yes (λ same. cc); shallow = c.args.self.now.shallow }

pub returns : goal.returns
returns c = one_got (this (token.Keyword c.args.keyword)) c.args.self.now (token.Keyword c.args.keyword) tt c.if-not-next_is_keyword.ensures.yes (λ same. cc) (this_self (token.Keyword c.args.keyword))
