use Rattle.std.proofs.Common.{◌≡◌, ◌≢◌, ◌≤◌, ◌^◌, ◌+◌, ◌-◌, arith}
use Rattle.giotto_text.specs.declared.tokens.Token.TheVariants as token
use Rattle.giotto_text.specs.Parsing.{end_mark, number_in}
use Rattle.giotto_read.proofs.DoingSteps.{one_got, not_number, number_fits}
use Rattle.giotto_read.proofs.NextToken.{room_behind, same_number}
use Rattle.giotto_read.proofs.reader.Reader.int.Goals as goal

pub returns-in_default-clause-read : goal.returns-in_default-clause-read
returns-in_default-clause-read c = not_number (2 ^ 63 - 1) c.args.self.now (λ n le. c.in_default.ensures.none n (omega (arith, le)))

pub returns-then-number-clause-read : goal.returns-then-number-clause-read
returns-then-number-clause-read c = not_number (2 ^ 63 - 1) c.args.self.now (λ n le e. omega (arith, le, c.if-number.true, same_number c.args.self.now n c.in-Some.number e c.in-Some.ensures.some))

pub invariant_of-self : goal.invariant_of-self
invariant_of-self c =
    let small : c.in-Some.number ≤ 2 ^ 63 = omega arith in
    record { within = room_behind c.args.self.now c.in-Some.number small c.in-Some.ensures.some; shallow = c.args.self.now.shallow }

pub returns-clause-read : goal.returns-clause-read
returns-clause-read c =
    let small : c.in-Some.number ≤ 2 ^ 63 - 1 = omega arith in
    let other : token.Number c.in-Some.number ≢ end_mark = λ same. let big : c.in-Some.number ≡ 2 ^ 63 + 1 = cc in omega (arith, small, big) in
    one_got (number_in (2 ^ 63 - 1)) c.args.self.now (token.Number c.in-Some.number) c.in-Some.number c.in-Some.ensures.some other (number_fits (2 ^ 63 - 1) c.in-Some.number small)
