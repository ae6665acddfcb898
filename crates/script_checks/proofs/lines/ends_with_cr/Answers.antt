use Rattle.std.proofs.Common.{arith}
use Rattle.std.proofs.lemmas.Bool.Decides.{nat_tests}
use Rattle.script_checks.proofs.Texts.{left_as_it_is}
use Rattle.script_checks.proofs.lines.ends_with_cr.Goals as goal

pub returns-then-len-gt0-clause-none : goal.returns-then-len-gt0-clause-none
returns-then-len-gt0-clause-none c = λ other. left_as_it_is c.args.text.now (λ is. grind (arith, nat_tests, other, is))
