use Rattle.giotto_text.proofs.Parsed.{one_program}
use Rattle.giotto_text.proofs.laws.one_program.Goals as goal

pub returns : goal.returns
returns c = one_program
