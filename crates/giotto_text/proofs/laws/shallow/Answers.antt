use Rattle.giotto_text.proofs.Shallow.{printable_shallow, block_read}
use Rattle.giotto_text.proofs.laws.shallow.Goals as goal

pub returns-clause-program : goal.returns-clause-program
returns-clause-program c = printable_shallow

pub returns-clause-block : goal.returns-clause-block
returns-clause-block c = block_read
