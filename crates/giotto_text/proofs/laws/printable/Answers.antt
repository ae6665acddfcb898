use Rattle.giotto_text.proofs.Printable.{parsed_is_printable}
use Rattle.giotto_text.proofs.laws.printable.Goals as goal

pub returns : goal.returns
returns c = parsed_is_printable
