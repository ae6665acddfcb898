use Rattle.giotto_faults.proofs.Beginnings.{begins_where_read}
use Rattle.giotto_faults.proofs.laws.beginnings.Goals as goal

pub returns : goal.returns
returns c = λ text. begins_where_read c.prefixes.ensures.of_spelled c.prefixes.ensures.of_prefix text (c.parser.ensures.reads text)
