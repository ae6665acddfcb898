use Rattle.giotto_text.specs.Bytes.{is_digit, is_name_byte}
use Rattle.giotto_text.proofs.Lexing.{run_passes}
use Rattle.giotto_text.proofs.lexer.push_first.Goals as goal

pub push_word-requires : goal.push_word-requires
push_word-requires c = rw c.name_len.ensures (run_passes is_name_byte c.args.text.now)

pub push_number-requires-clause-digits : goal.push_number-requires-clause-digits
push_number-requires-clause-digits c = rw c.digits_len.ensures (run_passes is_digit c.args.text.now)
