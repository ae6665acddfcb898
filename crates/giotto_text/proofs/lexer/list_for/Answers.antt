use Rattle.std.proofs.lemmas.List.Sums.{prefix_len-le-length}
use Rattle.giotto_text.specs.Bytes.{is_blank_of_text}
use Rattle.giotto_text.proofs.lexer.list_for.Goals as goal

pub overflow_sub-bytes : goal.overflow_sub-bytes
overflow_sub-bytes c = rw c.blanks_len.ensures (prefix_len-le-length is_blank_of_text c.args.text.now)
