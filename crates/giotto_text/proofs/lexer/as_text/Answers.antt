use Rattle.std.proofs.lemmas.Str.{IsUtf8-from_ascii}
use Rattle.std.proofs.lemmas.Str.Ascii.{IsAscii-from_all}
use Rattle.giotto_text.proofs.Lexing.{name_byte_is_ascii}
use Rattle.giotto_text.proofs.lexer.as_text.Goals as goal

pub from_utf8_unchecked-requires : goal.from_utf8_unchecked-requires
from_utf8_unchecked-requires c = IsUtf8-from_ascii c.args.run.now (IsAscii-from_all c.args.run.now (λ k d lt. name_byte_is_ascii _ (c.requires k d lt)))
