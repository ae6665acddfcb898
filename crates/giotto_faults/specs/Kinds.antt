-- A token of each kind.
use Rattle.std.specs.Prelude.{ℕ, List, codes}
use Rattle.giotto_faults.specs.declared.kinds.TokenKind.{TokenKind}
use Rattle.giotto_faults.specs.declared.kinds.TokenKind.TheVariants.{Name, Number, Keyword, Symbol}
use Rattle.giotto_read.specs.text.Tokens.{text_of_keyword, text_of_symbol}

-- a token of this kind, as it is written
abbrev pub sample_of : TokenKind → List ℕ
sample_of Name = codes "x"
sample_of Number = codes "0"
sample_of (Keyword k) = text_of_keyword k
sample_of (Symbol s) = text_of_symbol s
