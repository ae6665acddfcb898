-- What a printer writes: tokens, each followed by a space.
use Rattle.std.specs.Prelude.{ℕ, zero, suc, List, [], ◌∷◌, ◌++◌}
use Rattle.giotto_text.specs.declared.tokens.Symbol.TheVariants.{Comma}
use Rattle.giotto_text.specs.declared.tokens.Token.{Token}
use Rattle.giotto_text.specs.Canonical.{symbol, text_of}

-- a text with these tokens appended
unfoldable pub written : List ℕ → List Token → List ℕ
written text [] = text
written text (t ∷ ts) = written (text ++ (text_of t ++ 32 ∷ [])) ts

-- what comes before the element with this index in a list with commas
abbrev pub comma_before : ℕ → List Token
comma_before zero = []
comma_before (suc i) = symbol Comma ∷ []
