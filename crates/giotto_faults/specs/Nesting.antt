-- Where parentheses and braces nest too deep.
use Rattle.std.specs.Prelude.{ℕ, nat_le, if◌then◌else◌, List, [], ◌∷◌, Option, Some, None}
use Rattle.giotto_read.specs.declared.text.tokens.PlacedToken.{PlacedToken}
use Rattle.giotto_read.specs.text.Nesting.{open_behind}

-- the offset of the first token after which more than 32 are open, if this many are open before the tokens
abbrev pub first_too_deep : ℕ → List PlacedToken → Option ℕ
first_too_deep n [] = None
first_too_deep n (t ∷ ts) = if nat_le 33 (open_behind n t.token) then Some t.offset else first_too_deep (open_behind n t.token) ts
