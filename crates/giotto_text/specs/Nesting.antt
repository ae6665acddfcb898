-- How deep parentheses and braces nest. This is counted over the tokens of a text, whatever else they spell.
use Rattle.std.specs.Prelude.{ℕ, suc, ◌-◌, nat_le, Bool, false, ◌||◌, List, [], ◌∷◌}
use Rattle.giotto_text.specs.declared.tokens.Symbol.TheVariants.{OpenParenthesis, CloseParenthesis, OpenBrace, CloseBrace}
use Rattle.giotto_text.specs.declared.tokens.Token.{Token}
use Rattle.giotto_text.specs.declared.tokens.Token.TheVariants as tokens

-- how many are open after a token, if n are open before it; a closing token without an opening one doesn't count
abbrev pub open_behind : ℕ → Token → ℕ
open_behind n (tokens.Symbol OpenParenthesis) = suc n
open_behind n (tokens.Symbol OpenBrace) = suc n
open_behind n (tokens.Symbol CloseParenthesis) = n - 1
open_behind n (tokens.Symbol CloseBrace) = n - 1
open_behind n t = n

-- more than 32 are open at once, if n are open before
abbrev pub nests_too_deep_from : ℕ → List Token → Bool
nests_too_deep_from n [] = false
nests_too_deep_from n (t ∷ ts) = nat_le 33 (open_behind n t) || nests_too_deep_from (open_behind n t) ts

abbrev pub nests_too_deep : List Token → Bool
nests_too_deep ts = nests_too_deep_from 0 ts
