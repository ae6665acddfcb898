-- What a function of the reader does: what the parser's definition says about the tokens that are left.
use Rattle.std.specs.Prelude.{◌≡◌, ℕ, ◌++◌, List, [], ◌∷◌, drop, slice_get, Option, Some, None, Result, Ok, Err, Bool, true, false}
use Rattle.std.specs.Option.{option_map_or}
use Rattle.giotto_read.specs.declared.reader.Reader.{Reader}
use Rattle.giotto_read.specs.declared.reader.Stop.{Stop}
use Rattle.giotto_read.specs.declared.reader.Stop.TheVariants.{Unexpected, Memory}
use Rattle.giotto_text.specs.declared.tokens.PlacedToken.{PlacedToken}
use Rattle.giotto_text.specs.declared.tokens.Token.{Token}
use Rattle.giotto_text.specs.Parsing.{end_mark, got, stopped, Parser, read_one, read_token}
use Rattle.giotto_text.specs.Tokens.{bare}

-- the tokens that are left
abbrev pub left : Reader → List PlacedToken
left r = drop r.at r.tokens.now

-- the tokens, and the end mark
abbrev pub with_end : List PlacedToken → List Token
with_end ts = bare ts ++ end_mark ∷ []

-- the next token
abbrev pub ComesNext : Reader → Token → Type 0
ComesNext r t = slice_get (with_end r.tokens.now) r.at ≡ Some t

-- the offset of a token in its text, or the end of the text if there is no such token
abbrev pub offset_at : List PlacedToken → ℕ → ℕ → ℕ
offset_at ts i end = option_map_or (λ (t : PlacedToken). t.offset) (slice_get ts i) end

abbrev pub Does : {T V : Type 0} → (T → V) → Parser V → Reader → Result T Stop → Reader → Type 0
Does value_of p old (Ok x) new = p (left old) ≡ got (value_of x) (left new)
Does value_of p old (Err Unexpected) new = p (left old) ≡ stopped (left new)
Does value_of p old (Err Memory) new = Unit {0}

-- whether this token was next and was taken
abbrev pub Takes : Token → Reader → Bool → Reader → Type 0
Takes t old true new = read_token t (left old) ≡ got tt (left new)
Takes t old false new = (new ≡ old) × (read_token t (left old) ≡ stopped (left old))

-- the content of the next token, if it was taken
abbrev pub TakesOne : {V : Type 0} → (Token → Option V) → Reader → Option V → Reader → Type 0
TakesOne f old (Some v) new = read_one f (left old) ≡ got v (left new)
TakesOne f old None new = (new ≡ old) × (read_one f (left old) ≡ stopped (left old))
