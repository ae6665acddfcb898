-- The tokens of a program text, each as long as possible.
use Rattle.std.specs.Prelude.{ℕ, zero, suc, ◌+◌, ◌-◌, ◌^◌, nat_eq, nat_le, ◌&&◌, if◌then◌else◌, List, [], ◌∷◌, length, map, Option, Some, None, Result, Ok, Err, codes}
use Rattle.std.specs.List.{find, starts_with, take_while}
use Rattle.std.specs.Str.Parse.{digits_value}
use Rattle.giotto_tasks.specs.Names.{same_name}
use Rattle.giotto_text.specs.Bytes.{is_digit, is_letter, is_name_byte, is_blank_of_text}
use Rattle.giotto_text.specs.declared.tokens.Keyword.{Keyword}
use Rattle.giotto_text.specs.declared.tokens.Keyword.TheVariants as keywords
use Rattle.giotto_text.specs.declared.tokens.Symbol.{Symbol}
use Rattle.giotto_text.specs.declared.tokens.Symbol.TheVariants as symbols
use Rattle.giotto_text.specs.declared.tokens.Token.{Token}
use Rattle.giotto_text.specs.declared.tokens.Token.TheVariants.{Name, Keyword as Word, Number, Symbol as Mark}
use Rattle.giotto_text.specs.declared.tokens.PlacedToken.{PlacedToken}

abbrev pub text_of_keyword : Keyword → List ℕ
text_of_keyword keywords.Sensor = codes "sensor"
text_of_keyword keywords.Actuator = codes "actuator"
text_of_keyword keywords.Output = codes "output"
text_of_keyword keywords.Task = codes "task"
text_of_keyword keywords.State = codes "state"
text_of_keyword keywords.Mode = codes "mode"
text_of_keyword keywords.Period = codes "period"
text_of_keyword keywords.ActFreq = codes "actfreq"
text_of_keyword keywords.ExitFreq = codes "exitfreq"
text_of_keyword keywords.TaskFreq = codes "taskfreq"
text_of_keyword keywords.Start = codes "start"
text_of_keyword keywords.Do = codes "do"
text_of_keyword keywords.If = codes "if"
text_of_keyword keywords.Else = codes "else"
text_of_keyword keywords.Repeat = codes "repeat"
text_of_keyword keywords.Line = codes "line"
text_of_keyword keywords.Grant = codes "grant"

abbrev pub all_keywords : List Keyword
all_keywords =
    keywords.Sensor ∷ keywords.Actuator ∷ keywords.Output ∷ keywords.Task ∷ keywords.State ∷ keywords.Mode ∷ keywords.Period ∷ keywords.ActFreq ∷ keywords.ExitFreq ∷ keywords.TaskFreq
    ∷ keywords.Start ∷ keywords.Do ∷ keywords.If ∷ keywords.Else ∷ keywords.Repeat ∷ keywords.Line ∷ keywords.Grant ∷ []

abbrev pub text_of_symbol : Symbol → List ℕ
text_of_symbol symbols.Becomes = codes ":="
text_of_symbol symbols.Semicolon = codes ";"
text_of_symbol symbols.Comma = codes ","
text_of_symbol symbols.OpenParenthesis = codes "("
text_of_symbol symbols.CloseParenthesis = codes ")"
text_of_symbol symbols.OpenBrace = codes "{"
text_of_symbol symbols.CloseBrace = codes "}"
text_of_symbol symbols.Plus = codes "+"
text_of_symbol symbols.Minus = codes "-"
text_of_symbol symbols.Star = codes "*"
text_of_symbol symbols.Slash = codes "/"
text_of_symbol symbols.Percent = codes "%"
text_of_symbol symbols.EqualEqual = codes "=="
text_of_symbol symbols.NotEqual = codes "!="
text_of_symbol symbols.Less = codes "<"
text_of_symbol symbols.AtMost = codes "<="
text_of_symbol symbols.Greater = codes ">"
text_of_symbol symbols.AtLeast = codes ">="
text_of_symbol symbols.AndAnd = codes "&&"
text_of_symbol symbols.OrOr = codes "||"
text_of_symbol symbols.Not = codes "!"

-- longer symbols first, so that the first one that fits is the longest
abbrev pub all_symbols : List Symbol
all_symbols =
    symbols.Becomes ∷ symbols.EqualEqual ∷ symbols.NotEqual ∷ symbols.AtMost ∷ symbols.AtLeast ∷ symbols.AndAnd ∷ symbols.OrOr
    ∷ symbols.Semicolon ∷ symbols.Comma ∷ symbols.OpenParenthesis ∷ symbols.CloseParenthesis ∷ symbols.OpenBrace ∷ symbols.CloseBrace
    ∷ symbols.Plus ∷ symbols.Minus ∷ symbols.Star ∷ symbols.Slash ∷ symbols.Percent ∷ symbols.Less ∷ symbols.Greater ∷ symbols.Not ∷ []

-- the token that was found, and its length in bytes
abbrev pub FoundToken : Type 0
FoundToken = Option (Token × ℕ)

-- the keyword with this spelling
abbrev pub keyword_of : List ℕ → Option Keyword
keyword_of run = find (λ k. same_name (text_of_keyword k) run) all_keywords

-- the longest symbol that the text begins with
abbrev pub symbol_at : List ℕ → Option Symbol
symbol_at text = find (λ s. starts_with nat_eq text (text_of_symbol s)) all_symbols

-- a run of name bytes: a keyword, or a name of at most 32 bytes
abbrev pub word : List ℕ → FoundToken
word run = by (keyword_of run)
  where
    by : Option Keyword → FoundToken
    by (Some k) = Some (Word k, length run)
    by None = if nat_le (length run) 32 then Some (Name run, length run) else None

-- a run of digits: at most 19 of them, and at most 9223372036854775808
abbrev pub number : List ℕ → FoundToken
number run = if nat_le (length run) 19 && nat_le (digits_value 10 run) (2 ^ 63) then Some (Number (digits_value 10 run), length run) else None

abbrev pub mark : List ℕ → FoundToken
mark text = by (symbol_at text)
  where
    by : Option Symbol → FoundToken
    by (Some s) = Some (Mark s, length (text_of_symbol s))
    by None = None

-- the token at the start of a text, as long as possible
abbrev pub first_token : List ℕ → FoundToken
first_token [] = None
first_token (c ∷ cs) =
    if is_letter c then word (take_while is_name_byte (c ∷ cs))
    else (if is_digit c then number (take_while is_digit (c ∷ cs))
    else mark (c ∷ cs))

-- the tokens of a text, or the offset at which no token begins
abbrev pub Tokens : Type 0
Tokens = Result (List PlacedToken) ℕ

abbrev pub after_token : Token → ℕ → Tokens → Tokens
after_token t offset (Ok ts) = Ok (record { token = t; offset = offset } ∷ ts)
after_token t offset (Err fault) = Err fault

-- Goes through the text from an offset on; the next `within` bytes belong to the previous token.
abbrev pub tokens_from : ℕ → ℕ → List ℕ → Tokens
tokens_from within offset [] = Ok []
tokens_from (suc within) offset (c ∷ cs) = tokens_from within (offset + 1) cs
tokens_from zero offset (c ∷ cs) =
    if is_blank_of_text c then tokens_from 0 (offset + 1) cs
    else begin (first_token (c ∷ cs)) (λ len. tokens_from (len - 1) (offset + 1) cs)
  where
    begin : FoundToken → (ℕ → Tokens) → Tokens
    begin None rest = Err offset
    begin (Some f) rest = after_token f.0 offset (rest f.1)

abbrev pub tokens_of : List ℕ → Tokens
tokens_of text = tokens_from 0 0 text

-- the tokens without their offsets
abbrev pub bare : List PlacedToken → List Token
bare ts = map (λ p. p.token) ts
