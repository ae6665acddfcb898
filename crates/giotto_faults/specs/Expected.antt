-- Which tokens could follow a text: each kind of token with which the text begins some program.
use Rattle.std.specs.Prelude.{◌≡◌, ℕ, nat_eq, Bool, true, false, List, ◌∷◌, ◌++◌, length, filter, Result, Ok, Err}
use Rattle.giotto_read.specs.declared.text.faults.ReadFault.{ReadFault}
use Rattle.giotto_read.specs.declared.text.faults.ReadFault.TheVariants.{Syntax, TooDeep, TooMany, Memory}
use Rattle.giotto_read.specs.declared.text.tokens.PlacedToken.{PlacedToken}
use Rattle.giotto_read.specs.text.Nesting.{nests_too_deep}
use Rattle.giotto_read.specs.text.Parsing.{parsed}
use Rattle.giotto_read.specs.text.Program.{GiottoProgram}
use Rattle.giotto_read.specs.text.Spelling.{IsPrefix}
use Rattle.giotto_read.specs.text.Tokens.{tokens_of, bare}
use Rattle.giotto_faults.specs.declared.kinds.TokenKind.{TokenKind}
use Rattle.giotto_faults.specs.declared.kinds.TheConstants.{KINDS}
use Rattle.giotto_faults.specs.Kinds.{sample_of}

-- The tokens of a text are a prefix of some program's tokens, and nest at most 32 deep.
pub record BeginsProgram (text : List ℕ) : Type 0 where
  pub tokens : List PlacedToken
  pub cut : tokens_of text ≡ Ok tokens
  pub prefix : IsPrefix (bare tokens)
  pub shallow : nests_too_deep (bare tokens) ≡ false

-- whether a text of this length begins a program, by the result of reading it: it is a program, or it only ends too early or has
-- too many ports
abbrev pub begins_if_read : ℕ → Result GiottoProgram ReadFault → Bool
begins_if_read end (Ok p) = true
begins_if_read end (Err (Syntax offset)) = nat_eq offset end
begins_if_read end (Err TooDeep) = false
begins_if_read end (Err TooMany) = true
begins_if_read end (Err Memory) = false

-- the text begins a program, according to the reader
abbrev pub begins_program : List ℕ → Bool
begins_program text = begins_if_read (length text) (parsed text)

-- the text followed by a blank and a token of this kind
abbrev pub with_token : List ℕ → TokenKind → List ℕ
with_token text kind = text ++ 32 ∷ sample_of kind

-- the kinds of tokens with which the text begins a program
unfoldable pub expected_behind : List ℕ → List TokenKind
expected_behind text = filter (λ kind. begins_program (with_token text kind)) KINDS
