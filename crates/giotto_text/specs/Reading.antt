-- What a text and its tokens read as: a program, or the reason why they are refused.
use Rattle.std.specs.Prelude.{◌≡◌, ℕ, Bool, true, false, List, [], ◌∷◌, ◌++◌, length, Result, Ok, Err}
use Rattle.std.specs.List.{list_all}
use Rattle.giotto_tasks.specs.Sound.{is_small}
use Rattle.giotto_text.specs.declared.faults.ReadFault.{ReadFault}
use Rattle.giotto_text.specs.declared.faults.ReadFault.TheVariants.{Syntax, TooDeep, TooMany}
use Rattle.giotto_text.specs.declared.tokens.PlacedToken.{PlacedToken}
use Rattle.giotto_text.specs.Nesting.{nests_too_deep}
use Rattle.giotto_text.specs.Program.{GiottoProgram, body_of}
use Rattle.giotto_text.specs.Tokens.{Tokens, tokens_of, bare}
use Rattle.giotto_text.specs.Spelling.{Spells, IsPrefix}

-- The offset of a grammar fault, in a text that ends at `end`: that of the first token with which the tokens are no prefix
-- of a program, or `end` if they end too early.
pub data IsGrammarFault (ts : List PlacedToken) (end : ℕ) : ℕ → Type 0 where
  no_prefix : (before : List PlacedToken) (t : PlacedToken) (after : List PlacedToken) → ts ≡ before ++ t ∷ after
      → IsPrefix (bare before) → ¬ IsPrefix (bare (before ++ t ∷ [])) → IsGrammarFault ts end t.offset
  too_early : IsPrefix (bare ts) → ((p : GiottoProgram) → ¬ Spells (bare ts) p) → IsGrammarFault ts end end

-- each task has at most 16 inputs, 16 outputs and 16 states
abbrev pub has_small_tasks : GiottoProgram → Bool
has_small_tasks p = list_all (λ t. is_small (body_of t)) p.tasks

-- What tokens read as, in a text that ends at `end`. The reasons are checked in this order.
pub data ReadsTokens (cut : Tokens) (end : ℕ) : Result GiottoProgram ReadFault → Type 0 where
  no_token : {offset : ℕ} → cut ≡ Err offset → ReadsTokens cut end (Err (Syntax offset))
  too_deep : (ts : List PlacedToken) → cut ≡ Ok ts → nests_too_deep (bare ts) ≡ true → ReadsTokens cut end (Err TooDeep)
  no_program : (ts : List PlacedToken) {offset : ℕ} → cut ≡ Ok ts → nests_too_deep (bare ts) ≡ false → IsGrammarFault ts end offset → ReadsTokens cut end (Err (Syntax offset))
  too_many_ports : (ts : List PlacedToken) {p : GiottoProgram} → cut ≡ Ok ts → nests_too_deep (bare ts) ≡ false → Spells (bare ts) p → has_small_tasks p ≡ false → ReadsTokens cut end (Err TooMany)
  a_program : (ts : List PlacedToken) {p : GiottoProgram} → cut ≡ Ok ts → nests_too_deep (bare ts) ≡ false → Spells (bare ts) p → has_small_tasks p ≡ true → ReadsTokens cut end (Ok p)

-- what a text reads as
abbrev pub Reads : List ℕ → Result GiottoProgram ReadFault → Type 0
Reads text = ReadsTokens (tokens_of text) (length text)
