-- What a fault says of the text that has it.
use Rattle.std.specs.Prelude.{◌≡◌, ℕ, List, take, Some, Ok, Err}
use Rattle.giotto_read.specs.declared.text.faults.ReadFault.TheVariants as faults
use Rattle.giotto_read.specs.declared.text.tokens.PlacedToken.{PlacedToken}
use Rattle.giotto_read.specs.text.Parsing.{parsed}
use Rattle.giotto_read.specs.text.Tokens.{tokens_of}
use Rattle.giotto_faults.specs.declared.faults.ProgramFault.{ProgramFault}
use Rattle.giotto_faults.specs.declared.faults.ProgramFault.TheVariants.{Syntax, TooDeep, TooMany, Memory}
use Rattle.giotto_faults.specs.Expected.{expected_behind}
use Rattle.giotto_faults.specs.Nesting.{first_too_deep}

-- the first of the text's tokens after which more than 32 parentheses and braces are open has this offset
abbrev pub NestsTooDeepAt : List ℕ → ℕ → Type 0
NestsTooDeepAt text offset = (ts : List PlacedToken) × (tokens_of text ≡ Ok ts) × (first_too_deep 0 ts ≡ Some offset)

-- The text is refused for the reason that the fault gives, and what the fault says about the text is true. Nothing is said about
-- `Memory`.
abbrev pub Tells : List ℕ → ProgramFault → Type 0
Tells text (Syntax f) = (parsed text ≡ Err (faults.Syntax f.offset)) × (f.expected ≡ expected_behind (take f.offset text))
Tells text (TooDeep offset) = (parsed text ≡ Err faults.TooDeep) × NestsTooDeepAt text offset
Tells text (TooMany port) = parsed text ≡ Err faults.TooMany
Tells text Memory = Unit {0}
