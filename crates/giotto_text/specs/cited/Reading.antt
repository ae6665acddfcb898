-- What the faults of a text's tokens mean.
use Rattle.std.specs.Prelude.{◌≡◌, ℕ, List, Err}
use Rattle.giotto_text.specs.declared.faults.ReadFault.{ReadFault}
use Rattle.giotto_text.specs.declared.faults.ReadFault.TheVariants.{Syntax, TooDeep, TooMany, Memory}
use Rattle.giotto_text.specs.Tokens.{tokens_of}

-- what a fault of the lexer means: an offset is where no token begins; `Memory` says nothing about the text
abbrev pub IsLexicalFault : List ℕ → ReadFault → Type 0
IsLexicalFault text (Syntax offset) = tokens_of text ≡ Err offset
IsLexicalFault text Memory = Unit {0}
IsLexicalFault text TooDeep = ⊥
IsLexicalFault text TooMany = ⊥
