-- Tokens that are added to a list as they are found.
use Rattle.std.specs.Prelude.{ℕ, List, [], ◌∷◌, ◌++◌, Some, None, Result, Ok, Err}
use Rattle.giotto_text.specs.declared.faults.ReadFault.{ReadFault}
use Rattle.giotto_text.specs.declared.faults.ReadFault.TheVariants.{Syntax}
use Rattle.giotto_text.specs.declared.tokens.PlacedToken.{PlacedToken}
use Rattle.giotto_text.specs.declared.tokens.Token.{Token}
use Rattle.giotto_text.specs.Tokens.{FoundToken}

abbrev pub placed : Token → ℕ → PlacedToken
placed t offset = record { token = t; offset = offset }

-- the list with the token that was found at this offset, and its length; or the fault if none was found
abbrev pub with_found : List PlacedToken → ℕ → FoundToken → Result (List PlacedToken × ℕ) ReadFault
with_found ts offset (Some f) = Ok (ts ++ placed f.0 offset ∷ [], f.1)
with_found ts offset None = Err (Syntax offset)
