-- What a text reads as, if it can't be cut into tokens.
use Rattle.std.proofs.Common.{◌≡◌, ◌≢◌, List, ℕ, Err, length, refl, ap}
use Rattle.giotto_text.specs.declared.faults.ReadFault.{ReadFault}
use Rattle.giotto_text.specs.declared.faults.ReadFault.TheVariants.{Syntax, TooDeep, TooMany, Memory}
use Rattle.giotto_text.specs.Parsing.{parsed, parsed_tokens}
use Rattle.giotto_text.specs.cited.Reading.{IsLexicalFault}

pub parsed_at_fault : (text : List ℕ) (f : ReadFault) → IsLexicalFault text f → f ≢ Memory → parsed text ≡ Err f
parsed_at_fault text (Syntax offset) e other = ap (parsed_tokens (length text)) e
parsed_at_fault text TooDeep h other = absurd h
parsed_at_fault text TooMany h other = absurd h
parsed_at_fault text Memory h other = absurd (other refl)
