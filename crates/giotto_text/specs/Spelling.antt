-- What tokens spell, and what they begin to spell.
use Rattle.std.specs.Prelude.{List, [], ◌∷◌, ◌++◌}
use Rattle.giotto_text.specs.declared.tokens.Token.{Token}
use Rattle.giotto_text.specs.Program.{GiottoProgram}
use Rattle.giotto_text.specs.Grammar.{Part, token, program, IsWritten}

-- The tokens spell all of these parts.
pub data SpellsParts : List Token → List Part → Type 0 where
  all_spelled : SpellsParts [] []
  token_spelled : {t : Token} {ts : List Token} {ps : List Part} → SpellsParts ts ps → SpellsParts (t ∷ ts) (token t ∷ ps)
  line_spelled : {p : Part} {ts : List Token} {ps line : List Part} → IsWritten p line → SpellsParts ts (line ++ ps) → SpellsParts ts (p ∷ ps)

-- The tokens are a prefix of what these parts spell: a prefix of the first part, or the first part and a prefix of the rest.
pub data BeginsParts : List Token → List Part → Type 0 where
  none_left : {ps : List Part} → BeginsParts [] ps
  token_begun : {t : Token} {ts : List Token} {ps : List Part} → BeginsParts ts ps → BeginsParts (t ∷ ts) (token t ∷ ps)
  line_begun : {p : Part} {ts : List Token} {ps line : List Part} → IsWritten p line → BeginsParts ts (line ++ ps) → BeginsParts ts (p ∷ ps)

abbrev pub Spells : List Token → GiottoProgram → Type 0
Spells ts p = SpellsParts ts (program p ∷ [])

-- the tokens are a prefix of some program's tokens
abbrev pub IsPrefix : List Token → Type 0
IsPrefix ts = (p : GiottoProgram) × BeginsParts ts (program p ∷ [])
