-- Tokens that can be written, and programs that can be printed.
use Rattle.std.specs.Prelude.{◌≡◌, ◌^◌, nat_le, Bool, true, false, ◌&&◌, is_none}
use Rattle.std.specs.List.{list_all}
use Rattle.giotto_tasks.specs.declared.names.Name.{Name}
use Rattle.giotto_text.specs.declared.tokens.Token.{Token}
use Rattle.giotto_text.specs.declared.tokens.Token.TheVariants as tokens
use Rattle.giotto_text.specs.Bytes.{is_name}
use Rattle.giotto_text.specs.Canonical.{canonical_tokens}
use Rattle.giotto_text.specs.Nesting.{nests_too_deep}
use Rattle.giotto_text.specs.Program.{GiottoProgram}
use Rattle.giotto_text.specs.Reading.{has_small_tasks}
use Rattle.giotto_text.specs.Spelling.{Spells}
use Rattle.giotto_text.specs.Tokens.{keyword_of}

-- the shape of a name, and not a keyword
abbrev pub is_sound_name : Name → Bool
is_sound_name x = is_name x && is_none (keyword_of x)

abbrev pub is_sound_token : Token → Bool
is_sound_token (tokens.Name x) = is_sound_name x
is_sound_token (tokens.Keyword k) = true
is_sound_token (tokens.Number n) = nat_le n (2 ^ 63)
is_sound_token (tokens.Symbol s) = true

-- A program whose canonical text reads as the program: its tokens can be written, spell it and nest at most 32 deep, and no
-- task is too large.
pub data IsPrintable (p : GiottoProgram) : Type 0 where
  can_be_printed : list_all is_sound_token (canonical_tokens p) ≡ true → Spells (canonical_tokens p) p → nests_too_deep (canonical_tokens p) ≡ false
      → has_small_tasks p ≡ true → IsPrintable p
