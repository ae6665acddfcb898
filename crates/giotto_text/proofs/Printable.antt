-- A program that a text reads as can be printed.
use Rattle.std.proofs.Common.{◌≡◌, ℕ, List, Ok, subst}
use Rattle.giotto_text.specs.Parsing.{parsed}
use Rattle.giotto_text.specs.Program.{GiottoProgram}
use Rattle.giotto_text.specs.Reading.{Reads, a_program}
use Rattle.giotto_text.specs.Sound.{IsPrintable}
use Rattle.giotto_text.specs.Tokens.{bare}
use Rattle.giotto_text.proofs.CanonicalReads.{printable}
use Rattle.giotto_text.proofs.CanonicalSpells.{canonical_spells}
use Rattle.giotto_text.proofs.Parsed.{parsed_reads}
use Rattle.giotto_text.proofs.SoundTokens.{tokens_sound}

read_is_printable : (text : List ℕ) (p : GiottoProgram) → Reads text (Ok p) → IsPrintable p
read_is_printable text p (a_program ts cut shallow s small) = printable (bare ts) p (tokens_sound text ts cut) shallow s (canonical_spells (bare ts) p s) small

pub parsed_is_printable : (text : List ℕ) (p : GiottoProgram) → parsed text ≡ Ok p → IsPrintable p
parsed_is_printable text p e = read_is_printable text p (subst (λ r. Reads text r) e (parsed_reads text))
