-- Lines that are given together: those of one read, and what follows them.
use Rattle.std.specs.Prelude.{◌≡◌, ◌<◌, ℕ, Bool, List, [], ◌∷◌, Option, Some, None, Result, Ok, Err}
use Rattle.text_lines.specs.declared.faults.LinesFault.{LinesFault}
use Rattle.text_lines.specs.declared.lines.Behind.{Behind}
use Rattle.text_lines.specs.declared.lines.Behind.TheVariants.{More, Bad, End}
use Rattle.text_lines.specs.declared.lines.Line.{Line}
use Rattle.text_lines.specs.declared.lines.Line.TheVariants as line
use Rattle.text_lines.specs.declared.lines.Lines.{Lines}
use Rattle.text_lines.specs.cited.Reading.{AreAtLineStart, IsFirstLine, IsFurther, IsNextLine, left_at_most}
use Rattle.rig_model.specs.TextLines.{text_of_line}

-- these texts are those of the lines at the front of these bytes, and `Then` holds of the bytes after them
abbrev pub AreFirstLines : List ℕ → List (List ℕ) → Bool → (List ℕ → Type 0) → Type 0
AreFirstLines bytes [] ended Then = Then bytes
AreFirstLines bytes (text ∷ texts) ended Then =
    (line : List ℕ) × (rest : List ℕ) × IsFirstLine line rest bytes ended × (text_of_line line ≡ Some text) × AreFirstLines rest texts ended Then

-- What is at the front of these bytes, after lines that were given. If more lines may come, `Left` holds of the bytes; otherwise it is
-- as `IsNextLine` says.
abbrev pub IsBehind : Result Behind LinesFault → Option (List ℕ) → Bool → (List ℕ → Type 0) → List ℕ → Type 0
IsBehind (Ok More) remaining ended Left bytes = Left bytes
IsBehind (Ok Bad) remaining ended Left bytes = IsNextLine bytes (Ok line.Bad) remaining ended Left
IsBehind (Ok End) remaining ended Left bytes = IsNextLine bytes (Ok line.End) remaining ended Left
IsBehind (Err fault) remaining ended Left bytes = IsNextLine bytes (Err fault) remaining ended Left

-- the next lines of these bytes, and what follows them
abbrev pub AreNextLines : List ℕ → List (List ℕ) → Result Behind LinesFault → Option (List ℕ) → Bool → (List ℕ → Type 0) → Type 0
AreNextLines bytes texts result remaining ended Left = AreFirstLines bytes texts ended (IsBehind result remaining ended Left)

-- if more lines may come, one begins, and less is left than before
abbrev pub IsFurtherBehind : Lines → Result Behind LinesFault → Lines → Type 0
IsFurtherBehind old (Ok More) new = AreAtLineStart new × (left_at_most new < left_at_most old)
IsFurtherBehind old (Ok Bad) new = Unit {0}
IsFurtherBehind old (Ok End) new = Unit {0}
IsFurtherBehind old (Err fault) new = Unit {0}

-- what the next line is if all of it was read; otherwise the bytes are left
abbrev pub IsAtHand : List ℕ → Result (Option Line) LinesFault → Option (List ℕ) → Bool → (List ℕ → Type 0) → Type 0
IsAtHand bytes (Ok None) remaining ended Left = Left bytes
IsAtHand bytes (Ok (Some found)) remaining ended Left = IsNextLine bytes (Ok found) remaining ended Left
IsAtHand bytes (Err fault) remaining ended Left = IsNextLine bytes (Err fault) remaining ended Left

-- after a line another one begins, and less is left than before; if none was given, all is left
abbrev pub IsFurtherAtHand : Lines → Result (Option Line) LinesFault → Lines → Type 0
IsFurtherAtHand old (Ok None) new = AreAtLineStart new × (left_at_most new ≡ left_at_most old)
IsFurtherAtHand old (Ok (Some found)) new = IsFurther old (Ok found) new
IsFurtherAtHand old (Err fault) new = Unit {0}
