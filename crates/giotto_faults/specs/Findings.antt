-- Where a finding is, whether it reports a fault, and the first line of its text.
use Rattle.std.specs.Prelude.{◌≡◌, ◌<◌, ℕ, min, nat_lt, if◌then◌else◌, List, ◌∷◌, [], ◌++◌, length, Some, None, codes, string_bytes}
use Rattle.std.specs.Fmt.{decimal}
use Rattle.std.specs.Str.{trim_end}
use Rattle.giotto_faults.specs.declared.faults.ProgramFault.{ProgramFault}
use Rattle.giotto_faults.specs.declared.faults.ProgramFault.TheVariants.{Syntax, TooDeep, TooMany, Memory}
use Rattle.giotto_faults.specs.declared.findings.Finding.{Finding}
use Rattle.giotto_faults.specs.declared.findings.Severity.{Severity}
use Rattle.giotto_faults.specs.declared.findings.Severity.TheVariants.{Error, Note}
use Rattle.giotto_faults.specs.declared.places.Place.{Place}
use Rattle.giotto_faults.specs.Places.{place_of}

-- where a fault at this offset of a text is shown: one at the text's end is shown after its last word
abbrev pub shown_offset : List ℕ → ℕ → ℕ
shown_offset text offset = if nat_lt offset (length text) then offset else length (trim_end text)

-- where a fault of a text is shown: a port too many at its name, or at the start of the text if no port was found; a `Memory`
-- fault is not shown
abbrev pub offset_told : List ℕ → ProgramFault → ℕ
offset_told text (Syntax f) = shown_offset text f.offset
offset_told text (TooDeep offset) = offset
offset_told text (TooMany (Some port)) = port.offset
offset_told text (TooMany None) = 0
offset_told text Memory = 0

-- a finding is an error at this offset
abbrev pub IsErrorAt : ℕ → Finding → Type 0
IsErrorAt offset f = (f.severity ≡ Error) × (f.offset ≡ offset)

-- findings that begin with an error, if there is one at all
abbrev pub BeginWithError : List Finding → Type 0
BeginWithError [] = Unit {0}
BeginWithError (f ∷ fs) = f.severity ≡ Error

-- findings that report a fault: there is at least one, and the first is an error
abbrev pub TellFault : List Finding → Type 0
TellFault findings = (0 < length findings) × BeginWithError findings

abbrev pub word_of_severity : Severity → List ℕ
word_of_severity Error = codes "error"
word_of_severity Note = codes "note"

-- "FILE:LINE:COLUMN: SEVERITY: MESSAGE" and LF, for a finding at this place
abbrev pub head_at : Finding → List ℕ → Place → List ℕ
head_at f file place =
    file ++ (codes ":" ++ (decimal place.line ++ (codes ":" ++ (decimal place.column ++ (codes ": " ++ (word_of_severity f.severity ++ (codes ": " ++ (string_bytes f.message ++ 10 ∷ []))))))))

-- the same for a finding about this text
abbrev pub head_of : Finding → List ℕ → List ℕ → List ℕ
head_of f file text = head_at f file (place_of text (min f.offset (length text)))

-- a text begins with these bytes
abbrev pub BeginsWith : List ℕ → List ℕ → Type 0
BeginsWith head text = (below : List ℕ) × (text ≡ head ++ below)
