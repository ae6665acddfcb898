-- The words with which a fault of a script's line is reported, and where it is shown.
use Rattle.std.specs.Prelude.{◌≡◌, ℕ, ◌-◌, min, Bool, if◌then◌else◌, List, [], ◌∷◌, ◌++◌, length, Option, Some, None, is_some, codes, string_bytes}
use Rattle.std.specs.Fmt.{decimal}
use Rattle.program_checks.specs.faults.Places.{place_of}
use Rattle.giotto_faults.specs.declared.findings.Finding.{Finding}
use Rattle.giotto_faults.specs.declared.findings.Severity.TheVariants.{Error}
use Rattle.giotto_faults.specs.declared.places.Place.{Place}
use Rattle.giotto_tasks.specs.Names.{is_among, same_name}
use Rattle.rig_model.specs.config.Roster.{Rig}
use Rattle.rig_model.specs.Script.{operator}
use Rattle.rig_model.specs.TextLines.{text_of_line}
use Rattle.rig_model.specs.lines.Words.{behind_first_word, first_word_of}
use Rattle.script_checks.specs.Commands.{forms_of}
use Rattle.script_checks.specs.declared.lines.LineFault.{LineFault}
use Rattle.script_checks.specs.declared.lines.LineFault.TheVariants.{TooLong, NotText, UnknownSpeaker, BadCommand, BadFrame, UnknownTenant, Program}

-- "no tenant has the name `NAME`"
abbrev pub words_of_nobody : List ℕ → List ℕ
words_of_nobody name = codes "no tenant has the name `" ++ (name ++ codes "`")

-- "a tick has one value for each rig line, and this rig has LINES"
abbrev pub words_of_frame : Rig → List ℕ
words_of_frame config = codes "a tick has one value for each rig line, and this rig has " ++ decimal config.lines

-- the words after `op` that begin lines with known forms
abbrev pub words_of_operator : List (List ℕ)
words_of_operator = codes "tick" ∷ codes "work" ∷ codes "lines" ∷ []

abbrev pub has_forms : List ℕ → List ℕ → Bool
has_forms speaker word = if same_name speaker operator then is_among words_of_operator word else is_some (forms_of word)

-- the message about a line that is not a command, by its speaker and the word after the speaker
abbrev pub words_of_command : List ℕ → List ℕ → List ℕ
words_of_command speaker [] = codes "there is no command after `" ++ (speaker ++ codes "`")
words_of_command speaker (c ∷ cs) =
    if has_forms speaker (c ∷ cs) then codes "this is none of the forms of `" ++ ((c ∷ cs) ++ codes "`")
    else codes "`" ++ ((c ∷ cs) ++ codes "` is no command")

abbrev pub words_of_bad_command : List ℕ → List ℕ
words_of_bad_command text = words_of_command (first_word_of text) (first_word_of (behind_first_word text))

-- what is wrong with a line of this text, in words; the fault of a program is reported by the program's findings
abbrev pub words_of_fault : Rig → List ℕ → LineFault → List ℕ
words_of_fault config text TooLong = codes "the line has more than 16384 bytes, and ends the script for all"
words_of_fault config text NotText = codes "the line isn't UTF-8, and ends the script for all"
words_of_fault config text UnknownSpeaker = words_of_nobody (first_word_of text)
words_of_fault config text UnknownTenant = words_of_nobody (first_word_of (behind_first_word (behind_first_word text)))
words_of_fault config text BadFrame = words_of_frame config
words_of_fault config text BadCommand = words_of_bad_command text
words_of_fault config text Program = []

-- the offset at which the first word of `end`, the end of a text, begins: the length of the text without that word and what comes
-- after it
abbrev pub offset_of_word : List ℕ → List ℕ → ℕ
offset_of_word text end = length text - length (behind_first_word end) - length (first_word_of end)

-- what comes after the speaker, if there is a word in it, or else the whole line
abbrev pub end_with_command : List ℕ → List ℕ
end_with_command text = by (first_word_of (behind_first_word text))
  where
    by : List ℕ → List ℕ
    by [] = text
    by (c ∷ cs) = behind_first_word text

abbrev pub offset_of_command : List ℕ → ℕ
offset_of_command text = offset_of_word text (end_with_command text)

-- where the fault of a line of this text is shown: at the wrong word, or at the start of the line if the fault is that of the
-- whole line
abbrev pub offset_of_fault : List ℕ → LineFault → ℕ
offset_of_fault text TooLong = 0
offset_of_fault text NotText = 0
offset_of_fault text UnknownSpeaker = offset_of_word text text
offset_of_fault text UnknownTenant = offset_of_word text (behind_first_word (behind_first_word text))
offset_of_fault text BadFrame = offset_of_word text (behind_first_word text)
offset_of_fault text BadCommand = offset_of_command text
offset_of_fault text Program = 0

-- an error at this offset, with these words
abbrev pub IsErrorAt : ℕ → List ℕ → Finding → Type 0
IsErrorAt offset words f = (f.severity ≡ Error) × (f.offset ≡ offset) × (string_bytes f.message ≡ words)

-- the text of a line, or nothing if the line is too long or not UTF-8
abbrev pub text_or_none : List ℕ → List ℕ
text_or_none line = by (text_of_line line)
  where
    by : Option (List ℕ) → List ℕ
    by None = []
    by (Some text) = text

-- the column of a byte of a line's text, in characters
abbrev pub column_in : List ℕ → ℕ → ℕ
column_in line offset = (place_of (text_or_none line) (min offset (length (text_or_none line)))).column

-- the place of that byte in the line with this number
abbrev pub place_in : ℕ → List ℕ → ℕ → Place
place_in number line offset = record { line = number; column = column_in line offset }
