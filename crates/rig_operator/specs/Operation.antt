-- What is asked and written for the lines of an operator.
use Rattle.std.specs.Prelude.{◌≡◌, ◌<◌, ◌⊎◌, ℕ, ℤ, List, [], ◌∷◌, ◌++◌, map, length, Option, Some, None, IsSomeAnd}
use Rattle.giotto_tasks.specs.declared.names.Name.{Name}
use Rattle.host_core.specs.declared.hosts.TickFault.{TickFault}
use Rattle.rig_model.specs.TextLines.{cut, text_of_line, whole_lines}
use Rattle.rig_model.specs.OperatorLines.{OperatorForm, archive, bad_command, blank, halt, line_values, operator_line_of, settle, tick, work, work_of}
use Rattle.rig_model.specs.lines.Words.{words_of}
use Rattle.rig_operator.specs.Asked.{Asked, archived, completed, driven, given, number_after, refused, sent, settled, unarchived, undriven}
use Rattle.rig_operator.specs.Replies.{archive_refusal, archive_reply, err_bad_command, err_memory, lines_reply, ok_wait, refusal, tick_reply}
use Rattle.rig_operator.specs.declared.faults.OperatorFault.{OperatorFault}
use Rattle.rig_operator.specs.declared.faults.OperatorFault.TheVariants.{Read, Write}
use Rattle.rig_operator.specs.declared.rigs.ArchiveFault.{ArchiveFault}
use Rattle.rig_operator.specs.declared.operating.Ending.{Ending}
use Rattle.rig_operator.specs.declared.operating.Ending.TheVariants.{Halt, Input}
use Rattle.tenant_jobs.specs.Jobs.{JobValue}

-- What is asked for a line, with the answers, and what is then written, if this is the number of the next instant. `halt` has no rule,
-- since it ends the lines.
pub data IsAnswered (number : ℕ) : OperatorForm → List Asked → List ℕ → Type 0 where
  nothing : IsAnswered number blank [] []
  -- all its jobs are sent, and those that come back are completed, in their order
  instant : (frame : List ℤ) (jobs unsent : List JobValue) → IsAnswered number (tick frame) (given frame jobs ∷ sent jobs unsent ∷ map completed unsent) (tick_reply number)
  no_instant : (frame : List ℤ) (fault : TickFault) → IsAnswered number (tick frame) (refused frame fault ∷ []) (refusal fault)
  -- there was no memory for the values; up to eight take none
  unread : (frame : List ℤ) → 8 < length frame → IsAnswered number (tick frame) [] err_memory
  values : (driven_with : List ℤ) → IsAnswered number line_values (driven driven_with ∷ []) (lines_reply driven_with)
  -- there was no memory for the reply
  no_reply : (driven_with : List ℤ) → IsAnswered number line_values (driven driven_with ∷ []) err_memory
  no_values : IsAnswered number line_values (undriven ∷ []) err_memory
  waited : IsAnswered number settle (settled ∷ []) ok_wait
  kept : (entries : ℕ) → IsAnswered number archive (archived entries ∷ []) (archive_reply entries)
  not_kept : (fault : ArchiveFault) → IsAnswered number archive (unarchived fault ∷ []) (archive_refusal fault)
  -- a server's jobs are done by its workers
  no_work : IsAnswered number work [] err_bad_command
  no_work_of : (tenant : Name) → IsAnswered number (work_of tenant) [] err_bad_command
  unknown : IsAnswered number bad_command [] err_bad_command

-- the same for a line's text
abbrev pub IsTextAnswered : ℕ → List ℕ → List Asked → List ℕ → Type 0
IsTextAnswered number text asked said = IsAnswered number (operator_line_of (words_of text)) asked said

-- what is asked and written for lines with these texts, one after the other
abbrev pub AreAnswered : ℕ → List (List ℕ) → List Asked → List ℕ → Type 0
AreAnswered number [] asked said = (asked ≡ []) × (said ≡ [])
AreAnswered number (text ∷ texts) asked said =
    (first : List Asked) × (later : List Asked) × (reply : List ℕ) × (replies : List ℕ) × (asked ≡ first ++ later) × (said ≡ reply ++ replies)
    × IsTextAnswered number text first reply × AreAnswered (number_after number first) texts later replies

-- lines with these texts were answered, with what was asked and written
abbrev pub AreOperated : (List Asked → Type 0) → (List ℕ → Type 0) → List (List ℕ) → Type 0
AreOperated Asks Writes texts = (asked : List Asked) × (said : List ℕ) × Asks asked × Writes said × AreAnswered 0 texts asked said

-- some lines were answered, and `Reads` holds of their texts
abbrev pub Operates : (List Asked → Type 0) → (List ℕ → Type 0) → (List (List ℕ) → Type 0) → Type 0
Operates Asks Writes Reads = (texts : List (List ℕ)) × AreOperated Asks Writes texts × Reads texts

-- these are the texts of the first lines of some bytes, and `Then` holds of the lines after them
abbrev pub BeginWith : List ℕ → List (List ℕ) → (List (List ℕ) → Type 0) → Type 0
BeginWith bytes texts Then = (front : List (List ℕ)) × (later : List (List ℕ)) × (cut bytes ≡ front ++ later) × (map text_of_line front ≡ map Some texts) × Then later

-- How the lines of some bytes ended after those with these texts, by what the reader still has. They ended with `halt`, and `Left` holds of
-- the bytes after it; or with the bytes; or with a line that is too long or not UTF-8.
abbrev pub IsEnd : Ending → List ℕ → List (List ℕ) → Option (List ℕ) → (List ℕ → Type 0) → Type 0
IsEnd Halt bytes texts remaining Left = BeginWith bytes texts (λ lines.
    (line : List ℕ) × (text : List ℕ) × (rest : List ℕ) × (lines ≡ line ∷ cut rest) × (text_of_line line ≡ Some text) × (operator_line_of (words_of text) ≡ halt) × Left rest)
IsEnd Input bytes texts remaining Left =
    ((map text_of_line (cut bytes) ≡ map Some texts) × (remaining ≡ Some []))
    ⊎ BeginWith bytes texts (λ lines. (line : List ℕ) × (later : List (List ℕ)) × (lines ≡ line ∷ later) × (text_of_line line ≡ None))

-- these are the texts of the complete lines: those of the bytes up to what the reader still has
abbrev pub AreWhole : List ℕ → Option (List ℕ) → List (List ℕ) → Type 0
AreWhole bytes remaining texts = IsSomeAnd remaining (λ more. (taken : List ℕ) × (bytes ≡ taken ++ more) × (map text_of_line (whole_lines taken) ≡ map Some texts))

-- The lines of some bytes that were answered before a fault. `Read`: exactly the complete lines; or, if there was no memory for a line,
-- exactly the lines before it. `Write`: some lines, from the first on.
abbrev pub IsBrokenOff : OperatorFault → List ℕ → List (List ℕ) → Option (List ℕ) → Type 0
IsBrokenOff Read bytes texts remaining = AreWhole bytes remaining texts ⊎ BeginWith bytes texts (λ lines. (line : List ℕ) × (later : List (List ℕ)) × (lines ≡ line ∷ later))
IsBrokenOff Write bytes texts remaining = BeginWith bytes texts (λ lines. Unit {0})

-- if a write failed, nothing is promised about what was written
abbrev pub WrittenBefore : OperatorFault → (List ℕ → Type 0) → List ℕ → Type 0
WrittenBefore Read Writes said = Writes said
WrittenBefore Write Writes said = Unit {0}
