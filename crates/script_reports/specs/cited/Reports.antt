-- What is reported about the lines of a script.
use Rattle.std.specs.Prelude.{ℕ, zero, suc, ◌==◌, nat_le, nat_lt, ◌||◌, ◌&&◌, if◌then◌else◌, Bool, List, ◌++◌, [], ◌∷◌, take, length, slice_index, Option, Some, None, codes}
use Rattle.std.specs.Fmt.{decimal}
use Rattle.std.specs.List.{flat_map}
use Rattle.script_reports.specs.declared.reports.Overrun.{Overrun}
use Rattle.script_reports.specs.declared.reports.TheConstants.{SHOWN}

-- whether a character begins at this place of a text, or the text ends there
abbrev pub is_boundary : List ℕ → ℕ → Bool
is_boundary text i = (i == length text) || (nat_lt i (length text) && (nat_lt (slice_index text i) 128 || nat_le 192 (slice_index text i)))

-- the last such place that isn't after this one
abbrev pub last_boundary : List ℕ → ℕ → ℕ
last_boundary text zero = zero
last_boundary text (suc i) = if is_boundary text (suc i) then suc i else last_boundary text i

-- the first words of a line: its first 40 bytes or a little less, followed by ` ..` if the line is longer
abbrev pub first_words : List ℕ → List ℕ
first_words line = if nat_le (length line) SHOWN then line else take (last_boundary line SHOWN) line ++ codes " .."

-- "NUMBER: FIRST WORDS: WHAT"
abbrev pub report_line : ℕ → List ℕ → List ℕ → List ℕ
report_line number line what = decimal number ++ (codes ": " ++ (first_words line ++ (codes ": " ++ what)))

-- for a refused line why it was refused, for any other line nothing
abbrev pub report_on_refusal : ℕ → List ℕ → Option (List ℕ) → List ℕ
report_on_refusal number line None = []
report_on_refusal number line (Some refusal) = report_line number line refusal

-- "TENANT stopped, overrun TASK" and LF
abbrev pub text_of_overrun : Overrun → List ℕ
text_of_overrun o = o.tenant ++ (codes " stopped, overrun " ++ (o.task ++ 10 ∷ []))

abbrev pub report_on_overrun : ℕ → List ℕ → Overrun → List ℕ
report_on_overrun number line o = report_line number line (text_of_overrun o)

-- a line that was answered: its number, its text, why it was refused, if it was, with LF, and the overruns at the instant that it gave
pub record ReportedLine : Type 0 where
  pub number : ℕ
  pub text : List ℕ
  pub refusal : Option (List ℕ)
  pub overruns : List Overrun

-- a line for a refusal, and one for each overrun
abbrev pub report_on_line : ReportedLine → List ℕ
report_on_line line = report_on_refusal line.number line.text line.refusal ++ flat_map (report_on_overrun line.number line.text) line.overruns

-- what is reported about these lines
abbrev pub report_on_lines : List ReportedLine → List ℕ
report_on_lines lines = flat_map report_on_line lines

-- what is reported about a line that is too long or not UTF-8
abbrev pub report_on_end : ℕ → List ℕ
report_on_end number = decimal number ++ codes ": longer than 16384 bytes or not UTF-8: it ends the script\n"
