-- The lines of an operator: in a script after "op", in a server alone.
use Rattle.std.specs.Prelude.{ℕ, ℤ, if◌then◌else◌, List, [], ◌∷◌, Option, Some, None, codes}
use Rattle.giotto_tasks.specs.declared.names.Name.{Name}
use Rattle.giotto_tasks.specs.Names.{same_name}
use Rattle.giotto_rules.specs.text.Bytes.{is_name}
use Rattle.tenant_lines.specs.Words.{values_of_words, words_of}
use Rattle.rig_model.specs.declared.operator_lines.OperatorLine.{OperatorLine}
use Rattle.rig_model.specs.declared.operator_lines.OperatorLine.TheVariants as code

-- A script refuses "wait", "archive" and "halt", and a server refuses "work".
pub data OperatorForm : Type 0 where
  blank : OperatorForm
  -- the input value of each line of the rig
  tick : List ℤ → OperatorForm
  line_values : OperatorForm
  work : OperatorForm
  -- by the tenant's name
  work_of : Name → OperatorForm
  settle : OperatorForm
  archive : OperatorForm
  halt : OperatorForm
  bad_command : OperatorForm

-- a "tick" with these values, unless one of its words has none
abbrev pub tick_of : Option (List ℤ) → OperatorForm
tick_of None = bad_command
tick_of (Some zs) = tick zs

-- "tick V ..", "lines", "work", "work TENANT", "wait", "archive" or "halt"
abbrev pub operator_line_of : List (List ℕ) → OperatorForm
operator_line_of [] = blank
operator_line_of (w ∷ ws) =
    if same_name w (codes "tick") then tick_of (values_of_words ws)
    else (if same_name w (codes "lines") then alone line_values ws
    else (if same_name w (codes "work") then works ws
    else (if same_name w (codes "wait") then alone settle ws
    else (if same_name w (codes "archive") then alone archive ws
    else (if same_name w (codes "halt") then alone halt ws else bad_command)))))
  where
    works : List (List ℕ) → OperatorForm
    works [] = work
    works (x ∷ []) = if is_name x then work_of x else bad_command
    works (x ∷ y ∷ ys) = bad_command

    alone : OperatorForm → List (List ℕ) → OperatorForm
    alone line [] = line
    alone line (x ∷ xs) = bad_command

-- the form of a line that was read
abbrev pub form_of : OperatorLine → OperatorForm
form_of code.Blank = blank
form_of (code.Tick rest) = tick_of (values_of_words (words_of rest.now))
form_of code.Lines = line_values
form_of code.Work = work
form_of (code.WorkOf name) = work_of name.now
form_of code.Wait = settle
form_of code.Archive = archive
form_of code.Halt = halt
form_of code.BadCommand = bad_command
