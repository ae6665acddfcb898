-- The reading of a command's text, next to the command.
use Rattle.std.specs.Prelude.{◌≡◌, ℕ, List, [], Option, Result, IfSome}
use Rattle.rig_model.specs.text.Program.{GiottoProgram}
use Rattle.rig_model.specs.declared.lines.commands.Command.{Command}
use Rattle.rig_model.specs.declared.lines.commands.Command.TheVariants.{Load, Replace, Start, Stop, ShowMode, ShowPort, ShowAll, Grants}
use Rattle.rig_model.specs.declared.lines.commands.Command.TheVariants as command
use Rattle.rig_model.specs.declared.lines.replies.Refusal.{Refusal}
use Rattle.rig_model.specs.Admission.{program_of}

-- if a text was read, the reading is what the text spells: a program, or the reason why there is none
abbrev pub IsReadingOf : List ℕ → Option (Result GiottoProgram Refusal) → Type 0
IsReadingOf text reading = IfSome reading (λ read. program_of text ≡ read)

-- the text of a command; only `load` and `replace` have one
abbrev pub text_of : Command → List ℕ
text_of (Load text) = text
text_of (Replace text) = text
text_of Start = []
text_of Stop = []
text_of ShowMode = []
text_of (ShowPort x) = []
text_of ShowAll = []
text_of command.Trace = []
text_of (Grants c) = []

-- if the text of a command was read, the reading is what the text spells
abbrev pub IsRead : Command → Option (Result GiottoProgram Refusal) → Type 0
IsRead command reading = IsReadingOf (text_of command) reading
