-- The bytes of the lines that a client sends.
use Rattle.std.specs.Prelude.{ℕ, List, ◌++◌, codes}
use Rattle.giotto_reports.specs.Comments.{one_line}
use Rattle.rig_client.specs.declared.user_lines.FileCommand.{FileCommand}
use Rattle.rig_client.specs.declared.user_lines.FileCommand.TheVariants.{Load, Replace}

abbrev pub word_of_command : FileCommand → List ℕ
word_of_command Load = codes "load"
word_of_command Replace = codes "replace"

-- a command with the text of a file, as one line
abbrev pub line_of_file : FileCommand → List ℕ → List ℕ
line_of_file command text = word_of_command command ++ (codes " " ++ one_line text)

-- the greeting of a tenant with this name and this key
abbrev pub greeting : List ℕ → List ℕ → List ℕ
greeting name key = codes "hello " ++ (name ++ (codes " " ++ key))
