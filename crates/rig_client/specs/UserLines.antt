-- What a line of a client's user is.
use Rattle.std.specs.Prelude.{ℕ, not, ◌&&◌, ◌==◌, nat_eq, if◌then◌else◌, List, drop, length, Option, Some, None, codes}
use Rattle.std.specs.List.{starts_with}
use Rattle.std.specs.Option.{option_map}
use Rattle.giotto_tasks.specs.Names.{same_name}
use Rattle.rig_model.specs.lines.Words.{behind_first_word, first_word_of}
use Rattle.rig_client.specs.declared.user_lines.FileCommand.{FileCommand}
use Rattle.rig_client.specs.declared.user_lines.FileCommand.TheVariants.{Load, Replace}
use Rattle.rig_client.specs.declared.user_lines.UserLine.{UserLine}
use Rattle.rig_client.specs.declared.user_lines.UserLine.TheVariants as lines

pub data LineKind : Type 0 where
  -- has no answer, and isn't sent
  blank : LineKind
  -- is answered by the client
  help : LineKind
  -- a command whose text is that of a file, and its path, if it has just one
  of_file : FileCommand → Option (List ℕ) → LineKind
  -- is sent as it is
  request : LineKind

-- the word of a text, if it has exactly one
abbrev pub sole_word_of : List ℕ → Option (List ℕ)
sole_word_of text =
    if not (length (first_word_of text) == 0) && length (first_word_of (behind_first_word text)) == 0 then Some (first_word_of text) else None

-- the path after `load` or `replace`, in "< PATH" or "<PATH", if there is exactly one
abbrev pub path_of : List ℕ → Option (List ℕ)
path_of rest =
    if length (first_word_of rest) == 1 then sole_word_of (behind_first_word rest)
    else (if length (first_word_of (behind_first_word rest)) == 0 then Some (drop 1 (first_word_of rest)) else None)

-- `load` or `replace`, with this rest after it: the text is that of a file if the next word begins with "<". One word spells no program,
-- so it is a path too.
abbrev pub command_line_of : FileCommand → List ℕ → LineKind
command_line_of command rest = if starts_with nat_eq (first_word_of rest) (codes "<") then of_file command (path_of rest) else of_word (sole_word_of rest)
  where
    of_word : Option (List ℕ) → LineKind
    of_word None = request
    of_word (Some path) = of_file command (Some path)

-- what a line is, by its first word
abbrev pub user_line_of : List ℕ → LineKind
user_line_of line = by (first_word_of line) (behind_first_word line)
  where
    alone : List ℕ → LineKind
    alone rest = if length (first_word_of rest) == 0 then help else request

    by : List ℕ → List ℕ → LineKind
    by word rest =
        if length word == 0 then blank
        else (if same_name word (codes "help") then alone rest
        else (if same_name word (codes "load") then command_line_of Load rest
        else (if same_name word (codes "replace") then command_line_of Replace rest else request)))

-- the kind of a line, as the code has it
abbrev pub kind_of : UserLine → LineKind
kind_of lines.Blank = blank
kind_of lines.Help = help
kind_of (lines.OfFile command path) = of_file command (option_map (λ p. p.now) path)
kind_of lines.Request = request
