-- What the client writes below an answer about the line that was answered, one row for what is wrong and one for how to fix it.
use Rattle.std.specs.Prelude.{ℕ, ◌||◌, nat_eq, if◌then◌else◌, List, [], ◌∷◌, ◌++◌, Option, Some, None, codes}
use Rattle.std.specs.List.{starts_with}
use Rattle.giotto_tasks.specs.Names.{same_name}
use Rattle.rig_model.specs.lines.Words.{behind_first_word, first_word_of}
use Rattle.script_checks.specs.Commands.{forms_of}
use Rattle.similar_words.specs.Distances.{nearest_of}

-- the words that begin lines of a client's user, and those after `show`
abbrev pub words_of_user : List (List ℕ)
words_of_user =
    codes "load" ∷ codes "replace" ∷ codes "start" ∷ codes "stop" ∷ codes "show" ∷ codes "trace" ∷ codes "offer" ∷ codes "unoffer" ∷ codes "bind"
    ∷ codes "unbind" ∷ codes "rows" ∷ codes "quit" ∷ codes "help" ∷ []

abbrev pub words_of_show : List (List ℕ)
words_of_show = codes "mode" ∷ codes "port" ∷ codes "all" ∷ []

-- the forms of the user's lines that begin with this word
abbrev pub forms_for : List ℕ → Option (List ℕ)
forms_for word = if same_name word (codes "quit") || same_name word (codes "help") then Some (codes "nothing comes after this word") else forms_of word

-- `show`, with the word that may be meant by the word after it
abbrev pub shown_by : Option (List ℕ) → List ℕ
shown_by None = codes "show"
shown_by (Some word) = codes "show " ++ word

-- the command that may be meant by this word, and by the text after it if that is `show`
abbrev pub meant_with : List ℕ → Option (List ℕ) → Option (List ℕ)
meant_with rest None = None
meant_with rest (Some word) = if same_name word (codes "show") then Some (shown_by (nearest_of (first_word_of rest) words_of_show)) else Some word

-- the command that may be meant by a line
abbrev pub meant_by : List ℕ → Option (List ℕ)
meant_by line = meant_with (behind_first_word line) (nearest_of (first_word_of line) words_of_user)

abbrev pub help_on : Option (List ℕ) → List ℕ
help_on None = codes "`help` lists the commands"
help_on (Some command) = codes "did you mean `" ++ (command ++ codes "`?")

-- what is wrong with a line that is no command, if it begins with this word, and these are the word's forms
abbrev pub remark_on_forms : List ℕ → List ℕ → Option (List ℕ) → List ℕ
remark_on_forms line word (Some forms) = codes "error: this is none of the forms of `" ++ (word ++ (codes "`\n = help: " ++ (forms ++ codes "\n")))
remark_on_forms line word None = codes "error: `" ++ (word ++ (codes "` is no command\n = help: " ++ (help_on (meant_by line) ++ codes "\n")))

abbrev pub remark_on_command : List ℕ → List ℕ
remark_on_command line = remark_on_forms line (first_word_of line) (forms_for (first_word_of line))

-- what a refusal means that isn't explained by the line
abbrev pub remark_on_refusal : List ℕ → Option (List ℕ)
remark_on_refusal answer =
    if same_name answer (codes "err who\n") then Some (codes "error: the server has no tenant with this name and this key\n")
    else (if same_name answer (codes "err budget offers\n") || same_name answer (codes "err budget binds\n")
    then Some (codes "error: the tenant has as many of these as it may have\n = help: `rows` lists them, `unoffer` and `unbind` remove them\n")
    else (if starts_with nat_eq answer (codes "err budget ")
    then Some (codes "error: the program exceeds this budget of the tenant\n = help: `rig_host check` with `--config` and `--tenant` says by how much\n") else None))

-- what is written below the answer to a line, if anything is
abbrev pub remark_on : List ℕ → List ℕ → Option (List ℕ)
remark_on line answer = if same_name answer (codes "err bad-command\n") then Some (remark_on_command line) else remark_on_refusal answer
