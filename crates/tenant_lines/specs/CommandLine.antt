-- The command that a line spells.
use Rattle.std.specs.Prelude.{ℕ, ◌&&◌, if◌then◌else◌, List, [], ◌∷◌, drop, Option, Some, None, codes}
use Rattle.std.specs.List.{before_first, after_first}
use Rattle.std.specs.Option.{option_and_then, option_map}
use Rattle.giotto_tasks.specs.Names.{same_name}
use Rattle.giotto_text.specs.Bytes.{is_name}
use Rattle.tenant_lines.specs.declared.commands.Command.{Command}
use Rattle.tenant_lines.specs.declared.commands.Command.TheVariants.{Load, Replace, Start, Stop, ShowMode, ShowPort, ShowAll, Trace, Grants}
use Rattle.tenant_lines.specs.declared.ports.PortName.{PortName}
use Rattle.tenant_lines.specs.GrantLines.{grant_command_of_words}
use Rattle.tenant_lines.specs.Words.{is_dot, words_of, first_word_of, behind_first_word}

-- TASK and NAME, as the name of a port
abbrev pub own_port_of : List ℕ → List ℕ → Option PortName
own_port_of t x = if is_name t && is_name x then Some (record { task = Some t; name = x }) else None

-- a word as the name of a port: NAME, or TASK.NAME, cut at its first dot
abbrev pub port_of_word : List ℕ → Option PortName
port_of_word w =
    if is_name w then Some (record { task = None; name = w })
    else own_port_of (before_first is_dot w) (after_first is_dot w)

-- the command, if no word follows it
abbrev pub alone : Command → List (List ℕ) → Option Command
alone c [] = Some c
alone c (w ∷ ws) = None

-- after "show port": the name of a port
abbrev pub port_shown_by : List (List ℕ) → Option Command
port_shown_by [] = None
port_shown_by (w ∷ ws) = option_and_then (λ x. alone (ShowPort x) ws) (port_of_word w)

-- after "show": "mode", "all", or "port" and the name of a port
abbrev pub shown_by : List (List ℕ) → Option Command
shown_by [] = None
shown_by (w ∷ ws) =
    if same_name w (codes "mode") then alone ShowMode ws
    else if same_name w (codes "all") then alone ShowAll ws
    else if same_name w (codes "port") then port_shown_by ws
    else None

-- "start", "stop", "show mode", "show all", "show port NAME", "show port TASK.NAME", "trace", or a command about grants
abbrev pub command_of_words : List (List ℕ) → Option Command
command_of_words [] = None
command_of_words (w ∷ ws) =
    if same_name w (codes "start") then alone Start ws
    else if same_name w (codes "stop") then alone Stop ws
    else if same_name w (codes "show") then shown_by ws
    else if same_name w (codes "trace") then alone Trace ws
    else option_map Grants (grant_command_of_words (w ∷ ws))

-- the text of a command: all that follows the one blank after its first word, or nothing
abbrev pub text_behind : List ℕ → List ℕ
text_behind line = drop 1 (behind_first_word line)

-- "load TEXT", "replace TEXT", or another command by its words
abbrev pub command_of_line : List ℕ → Option Command
command_of_line line =
    if same_name (first_word_of line) (codes "load") then Some (Load (text_behind line))
    else if same_name (first_word_of line) (codes "replace") then Some (Replace (text_behind line))
    else command_of_words (words_of line)
