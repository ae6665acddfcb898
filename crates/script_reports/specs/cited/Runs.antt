-- Runs: scripts with the reply that each line should get.
use Rattle.std.specs.Prelude.{◌≡◌, ℕ, ◌+◌, ◌-◌, ◌==◌, nat_eq, nat_lt, Bool, true, false, if◌then◌else◌, List, [], ◌∷◌, ◌++◌, drop, length, get_or, Option, Some, None, Result, Ok, Err, Vec, codes}
use Rattle.std.specs.List.{before_first, flat_map, position_or_len, repeat, slice_split, starts_with}
use Rattle.std.specs.Str.{trim}
use Rattle.std.specs.Str.Lines.{strip_carriage_return}
use Rattle.std.specs.declared.alloc.Global.{Global}
use Rattle.script_reports.specs.declared.runs.RunFault.{RunFault}
use Rattle.script_reports.specs.declared.runs.RunFault.TheVariants.{NoLine, Memory}

-- a line of a script, with its number in the file and the reply that it should get; the reply is empty if there should be none
pub record RunEntry : Type 0 where
  pub number : ℕ
  pub text : List ℕ
  pub reply : List ℕ

-- the lines of a file
abbrev pub parts_of : List ℕ → List (List ℕ)
parts_of text = slice_split (λ c. c == 10) text

-- four blanks, and more
abbrev pub is_reply : List ℕ → Bool
is_reply (a ∷ b ∷ c ∷ d ∷ e ∷ more) = if a == 32 then (if b == 32 then (if c == 32 then d == 32 else false) else false) else false
is_reply part = false

-- an empty line, also with a CR, or one that begins with `#`
abbrev pub is_remark : List ℕ → Bool
is_remark [] = true
is_remark (c ∷ []) = if c == 13 then true else c == 35
is_remark (c ∷ d ∷ cs) = c == 35

-- the reply that a line of a file is, without its blanks and a CR at its end; nothing if the line is not a reply
abbrev pub reply_in : List ℕ → List ℕ
reply_in part = if is_reply part then strip_carriage_return (drop 4 part) else []

-- this entry in front of the others, if there is no fault after it
abbrev pub with_entry : RunEntry → Result (List RunEntry) ℕ → Result (List RunEntry) ℕ
with_entry entry (Ok entries) = Ok (entry ∷ entries)
with_entry entry (Err number) = Err number

-- The lines of the script among the lines of a file from a place on, or the number of the first reply that is right below none of
-- them. A reply is awaited after a line of the script.
abbrev pub entries_from : Bool → ℕ → List (List ℕ) → Result (List RunEntry) ℕ
entries_from awaited place [] = Ok []
entries_from awaited place (part ∷ parts) =
    if is_reply part then (if awaited then entries_from false (place + 1) parts else Err (place + 1))
    else (if is_remark part then entries_from false (place + 1) parts
    else with_entry (record { number = place + 1; text = part; reply = reply_in (get_or parts 0 []) }) (entries_from true (place + 1) parts))

abbrev pub entries_of : List ℕ → Result (List RunEntry) ℕ
entries_of text = entries_from false 0 (parts_of text)

-- these lines were read, or this fault was reported; nothing is said if an allocation fails
abbrev pub IsReadAs : Result (List RunEntry) ℕ → Result (Vec RunEntry Global) RunFault → Type 0
IsReadAs wanted (Ok lines) = wanted ≡ Ok lines.items
IsReadAs wanted (Err (NoLine number)) = wanted ≡ Err number
IsReadAs wanted (Err Memory) = Unit {0}

-- the lines of the script, each with LF
abbrev pub script_of : List RunEntry → List ℕ
script_of lines = flat_map (λ (l : RunEntry). l.text ++ 10 ∷ []) lines

-- a line with its LF, as it follows this many lines: after an LF for each line of the file between them
abbrev pub placed_line : ℕ → RunEntry → List ℕ
placed_line count line = repeat ((line.number - 1) - count) (codes "\n") ++ (line.text ++ codes "\n")

-- these lines of the script, as they follow this many lines, each at its own number
abbrev pub placed_from : ℕ → List RunEntry → List ℕ
placed_from count [] = []
placed_from count (line ∷ lines) = placed_line count line ++ placed_from line.number lines

-- the lines of the script, each with LF and at its own number
abbrev pub placed_script_of : List RunEntry → List ℕ
placed_script_of lines = placed_from 0 lines

-- a reply without its LF
abbrev pub line_in : List ℕ → List ℕ
line_in reply = before_first (λ c. c == 10) reply

-- the path that a first line "# --config PATH" names, without the white space around it; a first line ends with LF
abbrev pub path_in : List ℕ → Option (List ℕ)
path_in line = if starts_with nat_eq line (codes "# --config ") then Some (trim (drop 11 line)) else None

-- the configuration that a run names in its first line
abbrev pub configuration_of : List ℕ → Option (List ℕ)
configuration_of text = if nat_lt (position_or_len (λ c. c == 10) text) (length text) then path_in (before_first (λ c. c == 10) text) else None

-- the first line of a run whose configuration has this path, with LF; nothing without a path
abbrev pub first_line_of : Option (List ℕ) → List ℕ
first_line_of None = []
first_line_of (Some path) = codes "# --config " ++ (path ++ codes "\n")
