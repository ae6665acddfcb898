-- What differs between the replies that a run should get and those that came, in the form of `diff -U0`.
use Rattle.std.specs.Prelude.{ℕ, ◌+◌, ◌-◌, ◌^◌, min, if◌then◌else◌, List, [], ◌∷◌, ◌++◌, get_or, codes}
use Rattle.std.specs.Fmt.{decimal}
use Rattle.giotto_tasks.specs.Names.{same_name}
use Rattle.script_reports.specs.cited.Runs.{RunEntry}
use Rattle.script_reports.specs.cited.Reports.{first_words}

-- a sum that stays at the greatest number of 64 bits
abbrev pub plus : ℕ → ℕ → ℕ
plus m n = min (m + n) (2 ^ 64 - 1)

-- how many lines a reply has
abbrev pub lines_in : List ℕ → ℕ
lines_in [] = 0
lines_in (c ∷ cs) = 1

-- a reply as it is written in a run, after a sign; nothing if there is no reply
abbrev pub change : List ℕ → List ℕ → List ℕ
change sign [] = []
change sign (c ∷ cs) = sign ++ (codes "    " ++ (c ∷ cs ++ 10 ∷ []))

-- the reply that should come, and the one that came
abbrev pub text_of_changes : List ℕ → List ℕ → List ℕ
text_of_changes wanted came = change (codes "-") wanted ++ change (codes "+") came

-- the range of a reply below the line with this number: "NUMBER,0" if there is no reply
abbrev pub range : ℕ → List ℕ → List ℕ
range number [] = decimal number ++ codes ",0"
range number (c ∷ cs) = decimal (plus number 1)

-- the hunk of a line that has this number in the run with the replies that came
abbrev pub hunk : RunEntry → List ℕ → ℕ → List ℕ
hunk line came at =
    codes "@@ -" ++ (range line.number line.reply ++ (codes " +" ++ (range at came ++ (codes " @@ " ++ (first_words line.text ++ (10 ∷ text_of_changes line.reply came))))))

-- The hunks of the lines of a run from a place on: one for each line whose reply isn't the one that it should get. `replies` are
-- those that came to all lines. The hunks before have `came` lines that came, and `wanted` lines that should have come.
module _ (replies : List (List ℕ)) where
  abbrev pub hunks_from : ℕ → ℕ → ℕ → List RunEntry → List ℕ
  hunks_from place came wanted [] = []
  hunks_from place came wanted (line ∷ lines) =
      if same_name (get_or replies place []) line.reply then hunks_from (place + 1) came wanted lines
      else hunk line (get_or replies place []) (plus line.number came - wanted)
      ++ hunks_from (place + 1) (plus came (lines_in (get_or replies place []))) (plus wanted (lines_in line.reply)) lines

-- how many lines of a run, from a place on, have a different reply from the one that they should get
abbrev pub failures_from : List (List ℕ) → ℕ → List RunEntry → ℕ
failures_from replies place [] = 0
failures_from replies place (line ∷ lines) =
    if same_name (get_or replies place []) line.reply then failures_from replies (place + 1) lines else 1 + failures_from replies (place + 1) lines

-- the name of the run, and the hunks of its lines; nothing if there are no hunks
abbrev pub text_of_differences : List ℕ → List RunEntry → List (List ℕ) → List ℕ
text_of_differences name lines replies = by (hunks_from replies 0 0 0 lines)
  where
    by : List ℕ → List ℕ
    by [] = []
    by (c ∷ cs) = codes "--- " ++ (name ++ (codes "\n+++ " ++ (name ++ (codes " (as answered)\n" ++ c ∷ cs))))
