-- The script of a run with each line at its own number, one line further.
use Rattle.std.proofs.Common.{◌≡◌, ◌+◌, ◌<◌, ◌≤◌, ℕ, List, [], ◌∷◌, ◌++◌, length, drop, get_or, refl, sym, ap, ◌∙◌, append_assoc, append-nil, codes}
use Rattle.std.proofs.lemmas.List.{drop_more, drop_all}
use Rattle.script_reports.specs.cited.Runs.{RunEntry, placed_line, placed_from, placed_script_of}

-- the script of a run whose first line is a remark, and whose third is a reply
placed_below_a_remark : placed_script_of (record { number = 2; text = codes "op work"; reply = codes "op ok work 0" } ∷ record { number = 4; text = codes "op lines"; reply = [] } ∷ []) ≡ codes "\nop work\n\nop lines\n"
placed_below_a_remark = refl

-- one more line
pub line_placed : (lines : List RunEntry) (place count : ℕ) (line : RunEntry) (before after all : List ℕ) → place < length lines → line ≡ get_or lines place line → after ≡ before ++ placed_line count line
    → before ++ placed_from count (drop place lines) ≡ all → after ++ placed_from line.number (drop (place + 1) lines) ≡ all
line_placed lines place count line before after all there item grown h =
    let front : drop place lines ≡ line ∷ drop (place + 1) lines = drop_more lines place line there ∙ ap (λ (l : RunEntry). l ∷ drop (place + 1) lines) (sym item) in
    let later = placed_from line.number (drop (place + 1) lines) in
    let here : placed_from count (drop place lines) ≡ placed_line count line ++ later = rw front refl in
    ap (λ t. t ++ later) grown ∙ (append_assoc before (placed_line count line) later ∙ (sym (ap (λ t. before ++ t) here) ∙ h))

-- after the last line
pub all_placed : (lines : List RunEntry) (place count : ℕ) (before all : List ℕ) → length lines ≤ place → before ++ placed_from count (drop place lines) ≡ all → before ≡ all
all_placed lines place count before all ended h =
    let none : placed_from count (drop place lines) ≡ [] = rw (drop_all place lines ended) refl in
    sym (append-nil before) ∙ (sym (ap (λ t. before ++ t) none) ∙ h)
