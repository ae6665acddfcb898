-- The hunks of a run, one line further.
use Rattle.std.proofs.Common.{◌≡◌, ◌+◌, ◌-◌, ◌<◌, ◌≤◌, ℕ, true, false, List, [], ◌∷◌, ◌++◌, length, drop, get_or, refl, sym, ap, ◌∙◌, append_assoc, append-nil, ◌==◌, Result, IfOk, String, Global, string_bytes, codes}
use Rattle.std.proofs.lemmas.List.{drop_more, drop_all}
use Rattle.giotto_tasks.specs.Names.{same_name}
use Rattle.script_reports.specs.cited.Runs.{RunEntry}
use Rattle.script_reports.specs.inner.Differences.{hunk, hunks_from, lines_in, plus, text_of_differences}

module _ (replies : List (List ℕ)) (lines : List RunEntry) (place came wanted : ℕ) (line : RunEntry) (there : place < length lines) (item : line ≡ get_or lines place line) where
  front : drop place lines ≡ line ∷ drop (place + 1) lines
  front = drop_more lines place line there ∙ ap (λ (l : RunEntry). l ∷ drop (place + 1) lines) (sym item)

  -- a line whose reply is the one that it should get
  pub same_further : (before all : List ℕ) → same_name (get_or replies place []) line.reply ≡ true → before ++ hunks_from replies place came wanted (drop place lines) ≡ all
      → before ++ hunks_from replies (place + 1) came wanted (drop (place + 1) lines) ≡ all
  same_further before all same h =
      let here : hunks_from replies place came wanted (drop place lines) ≡ hunks_from replies (place + 1) came wanted (drop (place + 1) lines) = rw (front, same) refl in
      sym (ap (λ t. before ++ t) here) ∙ h

  -- a line with a different reply
  pub differs_further : (reply before told after all : List ℕ) (came_now wanted_now : ℕ) → reply ≡ get_or replies place [] → same_name (get_or replies place []) line.reply ≡ false
      → told ≡ hunk line reply (plus line.number came - wanted) → came_now ≡ plus came (lines_in reply) → wanted_now ≡ plus wanted (lines_in line.reply) → after ≡ before ++ told
      → before ++ hunks_from replies place came wanted (drop place lines) ≡ all → after ++ hunks_from replies (place + 1) came_now wanted_now (drop (place + 1) lines) ≡ all
  differs_further reply before told after all came_now wanted_now is other tells c w grown h =
      let later = hunks_from replies (place + 1) came_now wanted_now (drop (place + 1) lines) in
      let here : hunks_from replies place came wanted (drop place lines) ≡ told ++ later = rw (front, other, tells, c, w, is) refl in
      ap (λ t. t ++ later) grown ∙ (append_assoc before told later ∙ (sym (ap (λ t. before ++ t) here) ∙ h))

-- after the last line
pub at_end : (replies : List (List ℕ)) (lines : List RunEntry) (place came wanted : ℕ) (before all : List ℕ) → length lines ≤ place → before ++ hunks_from replies place came wanted (drop place lines) ≡ all → before ≡ all
at_end replies lines place came wanted before all ended h =
    let none : hunks_from replies place came wanted (drop place lines) ≡ [] = rw (drop_all place lines ended) refl in sym (append-nil before) ∙ (sym (ap (λ t. before ++ t) none) ∙ h)

-- with the name of the run, if there are hunks
pub with_name : {E : Type 0} (r : Result (String Global) E) (name : List ℕ) (lines : List RunEntry) (replies : List (List ℕ)) (hunks : List ℕ) → hunks ≡ hunks_from replies 0 0 0 lines → false ≡ (length hunks == 0)
    → IfOk r (λ text. string_bytes text ≡ codes "--- " ++ (name ++ (codes "\n+++ " ++ (name ++ (codes " (as answered)\n" ++ hunks))))) → IfOk r (λ text. string_bytes text ≡ text_of_differences name lines replies)
with_name r name lines replies [] is some h = absurd (cc)
with_name r name lines replies (c ∷ cs) is some h = rw (sym is) h
