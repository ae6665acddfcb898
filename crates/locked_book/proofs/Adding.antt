-- The exchange of a history's word keeps the rule: it adds the entry, or finds that the history is longer.
use Rattle.std.proofs.Common.{◌≡◌, ℕ, ◌+◌, ◌<◌, ◌==◌, Bool, true, false, List, [], ◌∷◌, ◌++◌, length, refl, ap, sym, subst, arith, inl, length-append, None}
use Rattle.std.proofs.lemmas.List.{append-nil}
use Rattle.std.proofs.lemmas.Bool.Decides.{nat_tests}
use mathlib.Core.List.{IsPrefix}
use prog.Atomic.{either}
use Rattle.logbook.specs.Pages.{Cell, cell, keeps, no_nib, step, Moves, Goes}
use Rattle.rig_model.specs.declared.logged.Logged.{Logged}
use Rattle.locked_book.specs.inner.Rules.{IsKept, Adds}
use Rattle.locked_book.proofs.Prefixes.{as_long_is_all}

abbrev pub shown : List Logged → List Logged
shown log = []

abbrev pub moved : List Logged → List Logged → ℕ → Type 0
moved xs ys n = Unit {0}

-- how the step goes on if the history is this one, by whether it is as long as what was seen
pub goes_on : (log seen : List Logged) (e : Logged) (old : ℕ) → length seen ≡ old → IsPrefix seen log → (b : Bool) → (length log == old) ≡ b
    → Goes IsKept shown moved 0 (seen, (no_nib, None)) (λ n. either (n == old) (old + 1) n) (Adds (step 0 old (old + 1) e) (seen, (no_nib, None))) ((length log, true) ∷ (0, true) ∷ []) log
goes_on log seen e old len begins true is =
    let as_long : length log ≡ old = grind (arith, nat_tests) in
    let all : seen ≡ log = as_long_is_all seen log begins (omega arith) in
    let word : either (length log == old) (old + 1) (length log) ≡ length (log ++ e ∷ []) = rw is (omega (arith, length-append log (e ∷ []))) in
    (keeps, e ∷ [], None, tt, ap (λ (n : ℕ). (n, true) ∷ (0, true) ∷ []) word, inl (refl, refl), rw is (ap (λ w. w ++ e ∷ []) (sym all)))
goes_on log seen e old len begins false is =
    let same : log ++ [] ≡ log = append-nil log in
    let word : either (length log == old) (old + 1) (length log) ≡ length (log ++ []) = rw is (ap length (sym same)) in
    (keeps, [], None, tt, ap (λ (n : ℕ). (n, true) ∷ (0, true) ∷ []) word, inl (refl, refl), rw is (ap length same))

-- how the step goes on, whatever the history is
pub adds : (seen : List Logged) (e : Logged) (old : ℕ) → length seen ≡ old
    → Moves IsKept shown moved 0 (seen, (no_nib, None)) (λ n. either (n == old) (old + 1) n) (Adds (step 0 old (old + 1) e) (seen, (no_nib, None)))
adds seen e old len cells log kept begins away =
    let P : List Cell → Type 0 = λ c. (0 < length c) × ((cell c 0).1 ≡ true) × Goes IsKept shown moved 0 (seen, (no_nib, None)) (λ n. either (n == old) (old + 1) n) (Adds (step 0 old (old + 1) e) (seen, (no_nib, None))) c log in
    subst P (sym kept) (omega arith, refl, goes_on log seen e old len begins (length log == old) refl)
