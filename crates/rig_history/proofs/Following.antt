-- A log's text, one entry after the other.
use Rattle.std.proofs.Common.{◌≡◌, ◌<◌, ◌^◌, ℕ, ◌+◌, List, [], ◌∷◌, ◌++◌, length, drop, get_or, sym, ap, subst, ◌∙◌, append_assoc, drop-cons, suc, arith}
use Rattle.rig_model.specs.config.Roster.{Rig}
use Rattle.rig_model.specs.declared.logged.Logged.{Logged}
use Rattle.rig_history.specs.Entries.{text_of_entry, text_of_log, tick_after}
use Rattle.rig_history.specs.Pieces.{tick_after_log}
use Rattle.rig_history.proofs.cited.LogTexts.{not_before_log}

-- the entries from the i-th on are written after this text; `tick` is the number of the next instant before them
abbrev pub GoesOn : Rig → ℕ → List Logged → List ℕ → ℕ → List Logged → Type 0
GoesOn rig first log text tick rest = tick_after_log first log < 2 ^ 64 → (text ++ text_of_log rig tick rest ≡ text_of_log rig first log) × (tick_after_log tick rest ≡ tick_after_log first log)

pub further : (rig : Rig) (first : ℕ) (log : List Logged) (i : ℕ) (e : Logged) (text more : List ℕ) (tick next : ℕ) → i < length log → e ≡ get_or log i e
    → GoesOn rig first log text tick (drop i log) → more ≡ text ++ text_of_entry rig tick e → (tick_after tick e < 2 ^ 64 → next ≡ tick_after tick e)
    → GoesOn rig first log more next (drop (i + 1) log)
further rig first log i e text more tick next within item so_far added is few =
    let one_more : suc i ≡ i + 1 = omega arith in
    let rest : drop i log ≡ e ∷ drop (i + 1) log = drop-cons log i e within ∙ ap (λ k. get_or log i e ∷ drop k log) one_more ∙ ap (λ x. x ∷ drop (i + 1) log) (sym item) in
    let done = subst (λ r. (text ++ text_of_log rig tick r ≡ text_of_log rig first log) × (tick_after_log tick r ≡ tick_after_log first log)) rest (so_far few) in
    let low : tick_after_log (tick_after tick e) (drop (i + 1) log) < 2 ^ 64 = subst (λ n. n < 2 ^ 64) (sym done.1) few in
    let later = not_before_log (tick_after tick e) (drop (i + 1) log) in
    let next_is : next ≡ tick_after tick e = is (omega (arith, low, later)) in
    let written : more ++ text_of_log rig (tick_after tick e) (drop (i + 1) log) ≡ text_of_log rig first log =
    ap (λ t. t ++ text_of_log rig (tick_after tick e) (drop (i + 1) log)) added ∙ append_assoc text (text_of_entry rig tick e) (text_of_log rig (tick_after tick e) (drop (i + 1) log)) ∙ done.0 in
    subst (λ n. (more ++ text_of_log rig n (drop (i + 1) log) ≡ text_of_log rig first log) × (tick_after_log n (drop (i + 1) log) ≡ tick_after_log first log)) (sym next_is) (written, done.1)
