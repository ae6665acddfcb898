-- Findings that are shown one by one.
use Rattle.std.proofs.Common.{◌≡◌, ◌+◌, ◌<◌, ℕ, List, [], ◌∷◌, ◌++◌, length, take, get_or, refl, sym, ap, subst, ◌∙◌, append_assoc, append-nil}
use Rattle.std.proofs.lemmas.List.{take_more}
use Rattle.giotto_faults.specs.declared.findings.Finding.{Finding}
use Rattle.giotto_breaks.specs.faults.Findings.{BeginsWith, head_of}
use Rattle.giotto_reports.specs.Reports.{AreShown}

module _ (file source : List ℕ) where
  shown_more : (fs : List Finding) (f : Finding) (text part : List ℕ) → AreShown file source fs text → BeginsWith (head_of f file source) part → AreShown file source (fs ++ f ∷ []) (text ++ part)
  shown_more [] f text part are begins = (part, [], ap (λ (t : List ℕ). t ++ part) are ∙ sym (append-nil part), begins, refl)
  shown_more (g ∷ gs) f text part are begins =
      (are.0, are.1 ++ part, ap (λ (t : List ℕ). t ++ part) are.2 ∙ append_assoc are.0 are.1 part, are.3, shown_more gs f are.1 part are.4 begins)

  -- a loop over findings, one finding further
  pub shown_further : (fs : List Finding) (i : ℕ) (f : Finding) (before part after : List ℕ) → AreShown file source (take i fs) before → i < length fs → f ≡ get_or fs i f
      → BeginsWith (head_of f file source) part → after ≡ before ++ part → AreShown file source (take (i + 1) fs) after
  shown_further fs i f before part after are within item begins grown =
      let taken : take (i + 1) fs ≡ take i fs ++ f ∷ [] = take_more fs i f within ∙ ap (λ (g : Finding). take i fs ++ g ∷ []) (sym item) in
      subst (λ (gs : List Finding). AreShown file source gs after) (sym taken)
      (subst (λ (t : List ℕ). AreShown file source (take i fs ++ f ∷ []) t) (sym grown) (shown_more (take i fs) f before part are begins))
