-- A script that is read line by line, one line further and to its end.
use Rattle.std.proofs.Common.{◌≡◌, ◌+◌, ◌<◌, ◌==◌, ◌∙◌, ℕ, Bool, true, false, List, [], ◌∷◌, ◌++◌, Option, Some, None, IfSome, length, refl, sym, ap, subst, append-nil, arith}
use Rattle.std.proofs.lemmas.Bool.Decides.{nat_tests}
use Rattle.std.proofs.lemmas.List.{length_push, nil_from_length}
use Rattle.std.specs.Io.KnownBytes.{Consumes}
use Rattle.giotto_reports.specs.declared.Report.{Report}
use Rattle.rig_model.specs.config.Roster.{Rig}
use Rattle.rig_model.specs.TextLines.{cut}
use Rattle.script_checks.specs.Reports.{IsReportOf, IsReportOfAll}
use Rattle.script_checks.specs.declared.scripts.CheckedLines.{CheckedLines}
use Rattle.script_checks.specs.inner.Reading.{AreChecked, IsNextLine, IsReadSoFar}
use Rattle.script_checks.proofs.Cutting.{all_taken, cut_more, cut_to_end, taken_both}

-- whether a line has bytes
pub no_bytes : (line : List ℕ) (len : ℕ) (empty : Bool) → len ≡ length line → empty ≡ (len == 0) → empty ≡ true → line ≡ []
no_bytes line len empty is test none = nil_from_length line (let zero : len ≡ 0 = grind (arith, nat_tests, test, none) in omega (arith, is, zero))

pub has_bytes : (line : List ℕ) (len : ℕ) (empty : Bool) → len ≡ length line → empty ≡ (len == 0) → empty ≡ false → 0 < length line
has_bytes line len empty is test some = let more : 0 < len = grind (arith, nat_tests, test, some) in omega (arith, is, more)

nothing_taken : (o : Option (List ℕ)) → Consumes o o []
nothing_taken None = tt
nothing_taken (Some xs) = refl

module _ (config : Rig) (file : List ℕ) (old : Option (List ℕ)) where
  pub begun : (checked : CheckedLines) → AreChecked config file [] checked → IsReadSoFar config file old 0 old checked
  begun checked none = ([], [], nothing_taken old, refl, λ rest. refl, none)

  module _ (count : ℕ) (now new : Option (List ℕ)) (line : List ℕ) (before : CheckedLines) (so_far : IsReadSoFar config file old count now before) where
    -- a line that ends with LF
    pub one_line : (after : CheckedLines) → IsNextLine now new true line
        → ((lines : List (List ℕ)) → length lines + 1 ≡ count + 1 → AreChecked config file lines before → AreChecked config file (lines ++ line ∷ []) after) → IsReadSoFar config file old (count + 1) new after
    one_line after next adds =
        let taken = so_far.0 in
        let lines = so_far.1 in
        (taken ++ (line ++ 10 ∷ []), lines ++ line ∷ [], taken_both old now new taken (line ++ 10 ∷ []) so_far.2 next.1, length_push lines line ∙ ap (λ n. n + 1) so_far.3, cut_more taken line lines so_far.4 next.0, adds lines (ap (λ n. n + 1) so_far.3) so_far.5)

    -- the end, after an LF or at the start
    pub at_end : (report : Report) → IsNextLine now new false line → line ≡ [] → ((lines : List (List ℕ)) → length lines ≡ count → AreChecked config file lines before → IsReportOf config file lines report)
        → IsReportOfAll config file old report
    at_end report next empty reports =
        let taken = so_far.0 in
        let lines = so_far.1 in
        let all = all_taken old now new taken line so_far.2 next.1 (next.2 refl) in
        let same : taken ++ line ≡ taken = ap (λ (l : List ℕ). taken ++ l) empty ∙ append-nil taken in
        let are : cut taken ≡ lines = ap cut (sym (append-nil taken)) ∙ (so_far.4 [] ∙ append-nil lines) in
        (taken, subst (λ (bytes : List ℕ). IfSome old (λ all. all ≡ bytes)) same all, subst (λ (l : List (List ℕ)). IsReportOf config file l report) (sym are) (reports lines so_far.3 so_far.5))

    -- the end, after a last line without LF
    pub at_last : (after : CheckedLines) (report : Report) → IsNextLine now new false line → 0 < length line
        → ((lines : List (List ℕ)) → length lines + 1 ≡ count + 1 → AreChecked config file lines before → AreChecked config file (lines ++ line ∷ []) after)
        → ((lines : List (List ℕ)) → length lines ≡ count + 1 → AreChecked config file lines after → IsReportOf config file lines report) → IsReportOfAll config file old report
    at_last after report next some adds reports =
        let taken = so_far.0 in
        let lines = so_far.1 in
        let all = all_taken old now new taken line so_far.2 next.1 (next.2 refl) in
        let are : cut (taken ++ line) ≡ lines ++ line ∷ [] = cut_to_end taken line lines so_far.4 next.0 some in
        let checked = adds lines (ap (λ n. n + 1) so_far.3) so_far.5 in
        (taken ++ line, all, subst (λ (l : List (List ℕ)). IsReportOf config file l report) (sym are) (reports (lines ++ line ∷ []) (length_push lines line ∙ ap (λ n. n + 1) so_far.3) checked))
