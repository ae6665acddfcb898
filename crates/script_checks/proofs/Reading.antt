-- What was found in the lines that were read, one line further.
use Rattle.std.proofs.Common.{◌≡◌, ◌+◌, ◌||◌, ◌∙◌, ℕ, Bool, true, false, not, List, [], ◌∷◌, ◌++◌, Some, None, is_some, length, refl, sym, ap, subst, append_assoc, append-nil, arith}
use Rattle.std.proofs.lemmas.List.Folds.{list_any-append}
use Rattle.std.specs.List.{list_any}
use Rattle.rig_model.specs.config.Roster.{Rig}
use Rattle.script_checks.specs.Grants.{said_from, said_in_line}
use Rattle.script_checks.specs.Reports.{Adds}
use Rattle.script_checks.specs.Scripts.{fault_of_line, is_good}
use Rattle.script_checks.specs.Told.{IsReportOnLine, IsReportOnLines, TellLine, findings_in}
use Rattle.script_checks.specs.declared.binds.GrantLines.{GrantLines}
use Rattle.script_checks.specs.declared.binds.Said.{Said}
use Rattle.script_checks.specs.declared.lines.Found.{Found}
use Rattle.script_checks.specs.declared.lines.LineFault.{LineFault}
use Rattle.script_checks.specs.inner.Facts.{AreKept}

module _ (config : Rig) where
  is_at_fault : List ℕ → Bool
  is_at_fault line = is_some (fault_of_line config line)

  -- a line that isn't at fault
  pub good_line : (lines : List (List ℕ)) (line : List ℕ) → fault_of_line config line ≡ None → is_good config lines ≡ is_good config (lines ++ line ∷ [])
  good_line lines line none =
      let here : list_any (λ l. is_some (fault_of_line config l)) (line ∷ []) ≡ false = rw none refl in
      let all = list_any-append (λ l. is_some (fault_of_line config l)) lines (line ∷ []) in
      sym (ap not all ∙ (ap (λ b. not (list_any (λ l. is_some (fault_of_line config l)) lines || b)) here ∙ by (list_any (λ l. is_some (fault_of_line config l)) lines)))
    where
      by : (b : Bool) → not (b || false) ≡ not b
      by true = refl
      by false = refl

  -- a line at fault
  pub faulty_line : (lines : List (List ℕ)) (line : List ℕ) (fault : LineFault) → fault_of_line config line ≡ Some fault → false ≡ is_good config (lines ++ line ∷ [])
  faulty_line lines line fault some =
      let here : list_any (λ l. is_some (fault_of_line config l)) (line ∷ []) ≡ true = rw some refl in
      let all = list_any-append (λ l. is_some (fault_of_line config l)) lines (line ∷ []) in
      sym (ap not all ∙ (ap (λ b. not (list_any (λ l. is_some (fault_of_line config l)) lines || b)) here ∙ by (list_any (λ l. is_some (fault_of_line config l)) lines)))
    where
      by : (b : Bool) → not (b || true) ≡ false
      by true = refl
      by false = refl

  -- the commands that have to do with grants
  pub said_more : (number last : ℕ) (lines : List (List ℕ)) (line : List ℕ) → number + length lines ≡ last → said_from config number lines ++ said_in_line config last line ≡ said_from config number (lines ++ line ∷ [])
  said_more number last [] line is =
      let same : number ≡ last = omega (arith, is) in
      ap (λ n. said_in_line config n line) (sym same) ∙ sym (append-nil (said_in_line config number line))
  said_more number last (l ∷ ls) line is =
      let later = said_more (number + 1) last ls line (omega (arith, is)) in
      append_assoc (said_in_line config number l) (said_from config (number + 1) ls) (said_in_line config last line) ∙ ap (λ xs. said_in_line config number l ++ xs) later

  -- what is reported
  pub report_more : (file : List ℕ) (number last : ℕ) (lines : List (List ℕ)) (line before part after : List ℕ) → number + length lines ≡ last → IsReportOnLines config file number lines before
      → IsReportOnLine config file last line part → after ≡ before ++ part → IsReportOnLines config file number (lines ++ line ∷ []) after
  report_more file number last [] line before part after is none here grown =
      let same : last ≡ number = omega (arith, is) in
      (part, [], subst (λ n. IsReportOnLine config file n line part) same here, refl, grown ∙ (ap (λ t. t ++ part) none ∙ sym (append-nil part)))
  report_more file number last (l ∷ ls) line before part after is (first, others, on_first, on_others, both) here grown =
      let more = report_more file (number + 1) last ls line others part (others ++ part) (omega (arith, is)) on_others here refl in
      (first, others ++ part, on_first, more, grown ∙ (ap (λ t. t ++ part) both ∙ append_assoc first others part))

  -- the same of a line at fault, and of another line
  pub report_faulty : (file : List ℕ) (number : ℕ) (lines : List (List ℕ)) (line : List ℕ) (found : Found) (before after : List ℕ) → length lines + 1 ≡ number → fault_of_line config line ≡ Some found.fault
      → TellLine config line found → IsReportOnLines config file 1 lines before → Adds file (findings_in number line found.before found.findings.items) before after
      → IsReportOnLines config file 1 (lines ++ line ∷ []) after
  report_faulty file number lines line found before after is fault tells so_far adds =
      let here : IsReportOnLine config file number line adds.0 = rw fault (found, refl, tells, adds.1) in
      report_more file 1 number lines line before adds.0 after (omega (arith, is)) so_far here adds.2

  pub report_good : (file : List ℕ) (number : ℕ) (lines : List (List ℕ)) (line before : List ℕ) → length lines + 1 ≡ number → fault_of_line config line ≡ None
      → IsReportOnLines config file 1 lines before → IsReportOnLines config file 1 (lines ++ line ∷ []) before
  report_good file number lines line before is none so_far =
      let here : IsReportOnLine config file number line [] = rw none refl in
      report_more file 1 number lines line before [] before (omega (arith, is)) so_far here (sym (append-nil before))

  pub kept_grown : (number : ℕ) (lines : List (List ℕ)) (line : List ℕ) (grants : GrantLines) → length lines + 1 ≡ number → AreKept config (said_from config 1 lines ++ said_in_line config number line) grants
      → AreKept config (said_from config 1 (lines ++ line ∷ [])) grants
  kept_grown number lines line grants is kept = subst (λ (said : List Said). AreKept config said grants) (said_more 1 number lines line (omega (arith, is))) kept
