-- How many entries have no result, as a number that falls by one with each result.
use Rattle.std.proofs.Common.{◌≡◌, ℕ, ◌+◌, ◌≤◌, ◌||◌, Bool, true, false, cond, List, [], ◌∷◌, ◌++◌, length, Option, Some, None, is_some, count_by, find, option_and_then, refl, sym, ap, subst, ◌∙◌, arith, append_assoc, append-nil, length-append}
use Rattle.rig_model.specs.declared.jobs.JobId.{JobId}
use Rattle.rig_model.specs.Jobs.{same_job}
use Rattle.rig_model.proofs.cited.JobNames.{same_job_self}
use Rattle.tenant_jobs.specs.declared.jobs.JobResult.{JobResult}
use Rattle.tenant_jobs.specs.Finished.{TableEntry, has_result}
use Rattle.tenant_jobs.specs.cited.Finished.{is_entered, result_count, NamesDiffer}
use Rattle.tenant_jobs.proofs.TableEntries.{all_came, count-middle, find_middle, find_other, weigh}

-- the same entry, with a result
abbrev completed : TableEntry → TableEntry
completed e = record { id = e.id; result = Some (record { outputs = []; states = [] }) }

-- a list with an entry that has no result, and the same list after the entry got one
module _ (front back : List TableEntry) (e : TableEntry) (none : e.result ≡ None) (differ : NamesDiffer (front ++ e ∷ back)) where
  abbrev before : List TableEntry
  before = front ++ e ∷ back

  abbrev after : List TableEntry
  after = front ++ completed e ∷ back

  abbrev named : JobId → TableEntry → Bool
  named j d = same_job d.id j

  differ_after : NamesDiffer after
  differ_after j = subst (λ n. n ≤ 1) (count-middle (named j) e front back ∙ sym (count-middle (named j) (completed e) front back)) (differ j)

  found_before : (j : JobId) → same_job e.id j ≡ true → find (named j) before ≡ Some e
  found_before j same = (find_middle (named j) e front back same (differ j)).0

  found_after : (j : JobId) → same_job e.id j ≡ true → find (named j) after ≡ Some (completed e)
  found_after j same = (find_middle (named j) (completed e) front back same (differ_after j)).0

  found_elsewhere : (j : JobId) → same_job e.id j ≡ false → find (named j) after ≡ find (named j) before
  found_elsewhere j other = find_other (named j) (completed e) front back other ∙ sym (find_other (named j) e front back other)

  abbrev has : Option TableEntry → Bool
  has o = is_some (option_and_then (λ (d : TableEntry). d.result) o)

  same_entered : (j : JobId) → is_entered after j ≡ is_entered before j
  same_entered j = by (same_job e.id j) refl
    where
      by : (b : Bool) → same_job e.id j ≡ b → is_entered after j ≡ is_entered before j
      by true same = ap is_some (found_after j same) ∙ sym (ap is_some (found_before j same))
      by false other = ap is_some (found_elsewhere j other)

  own_entered : is_entered before e.id ≡ true
  own_entered = ap is_some (found_before e.id (same_job_self e.id))

  no_result : has_result before e.id ≡ false
  no_result = ap has (found_before e.id (same_job_self e.id)) ∙ ap is_some none

  one_result : (j : JobId) → has_result after j ≡ (same_job e.id j || has_result before j)
  one_result j = by (same_job e.id j) refl
    where
      by : (b : Bool) → same_job e.id j ≡ b → has_result after j ≡ (same_job e.id j || has_result before j)
      by true same = ap has (found_after j same) ∙ sym (ap (λ b. b || has_result before j) same)
      by false other = ap has (found_elsewhere j other) ∙ sym (ap (λ b. b || has_result before j) other)

  one_more_result : result_count after ≡ result_count before + 1
  one_more_result =
      omega (arith, weigh (ap is_some none), count-middle (λ (d : TableEntry). is_some d.result) (completed e) front back, count-middle (λ (d : TableEntry). is_some d.result) e front back)

  same_length : length after ≡ length before
  same_length = length-append front (completed e ∷ back) ∙ sym (length-append front (e ∷ back))

-- a number of a table in which exactly these jobs are entered. It is 0 if each has its result, and falls by one with each result.
module _ (number : List TableEntry → ℕ) (entered : JobId → Bool)
    (none : (es : List TableEntry) → ((j : JobId) → has_result es j ≡ entered j) → number es ≡ 0)
    (less : (before after : List TableEntry) (j : JobId) → entered j ≡ true → has_result before j ≡ false
    → ((k : JobId) → has_result after k ≡ (same_job j k || has_result before k)) → number before ≡ number after + 1) where
  abbrev IsRest : List TableEntry → Type 0
  IsRest es = number es + result_count es ≡ length es

  one_behind : (front : List TableEntry) (e : TableEntry) → result_count front ≡ length front → is_some e.result ≡ true → result_count (front ++ e ∷ []) ≡ length (front ++ e ∷ [])
  one_behind front e all came =
      let same : result_count (front ++ []) ≡ result_count front = ap result_count (append-nil front) in
      omega (arith, all, weigh came, same, count-middle (λ (d : TableEntry). is_some d.result) e front [], length-append front (e ∷ []))

  -- each entry in `front` has its result
  rest_from : (back front : List TableEntry) → NamesDiffer (front ++ back) → ((j : JobId) → is_entered (front ++ back) j ≡ entered j) → result_count front ≡ length front → IsRest (front ++ back)
  rest_from [] front differ known all =
      let complete : result_count (front ++ []) ≡ length (front ++ []) = ap result_count (append-nil front) ∙ all ∙ sym (ap length (append-nil front)) in
      let zero : number (front ++ []) ≡ 0 = none (front ++ []) (λ j. all_came (front ++ []) j complete ∙ known j) in
      omega (arith, complete, zero)
  rest_from (e ∷ back) front differ known all = by (λ front. rest_from back front) e.result refl
    where
      by : ((front : List TableEntry) → NamesDiffer (front ++ back) → ((j : JobId) → is_entered (front ++ back) j ≡ entered j) → result_count front ≡ length front → IsRest (front ++ back))
          → (o : Option JobResult) → e.result ≡ o → IsRest (front ++ e ∷ back)
      by later (Some r) came =
          let moved : (front ++ e ∷ []) ++ back ≡ front ++ e ∷ back = append_assoc front (e ∷ []) back in
          subst IsRest moved
          (later (front ++ e ∷ []) (subst NamesDiffer (sym moved) differ) (subst (λ es. (j : JobId) → is_entered es j ≡ entered j) (sym moved) known) (one_behind front e all (ap is_some came)))
      by later None missing =
          let moved : (front ++ completed e ∷ []) ++ back ≡ front ++ completed e ∷ back = append_assoc front (completed e ∷ []) back in
          let rest : IsRest (front ++ completed e ∷ back) =
          subst IsRest moved
          (later (front ++ completed e ∷ []) (subst NamesDiffer (sym moved) (differ_after front back e missing differ))
          (subst (λ es. (j : JobId) → is_entered es j ≡ entered j) (sym moved) (λ j. same_entered front back e missing differ j ∙ known j)) (one_behind front (completed e) all refl)) in
          let one : number (front ++ e ∷ back) ≡ number (front ++ completed e ∷ back) + 1 =
          less (front ++ e ∷ back) (front ++ completed e ∷ back) e.id (sym (known e.id) ∙ own_entered front back e missing differ) (no_result front back e missing differ) (one_result front back e missing differ) in
          omega (arith, rest, one, one_more_result front back e missing differ, same_length front back e missing differ)

  -- the number is that of the entries without a result
  pub entries_less_results : (es : List TableEntry) → NamesDiffer es → ((j : JobId) → is_entered es j ≡ entered j) → number es + result_count es ≡ length es
  entries_less_results es differ known = rest_from es [] differ known refl
