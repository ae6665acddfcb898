-- The entry of a name, in a list of entries with different names.
use Rattle.std.proofs.Common.{◌≡◌, ℕ, ◌+◌, ◌≤◌, Bool, true, false, cond, List, [], ◌∷◌, ◌++◌, length, Option, Some, None, is_some, IsSomeAnd, count_by, find, option_to_list, refl, sym, ap, ◌∙◌, arith, nat_eq, ◌&&◌}
use Rattle.std.proofs.lemmas.Bool.{eq-eqb, eqb-false, eqb-true, false_from_ne_true}
use Rattle.std.proofs.lemmas.List.Sums.{sum_by-cons, sum_by-append, count_by-le-length}
use Rattle.std.proofs.lemmas.List.Folds.{find-append}
use Rattle.slab.specs.Slab.{Slab, get, values}
use Rattle.rig_model.specs.declared.jobs.JobId.{JobId}
use Rattle.rig_model.specs.Jobs.{same_job}
use Rattle.tenant_jobs.specs.Finished.{TableEntry, entry_in, has_result}
use Rattle.tenant_jobs.specs.cited.Finished.{is_complete, is_entered, result_count, NamesDiffer}
use Rattle.tenant_jobs.proofs.Slots.{one_slot, stored}

abbrev pub weight_of : Bool → ℕ
weight_of b = cond b 1 0

pub weigh : {b d : Bool} → b ≡ d → weight_of b ≡ weight_of d
weigh e = ap weight_of e

module _ {X : Type 0} (p : X → Bool) where
  pub count-middle : (x : X) (front back : List X) → count_by p (front ++ x ∷ back) ≡ count_by p (front ++ back) + cond (p x) 1 0
  count-middle x front back =
      let weight : X → ℕ = λ y. cond (p y) 1 0 in
      omega (arith, sum_by-append weight front (x ∷ back), sum_by-append weight front back, sum_by-cons weight x back)

  pub find_none : (xs : List X) → count_by p xs ≡ 0 → find p xs ≡ None
  find_none [] none = refl
  find_none (x ∷ xs) none = by_first (find_none xs) (p x) refl
    where
      by_first : (count_by p xs ≡ 0 → find p xs ≡ None) → (b : Bool) → p x ≡ b → find p (x ∷ xs) ≡ None
      by_first later true e = absurd (omega (arith, none, sum_by-cons (λ y. cond (p y) 1 0) x xs, weigh e))
      by_first later false e = rw e (later (omega (arith, none, sum_by-cons (λ y. cond (p y) 1 0) x xs)))

  pub count_none : (xs : List X) → find p xs ≡ None → count_by p xs ≡ 0
  count_none [] none = refl
  count_none (x ∷ xs) none = by_first (count_none xs) (p x) refl
    where
      by_first : (find p xs ≡ None → count_by p xs ≡ 0) → (b : Bool) → p x ≡ b → count_by p (x ∷ xs) ≡ 0
      by_first later true e = absurd (cc (rw e at none))
      by_first later false e = omega (arith, sum_by-cons (λ y. cond (p y) 1 0) x xs, weigh e, later (rw e at none))

  pub find_past : (x : X) (xs : List X) → p x ≡ false → find p (x ∷ xs) ≡ find p xs
  find_past x xs not_it = rw not_it refl

  pub find_other : (x : X) (front back : List X) → p x ≡ false → find p (front ++ x ∷ back) ≡ find p (front ++ back)
  find_other x front back not_it = find-append p front (x ∷ back) ∙ (rw not_it (sym (find-append p front back)))

  pub find_middle : (x : X) (front back : List X) → p x ≡ true → count_by p (front ++ x ∷ back) ≤ 1
      → (find p (front ++ x ∷ back) ≡ Some x) × (find p (front ++ back) ≡ None)
  find_middle x front back it one =
      let weight : X → ℕ = λ y. cond (p y) 1 0 in
      let here : weight_of (p x) ≡ weight_of true = weigh it in
      let middle = count-middle x front back in
      let split = sum_by-append weight front back in
      let before : find p front ≡ None = find_none front (omega (arith, one, here, middle, split)) in (
        find-append p front (x ∷ back) ∙ rw (before, it) refl,
        find_none (front ++ back) (omega (arith, one, here, middle)),
      )

-- the entry under a key is the one found by its name
pub found_at : (s : Slab TableEntry) (key : ℕ) (e : TableEntry) (j : JobId) → NamesDiffer (values s) → get s key ≡ Some e → same_job e.id j ≡ true → find (λ d. same_job d.id j) (values s) ≡ Some e
found_at s key e j differ at same =
    let split = one_slot key s.slots s.slots (λ _ _. refl) in
    let here : stored s.slots ≡ split.0 ++ e ∷ split.1 = split.2 ∙ ap (λ (o : Option TableEntry). split.0 ++ (option_to_list o ++ split.1)) at in
    let one : count_by (λ (d : TableEntry). same_job d.id j) (split.0 ++ e ∷ split.1) ≤ 1 = rw here at (differ j) in
    ap (find (λ (d : TableEntry). same_job d.id j)) here ∙ (find_middle (λ (d : TableEntry). same_job d.id j) e split.0 split.1 same one).0

-- the same, if the key is known to hold an entry of this name
pub found_under : (s : Slab TableEntry) (key : ℕ) (e : TableEntry) (j : JobId) → NamesDiffer (values s) → get s key ≡ Some e → IsSomeAnd (get s key) (λ d. same_job d.id j ≡ true) → entry_in (values s) j ≡ Some e
found_under s key e j differ at named = found_at s key e j differ at (rw at at named)

-- whether its result came can be read from that entry
pub has_result_under : (s : Slab TableEntry) (key : ℕ) (e : TableEntry) (j : JobId) → NamesDiffer (values s) → get s key ≡ Some e → IsSomeAnd (get s key) (λ d. same_job d.id j ≡ true) → has_result (values s) j ≡ is_some e.result
has_result_under s key e j differ at named = rw (found_under s key e j differ at named) refl

-- if there are as many results as entries, each entry has its result
pub all_came : (entries : List TableEntry) (j : JobId) → result_count entries ≡ length entries → has_result entries j ≡ is_entered entries j
all_came [] j complete = refl
all_came (e ∷ rest) j complete = by_first (all_came rest j) (is_some e.result) (same_job e.id j) refl refl
  where
    weight : TableEntry → ℕ
    weight d = cond (is_some d.result) 1 0

    by_first : (result_count rest ≡ length rest → has_result rest j ≡ is_entered rest j) → (came named : Bool) → is_some e.result ≡ came → same_job e.id j ≡ named → has_result (e ∷ rest) j ≡ is_entered (e ∷ rest) j
    by_first later false named none at = absurd (omega (arith, complete, sum_by-cons weight e rest, weigh none, count_by-le-length (λ (d : TableEntry). is_some d.result) rest))
    by_first later true true came at = rw at came
    by_first later true false came at = rw at (later (omega (arith, complete, sum_by-cons weight e rest, weigh came)))

-- there are as many results as entries exactly if each entry has its result
pub complete_is : (entries : List TableEntry) → nat_eq (result_count entries) (length entries) ≡ is_complete entries
complete_is [] = refl
complete_is (e ∷ rest) = by_first (complete_is rest) (is_some e.result) refl
  where
    weight : TableEntry → ℕ
    weight d = cond (is_some d.result) 1 0

    more : (came : Bool) → is_some e.result ≡ came → result_count (e ∷ rest) ≡ weight_of came + result_count rest
    more came at = omega (arith, sum_by-cons weight e rest, weigh at)

    first : (came : Bool) → is_some e.result ≡ came → is_complete (e ∷ rest) ≡ (came && is_complete rest)
    first came at = ap (λ b. b && is_complete rest) at

    same_test : is_some e.result ≡ true → (t : Bool) → nat_eq (result_count rest) (length rest) ≡ t → nat_eq (result_count (e ∷ rest)) (length (e ∷ rest)) ≡ t
    same_test at true equal = eq-eqb _ _ (omega (arith, eqb-true _ _ equal, more true at))
    same_test at false differ = false_from_ne_true _ (λ equal. eqb-false _ _ differ (omega (arith, eqb-true _ _ equal, more true at)))

    too_few : nat_eq (result_count (e ∷ rest)) (length (e ∷ rest)) ≡ true → is_some e.result ≡ false → ⊥
    too_few equal none = absurd (omega (arith, eqb-true _ _ equal, more false none, count_by-le-length (λ (d : TableEntry). is_some d.result) rest))

    by_first : nat_eq (result_count rest) (length rest) ≡ is_complete rest → (came : Bool) → is_some e.result ≡ came → nat_eq (result_count (e ∷ rest)) (length (e ∷ rest)) ≡ is_complete (e ∷ rest)
    by_first later true at = same_test at _ later ∙ sym (first true at)
    by_first later false at = false_from_ne_true _ (λ equal. too_few equal at) ∙ sym (first false at)
