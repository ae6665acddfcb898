-- The values of a slab, and how they change with one slot.
use Rattle.std.proofs.Common.{◌≡◌, ◌≢◌, ℕ, zero, suc, ◌+◌, List, [], ◌∷◌, ◌++◌, length, map, get_or, set, drop, Option, Some, None, is_some, count_by, cond, filter_map, option_to_list, refl, sym, ap, ◌∙◌, append_assoc, arith}
use Rattle.std.proofs.lemmas.List.{set-get_or}
use Rattle.std.proofs.lemmas.List.Sums.{sum_by-cons}
use Rattle.slab.specs.Slab.{Slab, get, slab_len, values, with_value, entries, entries_from}

module _ {T : Type 0} where
  abbrev pub stored : List (Option T) → List T
  stored slots = filter_map (λ slot. slot) slots

  pub length-stored : (slots : List (Option T)) → length (stored slots) ≡ count_by is_some slots
  length-stored [] = refl
  length-stored (None ∷ rest) = omega (arith, length-stored rest, sum_by-cons (λ o. cond (is_some o) 1 0) None rest)
  length-stored (Some value ∷ rest) = omega (arith, length-stored rest, sum_by-cons (λ o. cond (is_some o) 1 0) (Some value) rest)

  pub length-values : (s : Slab T) → length (values s) ≡ slab_len s
  length-values s = length-stored s.slots

  -- writing a value where it is already changes nothing
  pub written_back : (s : Slab T) (key : ℕ) (value : T) → get s key ≡ Some value → with_value s key value ≡ s
  written_back s key value at = ap (λ (slots : List (Option T)). record s { slots = slots }) (ap (set s.slots key) (sym at) ∙ set-get_or s.slots key None)

  stored-entries : (key : ℕ) (slots : List (Option T)) → map (λ e. e.1) (entries_from key slots) ≡ stored slots
  stored-entries key [] = refl
  stored-entries key (None ∷ rest) = stored-entries (key + 1) rest
  stored-entries key (Some value ∷ rest) = ap (λ xs. value ∷ xs) (stored-entries (key + 1) rest)

  -- the values are those of the entries
  pub values-entries : (s : Slab T) → map (λ e. e.1) (entries s) ≡ values s
  values-entries s = stored-entries 0 s.slots

  first_stored : (slots : List (Option T)) → stored slots ≡ option_to_list (get_or slots 0 None) ++ stored (drop 1 slots)
  first_stored [] = refl
  first_stored (None ∷ rest) = refl
  first_stored (Some value ∷ rest) = refl

  next_slot : (slots : List (Option T)) (k : ℕ) → get_or (drop 1 slots) k None ≡ get_or slots (suc k) None
  next_slot [] k = refl
  next_slot (slot ∷ rest) k = refl

  nothing_stored : (slots : List (Option T)) → ((k : ℕ) → get_or slots k None ≡ None) → stored slots ≡ []
  nothing_stored [] none = refl
  nothing_stored (slot ∷ rest) none =
      let first : slot ≡ None = none 0 in
      rw first (nothing_stored rest (λ k. none (suc k)))

  same_stored : (xs ys : List (Option T)) → ((k : ℕ) → get_or ys k None ≡ get_or xs k None) → stored ys ≡ stored xs
  same_stored [] ys same = nothing_stored ys same
  same_stored (x ∷ xs) ys same =
      let rest = same_stored xs (drop 1 ys) (λ k. next_slot ys k ∙ same (suc k)) in
      first_stored ys ∙ (rw (same 0, rest) (sym (first_stored (x ∷ xs))))

  step_back : (whole rest first front back : List T) (x y : Option T) → whole ≡ first ++ rest → rest ≡ front ++ (option_to_list x ++ back) → x ≡ y → whole ≡ (first ++ front) ++ (option_to_list y ++ back)
  step_back whole rest first front back x y outer inner same =
      outer ∙ (ap (λ zs. first ++ zs) inner ∙ (sym (append_assoc first front (option_to_list x ++ back)) ∙ ap (λ (o : Option T). (first ++ front) ++ (option_to_list o ++ back)) same))

  -- the values stored by two lists of slots that differ in at most one slot
  pub one_slot : (k : ℕ) (xs ys : List (Option T)) → ((other : ℕ) → other ≢ k → get_or ys other None ≡ get_or xs other None)
      → (front : List T) × (back : List T)
      × (stored xs ≡ front ++ (option_to_list (get_or xs k None) ++ back))
      × (stored ys ≡ front ++ (option_to_list (get_or ys k None) ++ back))
  one_slot zero xs ys same =
      let rest = same_stored (drop 1 xs) (drop 1 ys) (λ j. next_slot ys j ∙ (same (suc j) (omega arith) ∙ sym (next_slot xs j))) in
      ([], stored (drop 1 xs), first_stored xs, first_stored ys ∙ ap (λ zs. option_to_list (get_or ys 0 None) ++ zs) rest)
  one_slot (suc k) xs ys same =
      let later = one_slot k (drop 1 xs) (drop 1 ys) (λ j differs. next_slot ys j ∙ (same (suc j) (omega (arith, differs)) ∙ sym (next_slot xs j))) in
      let first = option_to_list (get_or xs 0 None) in
      let first_again : stored ys ≡ first ++ stored (drop 1 ys) = first_stored ys ∙ ap (λ o. option_to_list o ++ stored (drop 1 ys)) (same 0 (omega arith)) in (
        first ++ later.0,
        later.1,
        step_back _ _ first later.0 later.1 _ _ (first_stored xs) later.2 (next_slot xs k),
        step_back _ _ first later.0 later.1 _ _ first_again later.3 (next_slot ys k),
      )
