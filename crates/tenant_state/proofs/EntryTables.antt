-- The active entries by the places of their tasks.
use Rattle.std.proofs.Common.{◌≡◌, ℕ, ◌<◌, ◌≤◌, ◌+◌, ◌-◌, nat_eq, Bool, true, false, not, cond, ◌&&◌, ◌⊎◌, ⊎_elim, List, [], ◌∷◌, ◌++◌, filter, length, take, drop, get_or, set, replicate, refl, sym, ap, subst, ◌∙◌, arith}
use Rattle.std.specs.List.{list_any, AllByRecursion}
use Rattle.std.proofs.lemmas.Bool.{and_parts, eqb-true, eqb-false}
use Rattle.std.proofs.lemmas.List.{append-nil, drop_more, get_or-replicate, get_or-set_same, get_or-set_other, take_more}
use Rattle.std.proofs.lemmas.List.Elements.{filter-append}
use Rattle.std.proofs.lemmas.Map.Views.{any-filter_same}
use Rattle.giotto_tasks.proofs.cited.ListLemmas.{all_filter}
use Rattle.tenant_state.specs.inner.EntryTable.{IsTableOf, is_task_open}
use Rattle.tenant_state.specs.declared.tenants.Active.{Active}
use Rattle.tenant_slots.specs.declared.due.TheConstants.{TABLED_TASKS}

-- one more entry, of a task that has none yet
pub table_more : (items : List Active) (i : ℕ) (d : Active) (table : List ℕ) → i < length items → length table ≡ TABLED_TASKS → (get_or items i d).task < TABLED_TASKS → get_or table (get_or items i d).task 0 ≡ 0
    → IsTableOf i items table → IsTableOf (i + 1) items (set table (get_or items i d).task (i + 1))
table_more items i d table lt long small free before t small_t = by (nat_eq a.task t) refl
  where
    a : Active
    a = get_or items i d

    entries : ℕ → List Active
    entries n = take (n - (n - 1)) (drop (n - 1) items)

    cut : (b : Bool) → nat_eq a.task t ≡ b → filter (λ (x : Active). nat_eq x.task t) (take (i + 1) items) ≡ filter (λ (x : Active). nat_eq x.task t) (take i items) ++ cond b (a ∷ []) []
    cut b e =
        ap (filter (λ (x : Active). nat_eq x.task t)) (take_more items i d lt) ∙ filter-append _ (take i items) (a ∷ [])
        ∙ ap (λ c. filter (λ (x : Active). nat_eq x.task t) (take i items) ++ cond c (a ∷ []) []) e

    by : (b : Bool) → nat_eq a.task t ≡ b → (get_or (set table a.task (i + 1)) t 0 ≤ i + 1) × (filter (λ (x : Active). nat_eq x.task t) (take (i + 1) items) ≡ entries (get_or (set table a.task (i + 1)) t 0))
    by true e =
        let same = eqb-true a.task t e in
        let here : get_or (set table a.task (i + 1)) t 0 ≡ i + 1 = ap (λ k. get_or (set table a.task (i + 1)) k 0) (sym same) ∙ get_or-set_same table a.task (i + 1) 0 (omega (arith, small, long)) in
        let none : get_or table t 0 ≡ 0 = ap (λ k. get_or table k 0) (sym same) ∙ free in
        let less : i + 1 - 1 ≡ i = omega (arith) in
        let one_left : i + 1 - i ≡ 1 = omega (arith) in
        let one : entries (i + 1) ≡ a ∷ [] = ap (λ n. take (i + 1 - n) (drop n items)) less ∙ ap (λ n. take n (drop i items)) one_left ∙ ap (take 1) (drop_more items i d lt) in
        (omega (arith, here), cut true e ∙ ap (λ xs. xs ++ a ∷ []) ((before t small_t).1 ∙ ap entries none) ∙ sym (ap entries here ∙ one))
    by false e =
        let other : get_or (set table a.task (i + 1)) t 0 ≡ get_or table t 0 = get_or-set_other table a.task t (i + 1) 0 (λ s. eqb-false a.task t e (sym s)) in
        (omega (arith, other, (before t small_t).0), cut false e ∙ append-nil _ ∙ (before t small_t).1 ∙ sym (ap entries other))

-- at first no task has an entry
pub no_entry : (items : List Active) → IsTableOf 0 items (replicate TABLED_TASKS 0)
no_entry items t small = let none = get_or-replicate TABLED_TASKS t 0 0 small in (omega (arith, none), sym (ap (λ n. take (n - (n - 1)) (drop (n - 1) items)) none))

twice : {X : Type 0} (p : X → Bool) (xs : List X) → filter p (filter p xs) ≡ filter p xs
twice p [] = refl
twice {X = X} p (x ∷ xs) = by (p x) refl (twice p xs)
  where
    by : (b : Bool) → p x ≡ b → filter p (filter p xs) ≡ filter p xs → filter p (cond b (x ∷ filter p xs) (filter p xs)) ≡ cond b (x ∷ filter p xs) (filter p xs)
    by true e rest = ap (λ b. cond b (x ∷ filter p (filter p xs)) (filter p (filter p xs))) e ∙ ap (λ ys. x ∷ ys) rest
    by false e rest = rest

-- the entries that were looked up: all, or those of the task at this place
module _ (t : ℕ) (items found : List Active) (is : (found ≡ items) ⊎ (found ≡ filter (λ a. nat_eq a.task t) items)) where
  pub same_open : (done : Active → Bool) → is_task_open done found t ≡ is_task_open done items t
  same_open done =
      ⊎_elim (ap (list_any _)) (λ e. ap (list_any _) e ∙ any-filter_same (λ a. nat_eq a.task t && not (done a)) (λ a. nat_eq a.task t) true (λ a e. (and_parts _ _ e).0) items) is

  pub same_entries : filter (λ a. nat_eq a.task t) found ≡ filter (λ a. nat_eq a.task t) items
  same_entries = ⊎_elim (ap (filter _)) (λ e. ap (filter _) e ∙ twice _ items) is

  pub each_found : (P : Active → Type 0) → AllByRecursion P items → AllByRecursion P found
  each_found P all = ⊎_elim (λ e. subst (AllByRecursion P) (sym e) all) (λ e. subst (AllByRecursion P) (sym e) (all_filter P _ items all)) is
