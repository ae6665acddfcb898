-- How the table changes when an entry is added, gets its result, or is removed.
use Rattle.std.proofs.Common.{◌≡◌, ℕ, ◌+◌, ◌≤◌, Bool, true, false, cond, List, ◌∷◌, ◌++◌, length, Option, Some, None, count_by, find, is_some, option_to_list, refl, sym, ap, ◌∙◌, arith, subst, IsSomeAnd}
use Rattle.std.proofs.lemmas.List.{length-append}
use Rattle.std.proofs.lemmas.List.Sums.{count_by-le-length}
use Rattle.slab.specs.Slab.{Slab, get, slab_len, values, Updates, with_value}
use Rattle.slab.proofs.SlabLemmas.{Updates-with_value}
use Rattle.rig_model.specs.declared.jobs.JobId.{JobId}
use Rattle.tenant_jobs.specs.declared.jobs.JobResult.{JobResult}
use Rattle.rig_model.specs.Jobs.{same_job}
use Rattle.tenant_jobs.specs.Finished.{TableEntry, has_result}
use Rattle.tenant_jobs.specs.cited.Finished.{NamesDiffer}
use Rattle.rig_model.proofs.cited.JobNames.{same_job_is}
use Rattle.tenant_jobs.proofs.Slots.{one_slot}
use Rattle.tenant_jobs.proofs.TableEntries.{weigh, count-middle, count_none, find_middle, find_other, found_under, has_result_under}

abbrev pub is_of : JobId → TableEntry → Bool
is_of j e = same_job e.id j

abbrev pub has_come : TableEntry → Bool
has_come e = is_some e.result

abbrev pub entry : JobId → Option JobResult → TableEntry
entry j r = record { id = j; result = r }

none_found : {X : Type 0} (o : Option X) → is_some o ≡ false → o ≡ None
none_found None e = refl
none_found (Some x) e = absurd (cc)

module _ (front back : List TableEntry) where
  differ_with : (id : JobId) (r : Option JobResult) → NamesDiffer (front ++ back) → is_some (find (is_of id) (front ++ back)) ≡ false → NamesDiffer (front ++ entry id r ∷ back)
  differ_with id r differ new j = by_name (same_job id j) refl
    where
      by_name : (b : Bool) → same_job id j ≡ b → count_by (is_of j) (front ++ entry id r ∷ back) ≤ 1
      by_name true e =
          let none : count_by (is_of id) (front ++ back) ≡ 0 = count_none (is_of id) (front ++ back) (none_found _ new) in
          let there : count_by (is_of j) (front ++ back) ≡ 0 = ap (λ i. count_by (is_of i) (front ++ back)) (sym (same_job_is id j e)) ∙ none in
          omega (arith, count-middle (is_of j) (entry id r) front back, weigh e, there)
      by_name false e = omega (arith, count-middle (is_of j) (entry id r) front back, weigh e, differ j)

  differ_without : (e : TableEntry) → NamesDiffer (front ++ e ∷ back) → NamesDiffer (front ++ back)
  differ_without e differ j = omega (arith, count-middle (is_of j) e front back, differ j)

  differ_changed : (id : JobId) (q r : Option JobResult) → NamesDiffer (front ++ entry id q ∷ back) → NamesDiffer (front ++ entry id r ∷ back)
  differ_changed id q r differ j = omega (arith, count-middle (is_of j) (entry id q) front back, count-middle (is_of j) (entry id r) front back, differ j)

  found_with : (id : JobId) (r : Option JobResult) → NamesDiffer (front ++ entry id r ∷ back) → (j : JobId)
      → find (is_of j) (front ++ entry id r ∷ back) ≡ cond (same_job id j) (Some (entry j r)) (find (is_of j) (front ++ back))
  found_with id r differ j = by_name (same_job id j) refl
    where
      by_name : (b : Bool) → same_job id j ≡ b → find (is_of j) (front ++ entry id r ∷ back) ≡ cond b (Some (entry j r)) (find (is_of j) (front ++ back))
      by_name true e = (find_middle (is_of j) (entry id r) front back e (differ j)).0 ∙ ap (λ i. Some (entry i r)) (same_job_is id j e)
      by_name false e = find_other (is_of j) (entry id r) front back e

  found_without : (id : JobId) (r : Option JobResult) → NamesDiffer (front ++ entry id r ∷ back) → (j : JobId)
      → find (is_of j) (front ++ back) ≡ cond (same_job id j) None (find (is_of j) (front ++ entry id r ∷ back))
  found_without id r differ j = by_name (same_job id j) refl
    where
      by_name : (b : Bool) → same_job id j ≡ b → find (is_of j) (front ++ back) ≡ cond b None (find (is_of j) (front ++ entry id r ∷ back))
      by_name true e = (find_middle (is_of j) (entry id r) front back e (differ j)).1
      by_name false e = sym (find_other (is_of j) (entry id r) front back e)

  found_changed : (id : JobId) (q r : Option JobResult) → NamesDiffer (front ++ entry id q ∷ back) → (j : JobId)
      → find (is_of j) (front ++ entry id r ∷ back) ≡ cond (same_job id j) (Some (entry j r)) (find (is_of j) (front ++ entry id q ∷ back))
  found_changed id q r differ j = by_name (same_job id j) refl
    where
      by_name : (b : Bool) → same_job id j ≡ b → find (is_of j) (front ++ entry id r ∷ back) ≡ cond b (Some (entry j r)) (find (is_of j) (front ++ entry id q ∷ back))
      by_name true e = (find_middle (is_of j) (entry id r) front back e (differ_changed id q r differ j)).0 ∙ ap (λ i. Some (entry i r)) (same_job_is id j e)
      by_name false e = find_other (is_of j) (entry id r) front back e ∙ sym (find_other (is_of j) (entry id q) front back e)

  length_with : (e : TableEntry) → length (front ++ e ∷ back) ≡ length (front ++ back) + 1
  length_with e = omega (arith, length-append front (e ∷ back), length-append front back)

-- a name without an entry gets one, in an empty slot
pub record IsEntered (old new : List TableEntry) (id : JobId) : Type 0 where
  pub differ : NamesDiffer new
  pub found : (j : JobId) → find (is_of j) new ≡ cond (same_job id j) (Some (entry j None)) (find (is_of j) old)
  pub results : count_by has_come new ≡ count_by has_come old
  pub more : length new ≡ length old + 1

-- an entry without a result gets one
pub record IsAdded (old new : List TableEntry) (id : JobId) (done : JobResult) : Type 0 where
  pub differ : NamesDiffer new
  pub found : (j : JobId) → find (is_of j) new ≡ cond (same_job id j) (Some (entry j (Some done))) (find (is_of j) old)
  pub results : count_by has_come new ≡ count_by has_come old + 1
  pub bounded : count_by has_come old + 1 ≤ length old
  pub as_many : length new ≡ length old

-- an entry is removed
pub record IsRemoved (old new : List TableEntry) (id : JobId) (result : Option JobResult) : Type 0 where
  pub differ : NamesDiffer new
  pub found : (j : JobId) → find (is_of j) new ≡ cond (same_job id j) None (find (is_of j) old)
  pub results : count_by has_come new + cond (is_some result) 1 0 ≡ count_by has_come old
  pub fewer : length new + 1 ≡ length old

module _ (old new : Slab TableEntry) (key : ℕ) where
  -- the entries of both slabs before and after the slot
  around : (slot was : Option TableEntry) → Updates old new key slot → get old key ≡ was
      → (front : List TableEntry) × (back : List TableEntry) × (values old ≡ front ++ (option_to_list was ++ back)) × (values new ≡ front ++ (option_to_list slot ++ back))
  around slot was updates at =
      let split = one_slot key old.slots new.slots updates.others in (
        split.0,
        split.1,
        split.2 ∙ ap (λ (o : Option TableEntry). split.0 ++ (option_to_list o ++ split.1)) at,
        split.3 ∙ ap (λ (o : Option TableEntry). split.0 ++ (option_to_list o ++ split.1)) updates.changed,
      )

  pub is_entered_at : (id : JobId) → Updates old new key (Some (entry id None)) → get old key ≡ None → NamesDiffer (values old)
      → is_some (find (is_of id) (values old)) ≡ false → IsEntered (values old) (values new) id
  is_entered_at id updates at differ not_yet =
      let split = around (Some (entry id None)) None updates at in
      let front = split.0 in
      let back = split.1 in
      rw (split.2, split.3) (
      let before : NamesDiffer (front ++ back) = rw split.2 at differ in
      let none : is_some (find (is_of id) (front ++ back)) ≡ false = rw split.2 at not_yet in
      let behind = differ_with front back id None before none in
      record {
        differ = behind;
        found = found_with front back id None behind;
        results = omega (arith, count-middle has_come (entry id None) front back);
        more = length_with front back (entry id None);
      }
      )

  pub is_added_at : (id : JobId) (done : JobResult) → Updates old new key (Some (entry id (Some done))) → get old key ≡ Some (entry id None)
      → NamesDiffer (values old) → IsAdded (values old) (values new) id done
  is_added_at id done updates at differ =
      let split = around (Some (entry id (Some done))) (Some (entry id None)) updates at in
      let front = split.0 in
      let back = split.1 in
      rw (split.2, split.3) (
      let before : NamesDiffer (front ++ entry id None ∷ back) = rw split.2 at differ in
      let was = count-middle has_come (entry id None) front back in
      record {
        differ = differ_changed front back id None (Some done) before;
        found = found_changed front back id None (Some done) before;
        results = omega (arith, was, count-middle has_come (entry id (Some done)) front back);
        bounded = omega (arith, was, count_by-le-length has_come (front ++ back), length_with front back (entry id None));
        as_many = omega (arith, length_with front back (entry id None), length_with front back (entry id (Some done)));
      }
      )

  pub is_removed_at : (id : JobId) (result : Option JobResult) → Updates old new key None → get old key ≡ Some (entry id result)
      → NamesDiffer (values old) → IsRemoved (values old) (values new) id result
  is_removed_at id result updates at differ =
      let split = around None (Some (entry id result)) updates at in
      let front = split.0 in
      let back = split.1 in
      rw (split.2, split.3) (
      let before : NamesDiffer (front ++ entry id result ∷ back) = rw split.2 at differ in
      record {
        differ = differ_without front back (entry id result) before;
        found = found_without front back id result before;
        results = omega (arith, count-middle has_come (entry id result) front back);
        fewer = omega (arith, length_with front back (entry id result));
      }
      )

-- the entry under a key gets its result
pub is_added_under : (s : Slab TableEntry) (key : ℕ) (e : TableEntry) (id : JobId) (done : JobResult) → NamesDiffer (values s) → get s key ≡ Some e
    → IsSomeAnd (get s key) (λ d. same_job d.id id ≡ true) → has_result (values s) id ≡ false
    → IsAdded (values s) (values (with_value s key (entry e.id (Some done)))) id done
is_added_under s key e id done differ at named not_yet =
    let same : same_job e.id id ≡ true = rw at at named in
    let none : e.result ≡ None = none_found e.result (sym (has_result_under s key e id differ at named) ∙ not_yet) in
    let empty : get s key ≡ Some (entry e.id None) = at ∙ ap (λ r. Some (entry e.id r)) none in
    let updates = Updates-with_value s key (entry e.id (Some done)) (rw at refl) in
    subst (λ i. IsAdded (values s) (values (with_value s key (entry e.id (Some done)))) i done) (same_job_is e.id id same) (is_added_at s _ key e.id done updates empty differ)

-- the entry under a key is removed
pub is_removed_under : (old new : Slab TableEntry) (key : ℕ) (e : TableEntry) (id : JobId) → NamesDiffer (values old) → get old key ≡ Some e
    → IsSomeAnd (get old key) (λ d. same_job d.id id ≡ true) → Updates old new key None
    → (find (is_of id) (values old) ≡ Some e) × IsRemoved (values old) (values new) id e.result
is_removed_under old new key e id differ at named updates =
    let same : same_job e.id id ≡ true = rw at at named in (
      found_under old key e id differ at named,
      subst (λ i. IsRemoved (values old) (values new) i e.result) (same_job_is e.id id same) (is_removed_at old new key e.id e.result updates at differ),
    )

-- the invariant of a table with `results` results, `spare` spare entries, and capacity for `most` of these
abbrev pub IsTable : Slab TableEntry → ℕ → ℕ → ℕ → Type 0
IsTable s results spare most =
    NamesDiffer (values s) × (results ≡ count_by has_come (values s)) × (slab_len s + spare ≤ s.capacity) × (slab_len s + spare ≤ most)

-- the invariant holds again after capacity was reserved and spare entries were added, if both capacities suffice
pub with_room : (was is : Slab TableEntry) (results spare most waiting : ℕ) (before : ℕ) → is ≡ record was { capacity = is.capacity } → IsTable was results waiting before
    → slab_len was + spare ≤ is.capacity → slab_len was + spare ≤ most → IsTable is results spare most
with_room was is results spare most waiting before same table fits holds =
    subst (λ (s : Slab TableEntry). IsTable s results spare most) (sym same) (table.0, table.1, fits, holds)
