-- Two tables in which the same results came.
use Rattle.std.proofs.Common.{◌≡◌, ◌≤◌, ℕ, Bool, true, false, not, ◌&&◌, ◌||◌, List, [], ◌∷◌, ◌++◌, is_some, count_by, find, refl, sym, ap, ◌∙◌, append_assoc}
use Rattle.std.proofs.lemmas.Bool.{and_from}
use Rattle.std.specs.Prelude.{◌↔◌, IsTrue}
use Rattle.std.specs.List.{list_all}
use Rattle.rig_model.specs.declared.jobs.JobId.{JobId}
use Rattle.rig_model.specs.Jobs.{same_job}
use Rattle.rig_model.proofs.cited.JobNames.{same_job_is, same_job_self}
use Rattle.tenant_jobs.specs.Finished.{TableEntry, has_result, result_in}
use Rattle.tenant_jobs.specs.cited.Finished.{NamesDiffer, is_included}
use Rattle.tenant_jobs.proofs.TableEntries.{find_middle}

pub and_true : (x y : Bool) → (x && y) ≡ true → (x ≡ true) × (y ≡ true)
and_true true y e = (refl, e)
and_true false y e = absurd (cc e)

-- each result of a table that is included came in the other one
pub came_there : (a b : List TableEntry) → list_all (is_included a) b ≡ true → (j : JobId) → has_result b j ≡ true → has_result a j ≡ true
came_there a [] all j came = absurd (cc came)
came_there a (e ∷ rest) all j came = by_name (came_there a rest parts.1 j) (same_job e.id j) refl
  where
    parts : (is_included a e ≡ true) × (list_all (is_included a) rest ≡ true)
    parts = and_true (is_included a e) (list_all (is_included a) rest) all

    if_it_came : (b : Bool) → is_some e.result ≡ b → b ≡ true → (not b || has_result a e.id) ≡ true → has_result a e.id ≡ true
    if_it_came true at it included = included
    if_it_came false at it included = absurd (cc it)

    by_name : (has_result rest j ≡ true → has_result a j ≡ true) → (b : Bool) → same_job e.id j ≡ b → has_result a j ≡ true
    by_name later true at =
        let it : is_some e.result ≡ true = rw at at came in
        rw (sym (same_job_is e.id j at)) (if_it_came (is_some e.result) refl it parts.0)
    by_name later false at = later (rw at at came)

-- a table whose results all came in another is included there
pub includes_all : (a front back : List TableEntry) → NamesDiffer (front ++ back)
    → ((j : JobId) → has_result (front ++ back) j ≡ true → has_result a j ≡ true) → list_all (is_included a) back ≡ true
includes_all a front [] differ came = refl
includes_all a front (e ∷ rest) differ came =
    and_from _ _ (first (is_some e.result) refl) (includes_all a (front ++ e ∷ []) rest (rw moved differ) (rw moved came))
  where
    named : TableEntry → Bool
    named d = same_job d.id e.id

    here : has_result (front ++ e ∷ rest) e.id ≡ is_some e.result
    here = rw ((find_middle named e front rest (same_job_self e.id) (differ e.id)).0) refl

    first : (b : Bool) → is_some e.result ≡ b → (not b || has_result a e.id) ≡ true
    first true at = came e.id (here ∙ at)
    first false at = refl

    moved : (front ++ e ∷ []) ++ rest ≡ front ++ e ∷ rest
    moved = append_assoc front (e ∷ []) rest

same_bool : (x y : Bool) → (x ≡ true → y ≡ true) → (y ≡ true → x ≡ true) → x ≡ y
same_bool true y to from = sym (to refl)
same_bool false true to from = from refl
same_bool false false to from = refl

-- the same results came in both tables just if each is included in the other
pub same_results : (a b : List TableEntry) → NamesDiffer a → NamesDiffer b
    → IsTrue (list_all (is_included a) b && list_all (is_included b) a) ↔ ((j : JobId) → has_result a j ≡ has_result b j)
same_results a b differ_a differ_b = (
  λ both j.
      let parts = and_true (list_all (is_included a) b) (list_all (is_included b) a) both in
      same_bool (has_result a j) (has_result b j) (came_there b a parts.1 j) (came_there a b parts.0 j),
  λ same. and_from _ _
      (includes_all a [] b differ_b (λ j came. same j ∙ came))
      (includes_all b [] a differ_a (λ j came. sym (same j) ∙ came)),
)
