-- The names of the released jobs, in a set that is ordered by tenant, tick and task.
use Rattle.std.proofs.Common.{◌≡◌, true, Bool, false, cond, ◌&&◌, ◌||◌, List, ◌∷◌, refl, sym, ap, ◌∙◌, subst}
use Rattle.std.specs.Cmp.{unsigned_ties}
use Rattle.std.specs.Cmp.Lexicographic.{slice_cmp, texts_ties}
use Rattle.std.specs.List.{list_any}
use Rattle.std.specs.Ordering.{is_eq, nat_cmp, ordering_then}
use Rattle.std.specs.declared.cmp.Ordering.{Ordering}
use Rattle.std.specs.declared.cmp.Ordering.TheVariants.{Less, Equal, Greater}
use Rattle.rig_model.specs.declared.jobs.JobId.{JobId}
use Rattle.instant_engine.specs.job_table.Jobs.{JobValue}
use Rattle.rig_model.specs.Jobs.{same_job}
use Rattle.rig_model.proofs.cited.JobNames.{same_job_is, same_job_self}
use Rattle.giotto_tasks.proofs.cited.TestLemmas.{or_assoc, or_turned, same_answers}

abbrev pub job_cmp : JobId → JobId → Ordering
job_cmp i j = ordering_then (nat_cmp i.tenant j.tenant) (ordering_then (nat_cmp i.tick j.tick) (slice_cmp nat_cmp i.task j.task))

eq_then : (a b : Ordering) → is_eq (ordering_then a b) ≡ (is_eq a && is_eq b)
eq_then Less b = refl
eq_then Equal b = refl
eq_then Greater b = refl

and_grouped : (a b c : Bool) → (a && (b && c)) ≡ ((a && b) && c)
and_grouped true b c = refl
and_grouped false b c = refl

same_job_turned : (i j : JobId) → same_job i j ≡ true → same_job j i ≡ true
same_job_turned i j e = subst (λ k. same_job k i ≡ true) (same_job_is i j e) (same_job_self i)

-- names are equal in the order exactly if they are the same
pub found_by : (i j : JobId) → is_eq (job_cmp i j) ≡ same_job i j
found_by i j =
    eq_then (nat_cmp i.tenant j.tenant) _
    ∙ (ap (λ b. is_eq (nat_cmp i.tenant j.tenant) && b) (eq_then (nat_cmp i.tick j.tick) _)
    ∙ (and_grouped (is_eq (nat_cmp i.tenant j.tenant)) (is_eq (nat_cmp i.tick j.tick)) (is_eq (slice_cmp nat_cmp i.task j.task))
    ∙ (λ k. (sym (unsigned_ties i.tenant j.tenant) k && sym (unsigned_ties i.tick j.tick) k) && sym (texts_ties i.task j.task) k)))

-- whether the set has a name
pub found_in : (j : JobId) (names : List JobId) → list_any (λ r. is_eq (job_cmp j r)) names ≡ list_any (λ r. same_job r j) names
found_in j names = λ k. list_any (λ r. (found_by j r ∙ same_answers (same_job j r) (same_job r j) (same_job_turned j r) (same_job_turned r j)) k) names

at_or_before : (b c : Bool) → cond b true c ≡ (b || c)
at_or_before true c = refl
at_or_before false c = refl

-- one more name, of the next job
pub one_named : (j : JobId) (names more : List JobId) (job : JobValue) (jobs rest : List JobValue) (name : JobId) → name ≡ job.id → jobs ≡ job ∷ rest
    → list_any (λ r. is_eq (job_cmp j r)) more ≡ cond (is_eq (job_cmp name j)) true (list_any (λ r. is_eq (job_cmp j r)) names)
    → (list_any (λ r. same_job r j) more || list_any (λ (k : JobValue). same_job k.id j) rest) ≡ (list_any (λ r. same_job r j) names || list_any (λ (k : JobValue). same_job k.id j) jobs)
one_named j names more job jobs rest name is are added =
    let old : Bool = list_any (λ r. same_job r j) names in
    let left : Bool = list_any (λ (k : JobValue). same_job k.id j) rest in
    let new : list_any (λ r. same_job r j) more ≡ (same_job job.id j || old) =
    sym (found_in j more) ∙ (added ∙ (at_or_before (is_eq (job_cmp name j)) _ ∙ ((λ k. found_by name j k || found_in j names k) ∙ ap (λ (i : JobId). same_job i j || old) is))) in
    ap (λ b. b || left) (new ∙ or_turned (same_job job.id j) old) ∙ (sym (or_assoc old (same_job job.id j) left) ∙ ap (λ xs. old || list_any (λ (k : JobValue). same_job k.id j) xs) (sym are))
