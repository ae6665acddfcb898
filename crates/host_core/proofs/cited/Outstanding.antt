-- The outstanding jobs: how many there are, and which they are in the definitions.
use Rattle.std.proofs.Common.{◌≡◌, ◌≢◌, ℕ, zero, suc, ◌+◌, ◌<◌, Bool, true, false, cond, not, ◌||◌, List, [], ◌∷◌, ◌++◌, map, filter, length, take, get_or, refl, sym, ap, ◌∙◌, subst, arith, zero-add, append-nil, append_assoc, length-append}
use Rattle.std.specs.List.{AllByRecursion, list_all, list_any, sum_by, flat_map, enumerate_from}
use Rattle.std.specs.Prelude.{sum}
use Rattle.std.proofs.lemmas.Bool.{and_from, and_parts, eq-eqb, false_from_ne_true, false≢true}
use Rattle.std.proofs.lemmas.List.{get_or_default, length-map, length-take-le, take_more}
use Rattle.std.proofs.lemmas.List.Sums.{sum-map, sum_by-cons}
use Rattle.rig_model.specs.declared.jobs.JobId.{JobId}
use Rattle.rig_model.specs.declared.config.TenantConfig.{TenantConfig}
use Rattle.instant_engine.specs.Tenants.{ArePlaced, tenant_at}
use Rattle.instant_engine.specs.cited.Tenants.{is_active_among}
use Rattle.instant_engine.specs.job_table.Finished.{TableEntry, has_result}
use Rattle.rig_model.specs.Jobs.{same_job, job_of}
use Rattle.rig_model.proofs.cited.JobNames.{same_job_is, same_job_self}
use Rattle.host_core.specs.HostStanding.{HostStanding, Stands, outstanding_from, outstanding_jobs}
use Rattle.rig_model.specs.HostState.{HostState, row_at, is_counted}
use Rattle.rig_model.specs.Base.{Setting}
use Rattle.rig_model.specs.Row.{ActiveTask, Row}
use Rattle.instant_engine.specs.state.Standing.{Standing, StandsFor, all_different_releases, no_tenant, is_another, outstanding_tasks}
use Rattle.giotto_tasks.specs.Names.{same_name}
use Rattle.giotto_tasks.proofs.cited.NameLemmas.{same_name_self}
use Rattle.giotto_tasks.proofs.cited.ListLemmas.{all_map, all_of, all_pass, filter-map, same_filter}
use Rattle.host_core.proofs.HostSteps.{outstanding_are}
use Rattle.instant_engine.proofs.of_laws.Places.{nobody}

-- how many outstanding jobs a tenant has, by this table
abbrev pub number_outstanding : List TableEntry → Standing → ℕ
number_outstanding entries s = length (outstanding_tasks s entries)

pub counted_from : (entries : List TableEntry) (n : ℕ) (xs : List Standing) → sum_by (number_outstanding entries) xs ≡ length (outstanding_from entries n xs)
counted_from entries n [] = refl
counted_from entries n (x ∷ xs) =
    sum_by-cons (number_outstanding entries) x xs ∙ ap (λ k. number_outstanding entries x + k) (counted_from entries (n + 1) xs)
    ∙ ap (λ k. k + length (outstanding_from entries (n + 1) xs)) (sym (length-map (outstanding_tasks x entries) (job_of n)))
    ∙ sym (length-append (map (job_of n) (outstanding_tasks x entries)) (outstanding_from entries (n + 1) xs))

-- the tenants' numbers add up to that of all
pub counted_in_all : (entries : List TableEntry) (xs : List Standing) → sum (map (number_outstanding entries) xs) ≡ length (outstanding_from entries 0 xs)
counted_in_all entries xs = sum-map (number_outstanding entries) xs ∙ counted_from entries 0 xs

-- the outstanding jobs of one more tenant
named_behind : (entries : List TableEntry) (n : ℕ) (xs : List Standing) (y : Standing)
    → outstanding_from entries n (xs ++ y ∷ []) ≡ outstanding_from entries n xs ++ map (job_of (n + length xs)) (outstanding_tasks y entries)
named_behind entries n [] y =
    let here : n ≡ n + 0 = omega arith in
    append-nil (map (job_of n) (outstanding_tasks y entries)) ∙ ap (λ k. map (job_of k) (outstanding_tasks y entries)) here
named_behind entries n (x ∷ xs) y =
    let on : n + 1 + length xs ≡ n + suc (length xs) = omega arith in
    ap (λ l. map (job_of n) (outstanding_tasks x entries) ++ l) (named_behind entries (n + 1) xs y ∙ ap (λ k. outstanding_from entries (n + 1) xs ++ map (job_of k) (outstanding_tasks y entries)) on)
    ∙ sym (append_assoc (map (job_of n) (outstanding_tasks x entries)) (outstanding_from entries (n + 1) xs) (map (job_of (n + suc (length xs))) (outstanding_tasks y entries)))

pub named_more : (entries : List TableEntry) (xs : List Standing) (i : ℕ) (x : Standing) → ArePlaced xs → i < length xs → x ≡ tenant_at xs i
    → outstanding_from entries 0 (take (i + 1) xs) ≡ outstanding_from entries 0 (take i xs) ++ map (job_of x.tenancy.owner.place) (outstanding_tasks x entries)
named_more entries xs i x placed lt is =
    let at : 0 + length (take i xs) ≡ x.tenancy.owner.place = omega (arith, length-take-le i xs (omega (arith, lt)), sym (placed i lt) ∙ ap (λ (s : Standing). s.tenancy.owner.place) (sym is)) in
    ap (outstanding_from entries 0) (take_more xs i no_tenant lt) ∙ named_behind entries 0 (take i xs) (tenant_at xs i)
    ∙ ap (λ (s : Standing). outstanding_from entries 0 (take i xs) ++ map (job_of (0 + length (take i xs))) (outstanding_tasks s entries)) (sym is)
    ∙ ap (λ k. outstanding_from entries 0 (take i xs) ++ map (job_of k) (outstanding_tasks x entries)) at

-- if a tenant has an outstanding job, there is one among all
pub some_of_all : (entries : List TableEntry) (n : ℕ) (xs : List Standing) (i : ℕ) (d : Standing) → i < length xs → 0 < length (outstanding_tasks (get_or xs i d) entries) → 0 < length (outstanding_from entries n xs)
some_of_all entries n [] i d lt some = absurd (omega (arith, lt))
some_of_all entries n (x ∷ xs) zero d lt some =
    let all = length-append (map (job_of n) (outstanding_tasks x entries)) (outstanding_from entries (n + 1) xs) in
    let as_many = length-map (outstanding_tasks x entries) (job_of n) in
    omega (arith, all, as_many, some)
some_of_all entries n (x ∷ xs) (suc i) d lt some =
    let all = length-append (map (job_of n) (outstanding_tasks x entries)) (outstanding_from entries (n + 1) xs) in
    let rest = some_of_all entries (n + 1) xs i d (omega (arith, lt)) some in
    omega (arith, all, rest)

-- another release has another job
pub another_job : (t : ℕ) (a b : ActiveTask) → is_another a b ≡ true → job_of t a ≡ job_of t b → ⊥
another_job t a b other same =
    let task : a.task ≡ b.task = ap (λ (j : JobId). j.task) same in
    let alike = and_from _ _ (subst (λ x. same_name a.task x ≡ true) task (same_name_self a.task)) (eq-eqb a.release b.release (ap (λ (j : JobId). j.tick) same)) in
    false≢true (ap not (sym alike) ∙ other)

-- one more result leaves one task fewer outstanding, if exactly one task of a list has the job
module _ (t : ℕ) (j : JobId) (before after : List TableEntry) (added : (k : JobId) → has_result after k ≡ (same_job j k || has_result before k)) where
  abbrev open_in : List TableEntry → List ActiveTask → List ActiveTask
  open_in entries xs = filter (λ (a : ActiveTask). not (has_result entries (job_of t a))) xs

  untouched : (a : ActiveTask) → same_job j (job_of t a) ≡ false → has_result after (job_of t a) ≡ has_result before (job_of t a)
  untouched a other = added (job_of t a) ∙ ap (λ b. b || has_result before (job_of t a)) other

  same_open : (xs : List ActiveTask) → AllByRecursion (λ (a : ActiveTask). same_job j (job_of t a) ≡ false) xs → open_in after xs ≡ open_in before xs
  same_open xs others = same_filter _ _ xs (all_map _ _ xs (λ a other. ap not (untouched a other)) others)

  others_apart : (a : ActiveTask) (rest : List ActiveTask) → same_job (job_of t a) j ≡ true → list_all (is_another a) rest ≡ true
      → AllByRecursion (λ (b : ActiveTask). same_job j (job_of t b) ≡ false) rest
  others_apart a rest here others =
      all_pass _ (is_another a)
      (λ b other. false_from_ne_true _ (λ e. another_job t a b other (same_job_is (job_of t a) j here ∙ same_job_is j (job_of t b) e)))
      rest others

  more : (n : ℕ) → suc n ≡ n + 1
  more n = omega arith

  pub one_fewer_of : (xs : List ActiveTask) → all_different_releases xs ≡ true → list_any (λ a. same_job (job_of t a) j) xs ≡ true → has_result before j ≡ false
      → length (open_in before xs) ≡ length (open_in after xs) + 1
  one_fewer_of [] different there none = absurd (cc)
  one_fewer_of (a ∷ rest) different there none =
      let parts = and_parts (list_all (is_another a) rest) (all_different_releases rest) different in
      by parts.0 (λ later. one_fewer_of rest parts.1 later none) (same_job (job_of t a) j) refl
    where
      along : (b : Bool) → length (open_in before rest) ≡ length (open_in after rest) + 1
          → length (cond b (a ∷ open_in before rest) (open_in before rest)) ≡ length (cond b (a ∷ open_in after rest) (open_in after rest)) + 1
      along true e = omega (arith, e)
      along false e = e

      by : list_all (is_another a) rest ≡ true → (list_any (λ b. same_job (job_of t b) j) rest ≡ true → length (open_in before rest) ≡ length (open_in after rest) + 1)
          → (b : Bool) → same_job (job_of t a) j ≡ b → length (open_in before (a ∷ rest)) ≡ length (open_in after (a ∷ rest)) + 1
      by apart fewer true here =
          let is : job_of t a ≡ j = same_job_is (job_of t a) j here in
          let was : not (has_result before (job_of t a)) ≡ true = ap (λ k. not (has_result before k)) is ∙ ap not none in
          let now : not (has_result after (job_of t a)) ≡ false =
          ap not (added (job_of t a) ∙ ap (λ b. b || has_result before (job_of t a)) (ap (same_job j) is ∙ same_job_self j)) in
          ap (λ b. length (cond b (a ∷ open_in before rest) (open_in before rest))) was
          ∙ more (length (open_in before rest)) ∙ ap (λ xs. length xs + 1) (sym (same_open rest (others_apart a rest here apart)))
          ∙ sym (ap (λ b. length (cond b (a ∷ open_in after rest) (open_in after rest)) + 1) now)
      by apart fewer false other =
          let elsewhere : same_job j (job_of t a) ≡ false = false_from_ne_true _ (λ e. false≢true (sym other ∙ ap (λ k. same_job k j) (sym (same_job_is j (job_of t a) e)) ∙ same_job_self j)) in
          let later : list_any (λ b. same_job (job_of t b) j) rest ≡ true = ap (λ b. b || list_any (λ b. same_job (job_of t b) j) rest) (sym other) ∙ there in
          let same : not (has_result after (job_of t a)) ≡ not (has_result before (job_of t a)) = ap not (untouched a elsewhere) in
          along (not (has_result before (job_of t a))) (fewer later) ∙ ap (λ b. length (cond b (a ∷ open_in after rest) (open_in after rest)) + 1) (sym same)

-- the tenants that the job doesn't belong to
same_numbers : (f g : Standing → ℕ) (xs : List Standing) → ((k : ℕ) (d : Standing) → k < length xs → f (get_or xs k d) ≡ g (get_or xs k d)) → sum_by f xs ≡ sum_by g xs
same_numbers f g [] same = refl
same_numbers f g (x ∷ xs) same =
    omega (arith, sum_by-cons f x xs, sum_by-cons g x xs, same 0 x (omega arith), same_numbers f g xs (λ k d lt. same (suc k) d (omega (arith, lt))))

fewer_from : (f g : Standing → ℕ) (xs : List Standing) (i : ℕ) → i < length xs → ((d : Standing) → f (get_or xs i d) ≡ g (get_or xs i d) + 1)
    → ((k : ℕ) (d : Standing) → k < length xs → k ≢ i → f (get_or xs k d) ≡ g (get_or xs k d)) → sum_by f xs ≡ sum_by g xs + 1
fewer_from f g [] i lt here others = absurd (omega (arith, lt))
fewer_from f g (x ∷ xs) zero lt here others =
    omega (arith, sum_by-cons f x xs, sum_by-cons g x xs, here x, same_numbers f g xs (λ k d below. others (suc k) d (omega (arith, below)) (λ e. absurd (omega (arith, e)))))
fewer_from f g (x ∷ xs) (suc i) lt here others =
    let rest = fewer_from f g xs i (omega (arith, lt)) here (λ k d below differ. others (suc k) d (omega (arith, below)) (λ e. differ (omega (arith, e)))) in
    omega (arith, sum_by-cons f x xs, sum_by-cons g x xs, others 0 x (omega arith) (λ e. absurd (omega (arith, e))), rest)

-- one completion of one tenant
pub one_fewer_in : (xs : List Standing) (j : JobId) (before after : List TableEntry) → j.tenant < length xs → ArePlaced xs
    → ((k : JobId) → has_result after k ≡ (same_job j k || has_result before k)) → has_result before j ≡ false
    → is_active_among xs j ≡ true → all_different_releases (tenant_at xs j.tenant).row.active ≡ true
    → length (outstanding_from before 0 xs) ≡ length (outstanding_from after 0 xs) + 1
one_fewer_in xs j before after lt placed added none active different =
    sym (counted_from before 0 xs) ∙ (fewer_from (number_outstanding before) (number_outstanding after) xs j.tenant lt here others ∙ ap (λ n. n + 1) (counted_from after 0 xs))
  where
    here : (d : Standing) → number_outstanding before (get_or xs j.tenant d) ≡ number_outstanding after (get_or xs j.tenant d) + 1
    here d =
        subst (λ (s : Standing). number_outstanding before s ≡ number_outstanding after s + 1) (sym (get_or_default xs j.tenant d no_tenant lt))
        (one_fewer_of (tenant_at xs j.tenant).tenancy.owner.place j before after added (tenant_at xs j.tenant).row.active different active none)

    others : (k : ℕ) (d : Standing) → k < length xs → k ≢ j.tenant → number_outstanding before (get_or xs k d) ≡ number_outstanding after (get_or xs k d)
    others k d below differ =
        subst (λ (s : Standing). number_outstanding before s ≡ number_outstanding after s) (sym (get_or_default xs k d no_tenant below))
        (sym (ap length (same_open (tenant_at xs k).tenancy.owner.place j before after added (tenant_at xs k).row.active
        (all_of (λ a. false_from_ne_true _ (λ e. differ (sym (placed k below) ∙ sym (ap (λ (i : JobId). i.tenant) (same_job_is j (job_of (tenant_at xs k).tenancy.owner.place a) e))))) (tenant_at xs k).row.active))))

-- what is gathered from the same places of two lists of one length
places : {A B C : Type 0} (f : ℕ × A → List C) (g : ℕ × B → List C) (a : A) (b : B) (n : ℕ) (xs : List A) (ys : List B) → length xs ≡ length ys
    → ((i : ℕ) → i < length ys → f (n + i, get_or xs i a) ≡ g (n + i, get_or ys i b)) → flat_map f (enumerate_from n xs) ≡ flat_map g (enumerate_from n ys)
places f g a b n [] [] long same = refl
places f g a b n [] (y ∷ ys) long same = absurd (omega (arith, long))
places f g a b n (x ∷ xs) [] long same = absurd (omega (arith, long))
places f g a b n (x ∷ xs) (y ∷ ys) long same =
    let here : n + 0 ≡ n = omega arith in
    let first : f (n, x) ≡ g (n, y) = subst (λ k. f (k, x) ≡ g (k, y)) here (same 0 (omega arith)) in
    let rest = places f g a b (n + 1) xs ys (omega (arith, long)) (λ i lt.
    let on : n + suc i ≡ n + 1 + i = omega arith in
    subst (λ k. f (k, get_or xs i a) ≡ g (k, get_or ys i b)) on (same (suc i) (omega (arith, lt)))) in
    ap (λ l. l ++ flat_map f (enumerate_from (n + 1) xs)) first ∙ ap (λ l. g (n, y) ++ l) rest

pub places_from_start : {A B C : Type 0} (f : ℕ × A → List C) (g : ℕ × B → List C) (a : A) (b : B) (xs : List A) (ys : List B) → length xs ≡ length ys
    → ((i : ℕ) → i < length ys → f (i, get_or xs i a) ≡ g (i, get_or ys i b)) → flat_map f (enumerate_from 0 xs) ≡ flat_map g (enumerate_from 0 ys)
places_from_start f g a b xs ys long same = places f g a b 0 xs ys long (λ i lt. subst (λ k. f (k, get_or xs i a) ≡ g (k, get_or ys i b)) (sym (zero-add i)) (same i lt))

module _ (setting : Setting) where
  -- the jobs of a state's active tasks that aren't counted
  abbrev pub jobs_at : HostState → ℕ → List JobId
  jobs_at state t = filter (λ j. not (is_counted state j)) (map (job_of t) (row_at state t).active)

  abbrev pub all_jobs : HostState → List JobId
  all_jobs state = flat_map (λ (place : ℕ × TenantConfig). jobs_at state place.0) (enumerate_from 0 setting.config.tenants)

  -- a tenant's outstanding jobs are the jobs of its row that aren't counted
  pub awaited_at : (s : Standing) (entries : List TableEntry) (t : ℕ) (row : Row) (c : JobId → Bool) → StandsFor s row → s.tenancy.owner.place ≡ t → ((j : JobId) → has_result entries j ≡ c j)
      → map (job_of t) (outstanding_tasks s entries) ≡ filter (λ j. not (c j)) (map (job_of t) row.active)
  awaited_at s entries t row c h place results =
      ap (map (job_of t)) (outstanding_are s entries t row c h place results) ∙ sym (filter-map (job_of t) (λ j. not (c j)) (λ a. not (c (job_of t a))) row.active (all_of (λ a. refl) row.active))

  -- the code's outstanding jobs are the jobs of its state's active tasks that aren't counted
  pub code_awaits : (host : HostStanding) (state : HostState) → Stands setting host state → ArePlaced host.tenants → outstanding_jobs host ≡ all_jobs state
  code_awaits host state h placed =
      places_from_start (λ (place : ℕ × Standing). map (job_of place.0) (outstanding_tasks place.1 host.entries)) (λ (place : ℕ × TenantConfig). jobs_at state place.0)
      no_tenant nobody host.tenants setting.config.tenants h.as_many
      (λ i lt. awaited_at (tenant_at host.tenants i) host.entries i (row_at state i) (is_counted state) (h.each i lt) (placed i (omega (arith, lt, h.as_many))) h.results)
