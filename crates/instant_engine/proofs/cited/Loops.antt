-- One more tenant has taken its step, in the loops over all tenants.
use Rattle.std.proofs.Common.{◌≡◌, ℕ, suc, ◌+◌, ◌-◌, ◌<◌, ◌≤◌, ◌≢◌, ⊎_elim, List, [], ◌∷◌, ◌++◌, Option, ℤ, length, get_or, map, set, take, drop, refl, sym, ap, ◌∙◌, subst, length-set, arith}
use Rattle.std.specs.List.{flat_map, sum_by}
use Rattle.std.proofs.lemmas.Bool.{cases_eq}
use Rattle.std.proofs.lemmas.List.{get_or-set_same, get_or-set_other, get_or_default, append-nil, take_more, take_more_set, take-append-drop, take-take}
use Rattle.std.proofs.lemmas.List.Concat.{flat_map-append}
use Rattle.std.proofs.lemmas.List.Sums.{sum_by-append, sum_by-cons, sum_by-drop_more, get_or-le-sum_by}
use Rattle.tenant_state.specs.Jobs.{released_at}
use Rattle.tenant_state.specs.Standing.{Standing, at_rest, no_tenant, most_released}
use Rattle.instant_engine.specs.cited.Instants.{AreStepped}
use Rattle.instant_engine.specs.Tenants.{ArePlaced, most_of, released_from, tenant_at}
use Rattle.instant_engine.specs.cited.Tenants.{binds_of, granted_at}
use Rattle.instant_engine.specs.cited.Halves.{IsSecondHalfAndKnown, last_jobs}
use Rattle.instant_engine.proofs.cited.AtRest.{same_most}

-- the first `n` tenants have taken the step, by their places, and the others are as they were
pub record AreSteppedTo (step : ℕ → Standing → Standing → Type 0) (n : ℕ) (before now : List Standing) : Type 0 where
  pub as_many : length now ≡ length before
  pub stepped : (t : ℕ) → t < n → step t (tenant_at before t) (tenant_at now t)
  pub others : (t : ℕ) → n ≤ t → tenant_at now t ≡ tenant_at before t

abbrev pub AreSecondHalvesTo : List ℤ → List (Option ℤ) → ℕ → List Standing → List Standing → Type 0
AreSecondHalvesTo frame granted n before = AreSteppedTo (λ t. IsSecondHalfAndKnown frame (granted_at before t granted)) n before

-- at the loop's end
pub stepped_all : (R : ℕ → Standing → Standing → Type 0) (n : ℕ) (before now : List Standing) → length before ≤ n → AreSteppedTo R n before now → AreStepped R before now
stepped_all R n before now le steps = record { as_many = steps.as_many; each = λ t lt. steps.stepped t (omega arith) }

pub stepped_none : (R : ℕ → Standing → Standing → Type 0) (xs : List Standing) → AreSteppedTo R 0 xs xs
stepped_none R xs = record { as_many = refl; stepped = λ t lt. absurd (omega arith); others = λ t le. refl }

-- the next tenant is as it was
pub unstepped : (R : ℕ → Standing → Standing → Type 0) (i : ℕ) (before now : List Standing) (d : Standing) → i < length before → AreSteppedTo R i before now → get_or now i d ≡ tenant_at before i
unstepped R i before now d lt steps = get_or_default now i d no_tenant (omega (arith, steps.as_many)) ∙ steps.others i (omega arith)

pub stepped_more : (R : ℕ → Standing → Standing → Type 0) (i : ℕ) (before now : List Standing) (d s : Standing) → i < length before
    → AreSteppedTo R i before now → R i (get_or now i d) s → AreSteppedTo R (i + 1) before (set now i s)
stepped_more R i before now d s lt steps one = record {
  as_many = length-set now i s ∙ steps.as_many;
  stepped = λ t below. ⊎_elim
      (λ (e : t ≡ i).
      subst (λ k. R k (tenant_at before k) (tenant_at (set now i s) k)) (sym e)
      (subst (R i (tenant_at before i)) (sym (get_or-set_same now i s no_tenant (omega (arith, steps.as_many))))
      (subst (λ y. R i y s) (unstepped R i before now d lt steps) one)))
      (λ (differ : t ≢ i). subst (R t (tenant_at before t)) (sym (get_or-set_other now i t s no_tenant differ)) (steps.stepped t (omega arith)))
      (cases_eq t i);
  others = λ t le. get_or-set_other now i t s no_tenant (λ e. absurd (omega arith)) ∙ steps.others t (omega arith);
}

-- the binds of the tenants before the next
pub binds_more : (R : ℕ → Standing → Standing → Type 0) (i : ℕ) (before now : List Standing) (d : Standing) → i < length before → AreSteppedTo R i before now
    → binds_of (take (i + 1) before) ≡ binds_of (take i before) + length (get_or now i d).row.binds
binds_more R i before now d lt steps =
    ap binds_of (take_more before i no_tenant lt) ∙ sum_by-append (λ (s : Standing). length s.row.binds) (take i before) (tenant_at before i ∷ [])
    ∙ omega (arith, ap (λ (s : Standing). length s.row.binds) (unstepped R i before now d lt steps))

-- the binds of the tenants before the next, if none has taken a step
pub binds_next : (i : ℕ) (tenants : List Standing) → i < length tenants → binds_of (take (i + 1) tenants) ≡ binds_of (take i tenants) + length (tenant_at tenants i).row.binds
binds_next i tenants lt = binds_more (λ t x y. x ≡ y) i tenants tenants no_tenant lt (record { as_many = refl; stepped = λ t below. refl; others = λ t le. refl })

-- they are among the binds of all
pub binds_within : (i : ℕ) (before : List Standing) → binds_of (take i before) ≤ binds_of before
binds_within i before =
    let binds : Standing → ℕ = λ s. length s.row.binds in
    omega (arith, ap binds_of (sym (take-append-drop i before)) ∙ sum_by-append binds (take i before) (drop i before))

-- the binds of the tenants up to one are among those before a later one
pub binds_upto : (t i : ℕ) (tenants : List Standing) → t < i → i < length tenants → binds_of (take t tenants) + length (tenant_at tenants t).row.binds ≤ binds_of (take i tenants)
binds_upto t i tenants lt below =
    omega (
      arith,
      binds_next t tenants (omega (arith, lt, below)),
      ap binds_of (take-take (t + 1) i tenants (omega (arith, lt))),
      binds_within (t + 1) (take i tenants),
    )

pub most_left : (R : ℕ → Standing → Standing → Type 0) (i : ℕ) (before now : List Standing) (d : Standing) → i < length before → AreSteppedTo R i before now
    → most_of (drop i before) ≡ most_released (get_or now i d).row + most_of (drop (i + 1) before)
most_left R i before now d lt steps =
    sum_by-drop_more (λ (s : Standing). most_released s.row) before i no_tenant lt
    ∙ ap (λ (s : Standing). most_released s.row + most_of (drop (i + 1) before)) (sym (unstepped R i before now d lt steps))

-- the last jobs of the tenants before the next, and of one more
pub jobs_more : (i : ℕ) (tenants : List Standing) → i < length tenants → flat_map last_jobs (take (i + 1) tenants) ≡ flat_map last_jobs (take i tenants) ++ last_jobs (tenant_at tenants i)
jobs_more i tenants lt =
    ap (flat_map last_jobs) (take_more tenants i no_tenant lt) ∙ flat_map-append last_jobs (take i tenants) (tenant_at tenants i ∷ [])
    ∙ ap (λ js. flat_map last_jobs (take i tenants) ++ js) (append-nil (last_jobs (tenant_at tenants i)))

-- the last jobs of all are those of one instant, if it is the last of each
pub jobs_of_instant : (n from : ℕ) (tenants : List Standing) → ((t : ℕ) → t < length tenants → (tenant_at tenants t).tenancy.owner.place ≡ from + t)
    → ((t : ℕ) → t < length tenants → (tenant_at tenants t).row.next_tick ≡ n + 1) → flat_map last_jobs tenants ≡ released_from n from tenants
jobs_of_instant n from [] placed counts = refl
jobs_of_instant n from (x ∷ xs) placed counts =
    let place : x.tenancy.owner.place ≡ from = omega (arith, placed 0 (omega arith)) in
    let last : x.row.next_tick - 1 ≡ n = omega (arith, counts 0 (omega arith)) in
    (λ k. released_at (place k) (last k) x.row ++ flat_map last_jobs xs)
    ∙ ap (λ js. released_at from n x.row ++ js)
    (jobs_of_instant n (from + 1) xs (λ t lt. omega (arith, placed (suc t) (omega (arith, lt)))) (λ t lt. counts (suc t) (omega (arith, lt))))

-- sums over tenants before and after a step, tenant by tenant
pub sums_within : {A B : Type 0} (f : A → ℕ) (g : B → ℕ) (d : A) (e : B) (xs : List A) (ys : List B) → length xs ≡ length ys → ((t : ℕ) → t < length xs → f (get_or xs t d) ≤ g (get_or ys t e)) → sum_by f xs ≤ sum_by g ys
sums_within f g d e [] ys long each = omega arith
sums_within f g d e (x ∷ xs) [] long each = absurd (omega (arith, long))
sums_within f g d e (x ∷ xs) (y ∷ ys) long each =
    omega (arith, sum_by-cons f x xs, sum_by-cons g y ys, each 0 (omega arith), sums_within f g d e xs ys (omega (arith, long)) (λ t lt. each (suc t) (omega (arith, lt))))

-- the most jobs of the tenants so far, and of one more
pub most_more : (xs : List Standing) (i : ℕ) (s : Standing) → i < length xs → most_of (take (i + 1) (set xs i s)) ≡ most_of (take i xs) + most_released s.row
most_more xs i s lt =
    let most : Standing → ℕ = λ s. most_released s.row in
    ap most_of (take_more_set xs i s lt) ∙ omega (arith, sum_by-append most (take i xs) (s ∷ []), sum_by-cons most s [])

-- if all together can release nothing, neither can one
pub none_of_one : (before now : List Standing) (i : ℕ) (d : Standing) → map at_rest now ≡ map at_rest before → i < length now → most_of before ≡ 0 → most_released (get_or now i d).row ≡ 0
none_of_one before now i d same lt none =
    let most : Standing → ℕ = λ s. most_released s.row in
    omega (arith, same_most before now same, none, get_or-le-sum_by most now i d lt)

-- after a step of all tenants
pub placed_behind : (R : ℕ → Standing → Standing → Type 0) → ((t : ℕ) (s x : Standing) → R t s x → x.tenancy.owner.place ≡ s.tenancy.owner.place) → (before after : List Standing)
    → AreStepped R before after → ArePlaced before → ArePlaced after
placed_behind R keeps before after steps placed t lt =
    let within : t < length before = omega (arith, steps.as_many) in
    keeps t (tenant_at before t) (tenant_at after t) (steps.each t within) ∙ placed t within
