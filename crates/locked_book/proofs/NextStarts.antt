-- Where the next window begins.
use Rattle.std.proofs.Common.{◌≡◌, ◌<◌, ◌≤◌, ◌+◌, ◌^◌, ◌↔◌, IsTrue, true, ℕ, ⊎_elim, max, List, length, Option, Some, None, refl, ap, subst, arith, map}
use Rattle.std.proofs.lemmas.Bool.{cases_lt}
use Rattle.std.proofs.lemmas.List.{length-map}
use Rattle.rig_model.specs.declared.logged.Logged.{Logged}
use Rattle.locked_book.specs.Books.{AreApart}
use Rattle.locked_book.specs.inner.Places.{ApartWithin, IsNextStart, least_with, place_in}

-- the entries up to n have no higher place
abbrev pub HighestOf : List (ℕ × Logged) → ℕ → ℕ → Type 0
HighestOf entries n highest = (k : ℕ) → k < n → place_in entries k ≤ highest

-- the place comes before the start, if there is one
abbrev pub IsBefore : Option ℕ → ℕ → Type 0
IsBefore None place = Unit {0}
IsBefore (Some start) place = place < start

-- the start, if there is one, isn't before this place
abbrev pub IsFrom : ℕ → Option ℕ → Type 0
IsFrom from None = Unit {0}
IsFrom from (Some start) = from ≤ start

-- among the entries up to n each place from this one on, and before the start, is higher than all before it
pub record RisesUpTo (entries : List (ℕ × Logged)) (from n highest : ℕ) (start : Option ℕ) : Type 0 where
  pub highest_of : HighestOf entries n highest
  pub from_on : IsFrom from start
  pub fit : (k : ℕ) → k < n → place_in entries k < 2 ^ 128
  pub rising : (k j : ℕ) → k < j → j < n → from ≤ place_in entries j → IsBefore start (place_in entries j) → place_in entries k < place_in entries j

pub rises_none : (entries : List (ℕ × Logged)) (from : ℕ) → RisesUpTo entries from 0 0 None
rises_none entries from = record {
  highest_of = λ k lt. absurd (omega (arith, lt));
  from_on = tt;
  fit = λ k lt. absurd (omega (arith, lt));
  rising = λ k j lt in_ behind before. absurd (omega (arith, in_));
}

highest_on : (entries : List (ℕ × Logged)) (n highest : ℕ) → HighestOf entries n highest → HighestOf entries (n + 1) (max highest (place_in entries n))
highest_on entries n highest is k lt = ⊎_elim
    (λ (less : k < n). let below = is k less in omega (arith, below))
    (λ (le : n ≤ k). let same : place_in entries k ≡ place_in entries n = ap (place_in entries) (let e : k ≡ n = omega (arith, lt, le) in e) in omega (arith, same))
    (cases_lt k n)

fit_on : (entries : List (ℕ × Logged)) (n : ℕ) → ((k : ℕ) → k < n → place_in entries k < 2 ^ 128) → place_in entries n < 2 ^ 128
    → (k : ℕ) → k < n + 1 → place_in entries k < 2 ^ 128
fit_on entries n fit new k lt = ⊎_elim
    (λ (less : k < n). fit k less)
    (λ (le : n ≤ k). subst (λ j. place_in entries j < 2 ^ 128) (let e : n ≡ k = omega (arith, lt, le) in e) new)
    (cases_lt k n)

least_before : (start : Option ℕ) (place p : ℕ) → p < least_with start place → IsBefore start p
least_before None place p lt = tt
least_before (Some other) place p lt = omega (arith, lt)

least_place : (start : Option ℕ) (place : ℕ) → least_with start place ≤ place
least_place None place = omega arith
least_place (Some other) place = omega arith

least_from : (from : ℕ) (start : Option ℕ) (place : ℕ) → IsFrom from start → from ≤ place → from ≤ least_with start place
least_from from None place is le = le
least_from from (Some other) place is le = omega (arith, is, le)

-- one more entry, whose place comes after one at least as high
pub rises_on_late : (entries : List (ℕ × Logged)) (from n highest : ℕ) (start : Option ℕ) → RisesUpTo entries from n highest start
    → place_in entries n < 2 ^ 128 → from ≤ place_in entries n → RisesUpTo entries from (n + 1) (max highest (place_in entries n)) (Some (least_with start (place_in entries n)))
rises_on_late entries from n highest start is fits behind_ = record {
  highest_of = highest_on entries n highest is.highest_of;
  fit = fit_on entries n is.fit fits;
  from_on = least_from from start (place_in entries n) is.from_on behind_;
  rising = λ k j lt in_ behind before. ⊎_elim
      (λ (less : j < n). is.rising k j lt less behind (least_before start (place_in entries n) (place_in entries j) before))
      (λ (le : n ≤ j). absurd (let same : place_in entries j ≡ place_in entries n = ap (place_in entries) (let e : j ≡ n = omega (arith, in_, le) in e) in let l = least_place start (place_in entries n) in omega (arith, same, l, before)))
      (cases_lt j n);
}

-- one more entry, whose place doesn't
pub rises_on : (entries : List (ℕ × Logged)) (from n highest : ℕ) (start : Option ℕ) → RisesUpTo entries from n highest start
    → place_in entries n < 2 ^ 128 → (from ≤ place_in entries n → highest < place_in entries n) → RisesUpTo entries from (n + 1) (max highest (place_in entries n)) start
rises_on entries from n highest start is fits new = record {
  highest_of = highest_on entries n highest is.highest_of;
  fit = fit_on entries n is.fit fits;
  from_on = is.from_on;
  rising = λ k j lt in_ behind before. ⊎_elim
      (λ (less : j < n). is.rising k j lt less behind before)
      (λ (le : n ≤ j). let e : j ≡ n = omega (arith, in_, le) in last k j lt e behind)
      (cases_lt j n);
}
  where
    last : (k j : ℕ) → k < j → j ≡ n → from ≤ place_in entries j → place_in entries k < place_in entries j
    last k j lt e behind =
        let same : place_in entries j ≡ place_in entries n = ap (place_in entries) e in
        let below = is.highest_of k (omega (arith, lt, e)) in
        let above = new (omega (arith, behind, same)) in
        omega (arith, same, below, above)

pub next_start : (entries : List (ℕ × Logged)) (from n highest : ℕ) (start : Option ℕ) → RisesUpTo entries from n highest start → length entries ≤ n → IsNextStart entries from start
next_start entries from n highest None is le = λ to i j lt in_ behind before same. (let rises = is.rising i j lt (omega (arith, in_, le)) behind tt in omega (arith, rises, same))
next_start entries from n highest (Some start) is le = (is.from_on, λ i j lt in_ behind before same. (let rises = is.rising i j lt (omega (arith, in_, le)) behind before in omega (arith, rises, same)))

-- what is apart up to a place, and from there on, is apart in all
pub joined : (entries : List (ℕ × Logged)) (from middle to : ℕ) → ApartWithin entries from middle → ApartWithin entries middle to → ApartWithin entries from to
joined entries from middle to first second i j lt in_ behind before = ⊎_elim
    (λ (less : place_in entries j < middle). first i j lt in_ behind less)
    (λ (le : middle ≤ place_in entries j). second i j lt in_ le before)
    (cases_lt (place_in entries j) middle)

-- if no place at all is there twice
pub whole : (entries : List (ℕ × Logged)) → ((j : ℕ) → j < length entries → place_in entries j < 2 ^ 128) → ApartWithin entries 0 (2 ^ 128)
    → IsTrue true ↔ AreApart (map (λ (e : ℕ × Logged). e.0) entries)
whole entries fit apart = (
  (λ e i j lt in_. let l = length-map entries (λ (x : ℕ × Logged). x.0) in let lt_ : j < length entries = omega (arith, in_, l) in apart i j lt lt_ (omega arith) (fit j lt_)),
  (λ f. refl),
)

-- after a window that reaches the end
pub whole_to : (entries : List (ℕ × Logged)) (to : ℕ) → ((j : ℕ) → j < length entries → place_in entries j < 2 ^ 128) → ApartWithin entries 0 to → 2 ^ 128 ≤ to
    → IsTrue true ↔ AreApart (map (λ (e : ℕ × Logged). e.0) entries)
whole_to entries to fit apart le = whole entries fit (λ i j lt in_ behind before. apart i j lt in_ behind (omega (arith, before, le)))
