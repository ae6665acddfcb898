-- The places of a window.
use Rattle.std.proofs.Common.{◌≡◌, ◌≢◌, ◌<◌, ◌≤◌, ◌+◌, ◌-◌, ◌/◌, ◌%◌, ℕ, ⊎_elim, nat_lt, eqb, Bool, true, false, if◌then◌else◌, List, length, replicate, refl, sym, ap, subst, ◌∙◌, arith}
use Rattle.std.specs.Int.{bit_at}
use Rattle.std.proofs.lemmas.Nat.Bits.{bit_at-zero}
use Rattle.std.proofs.Math.ListN.{get_or, get_or-eq_default}
use Rattle.std.proofs.lemmas.Bool.{cases_lt, cases_eq}
use Rattle.std.proofs.lemmas.List.{get_or-replicate, length-replicate}
use Rattle.rig_model.specs.declared.logged.Logged.{Logged}
use Rattle.locked_book.specs.inner.Places.{ApartWithin, InWindow, mark_of, place_in}

-- the marks of the entries up to n: each of their places in the window has one, nothing else has, and none of them is there twice
pub record AreMarked (entries : List (ℕ × Logged)) (start n : ℕ) (marks : List ℕ) : Type 0 where
  pub each : (j : ℕ) → j < n → InWindow start (place_in entries j) → mark_of marks start (place_in entries j) ≡ true
  pub no_other : (p : ℕ) → ((j : ℕ) → j < n → place_in entries j ≢ p) → mark_of marks start p ≡ false
  pub apart : (i j : ℕ) → i < j → j < n → InWindow start (place_in entries j) → place_in entries i ≢ place_in entries j

-- one more entry, whose place had no mark
pub marked_on : (entries : List (ℕ × Logged)) (start n : ℕ) (old new : List ℕ) → AreMarked entries start n old
    → mark_of old start (place_in entries n) ≡ false
    → (InWindow start (place_in entries n) → mark_of new start (place_in entries n) ≡ true)
    → ((p : ℕ) → p ≢ place_in entries n → mark_of new start p ≡ mark_of old start p)
    → AreMarked entries start (n + 1) new
marked_on entries start n old new are fresh marked others = record {
  each = λ j lt within. ⊎_elim (λ e. each_here j e within) (λ ne. others (place_in entries j) ne ∙ each_there j lt ne within) (cases_eq (place_in entries j) (place_in entries n));
  no_other = λ p none.
      others p (λ e. none n (omega arith) (sym e)) ∙ are.no_other p (λ j lt. none j (omega (arith, lt)));
  apart = λ i j lt in_ within. ⊎_elim
      (λ (less : j < n). are.apart i j lt less within)
      (λ (le : n ≤ j). let same : j ≡ n = omega (arith, in_, le) in apart_here i j lt same within)
      (cases_lt j n);
}
  where
    each_here : (j : ℕ) → place_in entries j ≡ place_in entries n → InWindow start (place_in entries j) → mark_of new start (place_in entries j) ≡ true
    each_here j e within = ap (mark_of new start) e ∙ marked (subst (InWindow start) e within)

    each_there : (j : ℕ) → j < n + 1 → place_in entries j ≢ place_in entries n → InWindow start (place_in entries j) → mark_of old start (place_in entries j) ≡ true
    each_there j lt ne within = ⊎_elim
        (λ (less : j < n). are.each j less within)
        (λ (le : n ≤ j). absurd (ne (ap (place_in entries) (let same : j ≡ n = omega (arith, lt, le) in same))))
        (cases_lt j n)

    apart_here : (i j : ℕ) → i < j → j ≡ n → InWindow start (place_in entries j) → place_in entries i ≢ place_in entries j
    apart_here i j lt same within e =
        let last : place_in entries j ≡ place_in entries n = ap (place_in entries) same in
        let was : mark_of old start (place_in entries i) ≡ true = are.each i (omega (arith, lt, same)) (subst (InWindow start) (sym e) within) in
        let not : mark_of old start (place_in entries i) ≡ false = ap (mark_of old start) (e ∙ last) ∙ fresh in
        cc

-- a place that was marked is one of those before
pub marked_before : (entries : List (ℕ × Logged)) (start n : ℕ) (marks : List ℕ) → AreMarked entries start n marks
    → n < length entries → InWindow start (place_in entries n) → mark_of marks start (place_in entries n) ≡ true
    → ApartWithin entries start (start + 524288) → ⊥
marked_before entries start n marks are lt within is apart =
    let none : mark_of marks start (place_in entries n) ≡ false = are.no_other (place_in entries n) (λ j less. apart j n less lt within.behind within.before) in
    cc

pub none_twice : (entries : List (ℕ × Logged)) (start n : ℕ) (marks : List ℕ) → AreMarked entries start n marks → length entries ≤ n → ApartWithin entries start (start + 524288)
none_twice entries start n marks are le i j lt in_ behind before =
    are.apart i j lt (omega (arith, in_, le)) (record { behind = behind; before = before })

-- a window without marks
unmarked : (marks : List ℕ) (start p : ℕ) → ((k : ℕ) → get_or marks k 0 ≡ 0) → mark_of marks start p ≡ false
unmarked marks start p none = by (nat_lt p start)
  where
    bit : bit_at (get_or marks ((p - start) / 64) 0) ((p - start) % 64) ≡ 0
    bit = ap (λ n. bit_at n ((p - start) % 64)) (none ((p - start) / 64)) ∙ bit_at-zero ((p - start) % 64)

    by : (b : Bool) → (if b then false else eqb (bit_at (get_or marks ((p - start) / 64) 0) ((p - start) % 64)) 1) ≡ false
    by true = refl
    by false = ap (λ n. eqb n 1) bit

abbrev no_words : List ℕ
no_words = replicate 8192 0

clear : (k : ℕ) → get_or no_words k 0 ≡ 0
clear k = ⊎_elim
    (λ (lt : k < 8192). get_or-replicate 8192 k 0 0 lt)
    (λ (le : 8192 ≤ k). get_or-eq_default no_words 0 (subst (λ l. l ≤ k) (sym long) le))
    (cases_lt k 8192)
  where
    long : length no_words ≡ 8192
    long = length-replicate {A = ℕ} 8192 0

pub none_marked : (entries : List (ℕ × Logged)) (start : ℕ) → AreMarked entries start 0 (replicate 8192 0)
none_marked entries start = record {
  each = λ j lt within. absurd (omega (arith, lt));
  no_other = λ p none. unmarked no_words start p clear;
  apart = λ i j lt in_ within. absurd (omega (arith, in_));
}
