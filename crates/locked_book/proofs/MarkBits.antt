-- The marks of a window, bit by bit.
use Rattle.std.proofs.Common.{◌≡◌, ◌≢◌, ◌<◌, ◌≤◌, ◌-◌, ◌*◌, ◌/◌, ◌%◌, ◌^◌, ℕ, ⊎_elim, eqb, Bool, true, false, if◌then◌else◌, List, length, set, bit_or, sym, ap, ◌∙◌, arith}
use Rattle.std.specs.Int.{bit_at, w64}
use Rattle.std.proofs.Math.ListN.{get_or}
use Rattle.std.proofs.lemmas.Bool.{cases_eq, cases_lt, le-ltb, lt-ltb}
use Rattle.std.proofs.lemmas.List.{get_or-set_same, get_or-set_other}
use Rattle.std.proofs.lemmas.Nat.Bits.{bit_at_set_same, bit_at_set_other}
use Rattle.locked_book.specs.inner.Places.{mark_of}

-- the bit of the place at this distance from the start
abbrev bit_of : List ℕ → ℕ → ℕ
bit_of marks at = bit_at (get_or marks (at / 64) 0) (at % 64)

-- that bit set
abbrev pub with_bit : List ℕ → ℕ → List ℕ
with_bit marks at = set marks (at / 64) (bit_or (get_or marks (at / 64) 0) (1 * 2 ^ (at % 64) % 18446744073709551616))

bit_behind : (marks : List ℕ) (start p : ℕ) → start ≤ p → mark_of marks start p ≡ eqb (bit_of marks (p - start)) 1
bit_behind marks start p le = ap (λ (b : Bool). if b then false else eqb (bit_of marks (p - start)) 1) (le-ltb p start le)

none_before : (marks : List ℕ) (start p : ℕ) → p < start → mark_of marks start p ≡ false
none_before marks start p lt = ap (λ (b : Bool). if b then false else eqb (bit_of marks (p - start)) 1) (lt-ltb p start lt)

bit_here : (marks : List ℕ) (at : ℕ) → at / 64 < length marks → bit_of (with_bit marks at) at ≡ 1
bit_here marks at lt =
    ap (λ n. bit_at n (at % 64)) (get_or-set_same marks (at / 64) (bit_or (get_or marks (at / 64) 0) (1 * 2 ^ (at % 64) % 18446744073709551616)) 0 lt)
    ∙ bit_at_set_same w64 (get_or marks (at / 64) 0) (at % 64) (omega arith)

bit_there : (marks : List ℕ) (at other : ℕ) → at / 64 < length marks → other ≢ at → bit_of (with_bit marks at) other ≡ bit_of marks other
bit_there marks at other lt ne = ⊎_elim same_word other_word (cases_eq (other / 64) (at / 64))
  where
    same_word : other / 64 ≡ at / 64 → bit_of (with_bit marks at) other ≡ bit_of marks other
    same_word e =
        ap (λ k. bit_at (get_or (with_bit marks at) k 0) (other % 64)) e
        ∙ ap (λ n. bit_at n (other % 64)) (get_or-set_same marks (at / 64) (bit_or (get_or marks (at / 64) 0) (1 * 2 ^ (at % 64) % 18446744073709551616)) 0 lt)
        ∙ bit_at_set_other w64 (get_or marks (at / 64) 0) (at % 64) (omega arith) (other % 64) (λ same. ne (omega (arith, e, same)))
        ∙ ap (λ k. bit_at (get_or marks k 0) (other % 64)) (sym e)

    other_word : other / 64 ≢ at / 64 → bit_of (with_bit marks at) other ≡ bit_of marks other
    other_word far = ap (λ n. bit_at n (other % 64)) (get_or-set_other marks (at / 64) (other / 64) (bit_or (get_or marks (at / 64) 0) (1 * 2 ^ (at % 64) % 18446744073709551616)) 0 far)

pub is_marked : (marks : List ℕ) (start place : ℕ) → length marks ≡ 8192 → start ≤ place → place - start < 524288
    → mark_of (with_bit marks (place - start)) start place ≡ true
is_marked marks start place long le lt =
    let within : (place - start) / 64 < length marks = omega (arith, long, lt) in
    bit_behind (with_bit marks (place - start)) start place le ∙ ap (λ n. eqb n 1) (bit_here marks (place - start) within)

pub no_other_marked : (marks : List ℕ) (start place : ℕ) → length marks ≡ 8192 → start ≤ place → place - start < 524288
    → (p : ℕ) → p ≢ place → mark_of (with_bit marks (place - start)) start p ≡ mark_of marks start p
no_other_marked marks start place long le lt p ne = ⊎_elim
    (λ (less : p < start). none_before (with_bit marks (place - start)) start p less ∙ sym (none_before marks start p less))
    (λ (more : start ≤ p).
    let within : (place - start) / 64 < length marks = omega (arith, long, lt) in
    bit_behind (with_bit marks (place - start)) start p more
    ∙ ap (λ n. eqb n 1) (bit_there marks (place - start) (p - start) within (λ e. ne (omega (arith, e, le, more))))
    ∙ sym (bit_behind marks start p more))
    (cases_lt p start)
