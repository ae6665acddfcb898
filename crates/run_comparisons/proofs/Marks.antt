-- A word may be cut after its last mark.
use Rattle.std.proofs.Common.{◌≡◌, ℕ, zero, suc, ◌+◌, ◌-◌, ◌<◌, ◌≤◌, Bool, true, false, not, List, length, get_or, reverse, refl, sym, ap, ◌∙◌, subst, arith}
use Rattle.std.proofs.lemmas.Bool.Decides.{nat_tests}
use Rattle.std.proofs.lemmas.List.{get_or-reverse, length-reverse}
use Rattle.std.proofs.lemmas.List.Sums.{prefix_len_stops}
use Rattle.std.proofs.lemmas.Str.{IsCharBoundary-after_ascii, IsCharBoundary-start}
use Rattle.std.specs.List.{suffix_len}
use Rattle.std.specs.Str.{IsCharBoundary, IsUtf8}
use Rattle.run_comparisons.specs.Alike.{is_mark, mark_end}

mark_is_ascii : (c : ℕ) → is_mark c ≡ true → c < 128
mark_is_ascii c e = grind (arith, nat_tests)

after_mark : (bs : List ℕ) (n : ℕ) → IsUtf8 bs → n ≤ length bs → (0 < n → is_mark (get_or bs (n - 1) 0) ≡ true) → IsCharBoundary bs n
after_mark bs zero utf8 le mark = IsCharBoundary-start bs utf8
after_mark bs (suc n) utf8 le mark =
    let before : suc n - 1 ≡ n = omega arith in
    let next : n + 1 ≡ suc n = omega arith in
    let is : is_mark (get_or bs n 0) ≡ true = rw before at (mark (omega arith)) in
    subst (IsCharBoundary bs) next (IsCharBoundary-after_ascii bs n utf8 (omega (arith, le)) (mark_is_ascii (get_or bs n 0) is))

not_is : (b : Bool) → not b ≡ false → b ≡ true
not_is true is = refl
not_is false is = cc

mark_before : (bs : List ℕ) → 0 < mark_end bs → is_mark (get_or bs (mark_end bs - 1) 0) ≡ true
mark_before bs some =
    let k = suffix_len (λ c. not (is_mark c)) bs in
    let within : k < length bs = omega (arith, some) in
    let stops : not (is_mark (get_or (reverse bs) k 0)) ≡ false = prefix_len_stops (λ c. not (is_mark c)) (reverse bs) 0 (omega (arith, within, length-reverse bs)) in
    let place : length bs - 1 - k ≡ mark_end bs - 1 = omega (arith, within) in
    ap (λ i. is_mark (get_or bs i 0)) (sym place) ∙ (ap is_mark (sym (get_or-reverse bs k 0 within)) ∙ not_is (is_mark (get_or (reverse bs) k 0)) stops)

pub boundary_at_mark : (bs : List ℕ) → IsUtf8 bs → IsCharBoundary bs (mark_end bs)
boundary_at_mark bs utf8 = after_mark bs (mark_end bs) utf8 (omega arith) (mark_before bs)
