-- What a report has after one more line, and where a line is cut.
use Rattle.std.proofs.Common.{◌≡◌, ◌+◌, ◌-◌, take, get_or, ◌<◌, ℕ, zero, suc, Bool, true, false, ◌==◌, ◌||◌, nat_lt, nat_le, List, ◌++◌, ◌∷◌, [], length, slice_index, Result, Ok, Err, OnOk, refl, sym, ap, ◌∙◌, append_assoc, arith}
use Rattle.std.proofs.lemmas.Bool.Decides.{nat_tests}
use Rattle.std.proofs.lemmas.List.{flat_map_more, take_more}
use Rattle.std.specs.List.{flat_map}
use Rattle.std.specs.Str.{IsCharBoundary}
use Rattle.script_reports.specs.cited.Reports.{is_boundary, last_boundary}

pub tested : (text : List ℕ) (i : ℕ) → IsCharBoundary text i → is_boundary text i ≡ true
tested text i h = by (i == length text) refl
  where
    by : (b : Bool) → (i == length text) ≡ b → is_boundary text i ≡ true
    by true e = rw e refl
    by false e =
        let within : nat_lt i (length text) ≡ true = grind (arith, nat_tests, e, h.0) in
        let low : (b : Bool) → nat_lt (slice_index text i) 128 ≡ b → (nat_lt (slice_index text i) 128 || nat_le 192 (slice_index text i)) ≡ true =
        λ b is. grind (arith, nat_tests, e, h.0, h.1, is) in
        rw (e, within) (low (nat_lt (slice_index text i) 128) refl)

pub untested : (text : List ℕ) (i : ℕ) → ¬ (IsCharBoundary text i) → is_boundary text i ≡ false
untested text i none = by (is_boundary text i) refl
  where
    by : (b : Bool) → is_boundary text i ≡ b → b ≡ false
    by false e = refl
    by true e = absurd (none (grind (arith, nat_tests, e)))

-- a loop that writes a text for each element, one element further
pub written_more : {X : Type 0} (f : X → List ℕ) (xs : List X) (i : ℕ) (x : X) (before after told : List ℕ) → before ≡ flat_map f (take i xs) → told ≡ f x → x ≡ get_or xs i x → i < length xs → after ≡ before ++ told
    → after ≡ flat_map f (take (i + 1) xs)
written_more f xs i x before after told all is item within grown =
    let next : take i xs ++ x ∷ [] ≡ take (i + 1) xs = ap (λ y. take i xs ++ y ∷ []) item ∙ sym (take_more xs i x within) in
    grown ∙ (ap (λ t. before ++ t) is ∙ (ap (λ t. t ++ f x) all ∙ (flat_map_more f [] (take i xs) x ∙ ap (flat_map f) next)))

-- one place further to the front, if no character begins here
pub boundary_before : (text : List ℕ) (i : ℕ) → 0 < i → ¬ (IsCharBoundary text i) → last_boundary text i ≡ last_boundary text (i - 1)
boundary_before text zero some none = absurd (omega (arith, some))
boundary_before text (suc i) some none = let same : suc i - 1 ≡ i = omega arith in rw (untested text (suc i) none, same) refl

-- a text is added in two parts
pub added_both : {T E : Type 0} (r : Result T E) (before between after one two first second : List ℕ) → between ≡ before ++ one → one ≡ first → two ≡ second → OnOk r (after ≡ between ++ two) → OnOk r (after ≡ before ++ (first ++ second))
added_both (Err e) before between after one two first second grown is also h = tt
added_both (Ok x) before between after one two first second grown is also h =
    h ∙ (ap (λ t. t ++ two) grown ∙ (append_assoc before one two ∙ (ap (λ t. before ++ (t ++ two)) is ∙ ap (λ t. before ++ (first ++ t)) also)))
