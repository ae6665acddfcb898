-- Tests and what follows from them. Std has `and_parts`, `and_from`, `or_left`, `or_right`, `or_parts`, `or_cases` and
-- `false_from_ne_true` in addition to these.
use Rattle.std.proofs.Common.{◌≡◌, Bool, true, false, not, cond, ◌&&◌, ◌||◌, refl, sym}
use Rattle.std.proofs.lemmas.Bool.{false≢true}

-- what follows from either side of an `or` follows from the `or`
pub either : (a b : Bool) (C : Type 0) → (a || b) ≡ true → (a ≡ true → C) → (b ≡ true → C) → C
either true b C e f g = f refl
either false b C e f g = g e

pub or_true : (b : Bool) → (b || true) ≡ true
or_true true = refl
or_true false = refl

pub or_assoc : (a b c : Bool) → (a || (b || c)) ≡ ((a || b) || c)
or_assoc true b c = refl
or_assoc false b c = refl

pub or_turned : (a b : Bool) → (a || b) ≡ (b || a)
or_turned true true = refl
or_turned true false = refl
or_turned false true = refl
or_turned false false = refl

pub and_turned : (a b : Bool) → (a && b) ≡ (b && a)
and_turned true true = refl
and_turned true false = refl
and_turned false true = refl
and_turned false false = refl

pub and_true : (b : Bool) → (b && true) ≡ b
and_true true = refl
and_true false = refl

pub and_false : (b : Bool) → (b && false) ≡ false
and_false true = refl
and_false false = refl

pub not_either : (a b : Bool) → not a ≡ true → not b ≡ true → not (a || b) ≡ true
not_either true b h k = absurd (false≢true h)
not_either false b h k = k

-- tests that follow from each other are equal
pub same_answers : (a b : Bool) → (a ≡ true → b ≡ true) → (b ≡ true → a ≡ true) → a ≡ b
same_answers true true f g = refl
same_answers false false f g = refl
same_answers true false f g = sym (f refl)
same_answers false true f g = g refl

-- an `or` with a test that follows from the other is that test
pub absorbed : (a b : Bool) → (a ≡ true → b ≡ true) → (a || b) ≡ b
absorbed true b f = sym (f refl)
absorbed false b f = refl

pub cond-same : {X : Type 0} (b : Bool) (x : X) → cond b x x ≡ x
cond-same true x = refl
cond-same false x = refl
