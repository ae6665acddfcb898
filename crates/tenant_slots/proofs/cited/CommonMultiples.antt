-- Least common multiples: of two numbers by their greatest common divisor, of one more number, and by trying each number in turn.
use Rattle.std.proofs.Common.{◌≡◌, ℕ, zero, suc, ◌+◌, ◌*◌, ◌/◌, ◌<◌, ◌≤◌, ◌%◌, ◌==◌, Bool, true, false, cond, List, [], ◌∷◌, ◌++◌, refl, sym, ap, subst, ◌∙◌, arith}
use Rattle.std.proofs.Math.Nat.{dvd-mod_iff, dvd-mul_left, dvd-mul_right, dvd_of_mul-dvd-mul_right, div-mul_cancel, mul-dvd-mul_left, mul-dvd-mul_right, mod-lt, mul-pos, mul_comm, mul_assoc, pos_of_dvd_of_pos}
use Rattle.std.specs.Int.{◌∣◌, IsGcd}
use Rattle.std.proofs.lemmas.Bool.{and_parts, and_from, false≢true, eqb-true, eq-eqb}
use Rattle.std.proofs.lemmas.List.Folds.{list_all-append}
use Rattle.std.proofs.lemmas.Nat.Gcd.{dvd_refl, dvd_trans, le_of_dvd, dvd_of_mod-eq-zero, mod-eq-zero_of_dvd, IsGcd-from_zero, IsGcd-from_mod}
use Rattle.giotto_tasks.proofs.cited.ListLemmas.{all_wider}
use Rattle.rig_model.specs.CommonPeriods.{is_common_multiple, common_multiple_from, least_common_multiple}
use Rattle.tenant_slots.specs.cited.CommonPeriods.{IsLeastCommonMultiple}

pub divides : (k n : ℕ) → (n % k == 0) ≡ true → k ∣ n
divides k n e = dvd_of_mod-eq-zero k (eqb-true (n % k) 0 e)

pub is_divided : (k n : ℕ) → k ∣ n → (n % k == 0) ≡ true
is_divided k n d = eq-eqb (n % k) 0 (mod-eq-zero_of_dvd k d)

-- the first multiple
pub first_multiple : (k n : ℕ) (ks : List ℕ) → 0 < n → is_common_multiple (k ∷ ks) n ≡ true → k ≤ n
first_multiple k n ks some e = le_of_dvd some (divides k n (and_parts (n % k == 0) _ e).0)

-- of one number
pub of_one : (k : ℕ) → 0 < k → IsLeastCommonMultiple (k ∷ []) k
of_one k some = record {
  positive = some;
  common = and_from (k % k == 0) true (is_divided k k (dvd_refl k)) refl;
  least = λ n some e. first_multiple k n [] some e;
}

-- the remainder of a common multiple is one too
common_rest : (ks : List ℕ) (l n : ℕ) → is_common_multiple ks l ≡ true → is_common_multiple ks n ≡ true → is_common_multiple ks (n % l) ≡ true
common_rest [] l n el en = refl
common_rest (k ∷ ks) l n el en =
    let bl = and_parts (l % k == 0) (is_common_multiple ks l) el in
    let bn = and_parts (n % k == 0) (is_common_multiple ks n) en in
    and_from _ _ (is_divided k (n % l) ((dvd-mod_iff k (divides k l bl.0)).1 (divides k n bn.0))) (common_rest ks l n bl.1 bn.1)

-- the least divides the others
pub least_divides : (ks : List ℕ) (l n : ℕ) → IsLeastCommonMultiple ks l → is_common_multiple ks n ≡ true → l ∣ n
least_divides ks l n is e = dvd_of_mod-eq-zero l (none (n % l) refl)
  where
    none : (r : ℕ) → n % l ≡ r → r ≡ 0
    none zero same = refl
    none (suc r) same =
        let small : n % l < l = mod-lt n is.positive in
        let far : l ≤ n % l = is.least (n % l) (omega arith) (common_rest ks l n is.common e) in
        absurd (omega (arith, small, far))

-- a multiple of a common multiple is one
multiplied : (ks : List ℕ) (l n : ℕ) → l ∣ n → is_common_multiple ks l ≡ true → is_common_multiple ks n ≡ true
multiplied ks l n d e = all_wider (λ k. l % k == 0) (λ k. n % k == 0) (λ k h. is_divided k n (dvd_trans k (divides k l h) d)) ks e

-- the least common multiple with one more number
pub of_more : (ks : List ℕ) (k other l : ℕ) → IsLeastCommonMultiple ks other → IsLeastCommonMultiple (other ∷ k ∷ []) l → IsLeastCommonMultiple (ks ++ k ∷ []) l
of_more ks k other l before is = record {
  positive = is.positive;
  common =
      let both = and_parts (l % other == 0) (is_common_multiple (k ∷ []) l) is.common in
      list_all-append (λ k. l % k == 0) ks (k ∷ []) ∙ and_from _ _ (multiplied ks other l (divides other l both.0) before.common) both.1;
  least = λ n some e.
      let both = and_parts (is_common_multiple ks n) (is_common_multiple (k ∷ []) n) (sym (list_all-append (λ k. n % k == 0) ks (k ∷ [])) ∙ e) in
      is.least n some (and_from _ _ (is_divided other n (least_divides ks other n before both.0)) both.1);
}

-- a search from a number on finds it
found_from : (more n : ℕ) (ks : List ℕ) (l : ℕ) → IsLeastCommonMultiple ks l → 0 < n → n ≤ l → l < n + more → common_multiple_from more n ks ≡ l
found_from zero n ks l is some from before = absurd (omega arith)
found_from (suc more) n ks l is some from before = by (is_common_multiple ks n) refl (found_from more (n + 1) ks l is (omega arith))
  where
    by : (b : Bool) → is_common_multiple ks n ≡ b → (n + 1 ≤ l → l < n + 1 + more → common_multiple_from more (n + 1) ks ≡ l) → cond b n (common_multiple_from more (n + 1) ks) ≡ l
    by true e later = let le = is.least n some e in omega (arith, le)
    by false e later =
        let ne : n ≡ l → ⊥ = λ same. false≢true (sym e ∙ ap (is_common_multiple ks) same ∙ is.common) in
        later (omega (arith, ne)) (omega arith)

pub least_is : (period : ℕ) (ks : List ℕ) (l : ℕ) → IsLeastCommonMultiple ks l → l ≤ period → least_common_multiple period ks ≡ l
least_is period ks l is le = let some = is.positive in found_from period 1 ks l is (omega arith) (omega (arith, some)) (omega arith)

-- any two numbers have a greatest common divisor, by Euclid's algorithm
greatest_divisor : (steps a b : ℕ) → b < steps → (g : ℕ) × IsGcd a b g
greatest_divisor zero a b few = absurd (omega (arith, few))
greatest_divisor (suc steps) a zero few = (a, IsGcd-from_zero a zero refl)
greatest_divisor (suc steps) a (suc b) few =
    let lt : a % suc b < suc b = mod-lt a (omega arith) in
    let rest = greatest_divisor steps (suc b) (a % suc b) (omega (arith, lt, few)) in
    (rest.0, IsGcd-from_mod a (suc b) rest.0 rest.1)

-- two numbers with their greatest common divisor
module _ (a b g : ℕ) (some : 0 < a) (other : 0 < b) (is : IsGcd a b g) where
  pub some_divisor : 0 < g
  some_divisor = pos_of_dvd_of_pos is.0 some

  -- the quotient of one of them, times the other
  abbrev multiple : ℕ
  multiple = a / g * b

  whole : multiple * g ≡ a * b
  whole = mul_assoc (a / g) b g ∙ ap (λ n. a / g * n) (mul_comm b g) ∙ sym (mul_assoc (a / g) g b) ∙ ap (λ n. n * b) (div-mul_cancel g is.0)

  first_divides : a ∣ multiple
  first_divides = dvd_of_mul-dvd-mul_right a some_divisor (subst (λ n. a * g ∣ n) (sym whole) (mul-dvd-mul_left g a is.1))

  -- a common multiple that divides their product is a multiple of `multiple`: the quotient divides both
  divides_such : (d : ℕ) → d ∣ a * b → a ∣ d → b ∣ d → multiple ∣ d
  divides_such d of first second =
      let e = a * b / d in
      let product : e * d ≡ a * b = div-mul_cancel d of in
      let of_first : e ∣ a = dvd_of_mul-dvd-mul_right e other (subst (λ n. e * b ∣ n) product (mul-dvd-mul_left b e second)) in
      let of_second : e ∣ b = dvd_of_mul-dvd-mul_right e some (subst (λ n. e * a ∣ n) (product ∙ mul_comm a b) (mul-dvd-mul_left a e first)) in
      let within : e * d ∣ g * d = mul-dvd-mul_right e (is.2 e of_first of_second) d in
      dvd_of_mul-dvd-mul_right multiple some_divisor (subst (λ n. n ∣ d * g) (product ∙ sym whole) (subst (λ n. e * d ∣ n) (mul_comm g d) within))

  -- so is any common multiple, by its greatest common divisor with the product
  divides_each : (n : ℕ) → a ∣ n → b ∣ n → multiple ∣ n
  divides_each n first second =
      let d = greatest_divisor (a * b + 1) n (a * b) (omega arith) in
      dvd_trans multiple (divides_such d.0 d.1.1 (d.1.2 a first (dvd-mul_right a b)) (d.1.2 b second (dvd-mul_left b a))) d.1.0

  pub by_divisor : IsLeastCommonMultiple (a ∷ b ∷ []) multiple
  by_divisor = record {
    positive = pos_of_dvd_of_pos (subst (λ n. multiple ∣ n) whole (dvd-mul_right multiple g)) (mul-pos some other);
    common = and_from _ _ (is_divided a multiple first_divides) (and_from _ _ (is_divided b multiple (dvd-mul_left b (a / g))) refl);
    least = λ n positive e.
        let both = and_parts (n % a == 0) _ e in
        let second = and_parts (n % b == 0) true both.1 in
        le_of_dvd positive (divides_each n (divides a n both.0) (divides b n second.0));
  }
