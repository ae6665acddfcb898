-- What a sensor reads: the value of its line, if the line may be read and the frame has it.
use Rattle.std.proofs.Common.{◌≡◌, ℕ, zero, suc, ◌+◌, Bool, true, false, cond, ◌||◌, nat_eq, ℤ, List, [], ◌∷◌, filter, length, Bor, Option, Some, None, refl, ap, sym, ◌∙◌, ⊎_elim, arith}
use Rattle.std.specs.List.{slice_get, list_any, enumerate_from}
use Rattle.std.specs.Option.{option_copied}
use Rattle.std.specs.Slice.{IsItemAt}
use Rattle.std.proofs.lemmas.Option.{slice_get_past, slice_get_read}
use Rattle.std.proofs.lemmas.Bool.{cases_eq, ltb-true, ltb-false, eqb-true, ne_eqb, eq-eqb, false≢true}
use Rattle.rig_model.specs.config.Roster.{may_use}
use Rattle.rig_model.specs.Readings.{Readings, reading_of, readings_within}

-- a line that may not be read has no reading
none_read : (reads : List ℕ) (rs : Readings) (k : ℕ) → may_use reads k ≡ false → reading_of (filter (λ (r : ℕ × ℤ). may_use reads r.0) rs) k ≡ None
none_read reads [] k e = refl
none_read reads (r ∷ rs) k e = by (may_use reads r.0) (nat_eq r.0 k) refl refl (none_read reads rs k e)
  where
    rest : Readings
    rest = filter (λ (r : ℕ × ℤ). may_use reads r.0) rs

    by : (may same : Bool) → may_use reads r.0 ≡ may → nat_eq r.0 k ≡ same → reading_of rest k ≡ None → reading_of (cond may (r ∷ rest) rest) k ≡ None
    by false same e1 e2 h = h
    by true true e1 e2 h = absurd (false≢true (sym e ∙ ap (may_use reads) (sym (eqb-true r.0 k e2)) ∙ e1))
    by true false e1 e2 h = ap (λ b. cond b (Some r.1) (reading_of rest k)) e2 ∙ h

-- a line that may be read has the value at its place
one_read : (reads : List ℕ) (frame : List ℤ) (n i : ℕ) → may_use reads (n + i) ≡ true
    → reading_of (filter (λ (r : ℕ × ℤ). may_use reads r.0) (enumerate_from n frame)) (n + i) ≡ slice_get frame i
one_read reads [] n i e = refl
one_read reads (z ∷ zs) n zero e =
    let at : n + 0 ≡ n = omega arith in
    let may : may_use reads n ≡ true = ap (may_use reads) (sym at) ∙ e in
    let rest : Readings = filter (λ (r : ℕ × ℤ). may_use reads r.0) (enumerate_from (n + 1) zs) in
    ap (λ b. reading_of (cond b ((n, z) ∷ rest) rest) (n + 0)) may
    ∙ ap (λ b. cond b (Some z) (reading_of rest (n + 0))) (eq-eqb n (n + 0) (sym at))
one_read reads (z ∷ zs) n (suc i) e =
    let at : n + suc i ≡ (n + 1) + i = omega arith in
    let rest : Readings = filter (λ (r : ℕ × ℤ). may_use reads r.0) (enumerate_from (n + 1) zs) in
    let other : nat_eq n (n + suc i) ≡ false = ne_eqb n (n + suc i) (λ same. absurd (omega (arith, same))) in
    let further = one_read reads zs (n + 1) i (ap (may_use reads) (sym at) ∙ e) in
    skipped rest (may_use reads n) other ∙ ap (reading_of rest) at ∙ further
  where
    skipped : (rest : Readings) (b : Bool) → nat_eq n (n + suc i) ≡ false → reading_of (cond b ((n, z) ∷ rest) rest) (n + suc i) ≡ reading_of rest (n + suc i)
    skipped rest false other = refl
    skipped rest true other = ap (λ b. cond b (Some z) (reading_of rest (n + suc i))) other

pub reading_in_frame : (reads : List ℕ) (frame : List ℤ) (k : ℕ) → may_use reads k ≡ true → reading_of (readings_within reads frame) k ≡ slice_get frame k
reading_in_frame reads frame k e =
    let at : 0 + k ≡ k = omega arith in
    ap (reading_of (readings_within reads frame)) (sym at) ∙ one_read reads frame 0 k (ap (may_use reads) at ∙ e)

pub no_reading : (reads : List ℕ) (frame : List ℤ) (k : ℕ) → may_use reads k ≡ false → reading_of (readings_within reads frame) k ≡ None
no_reading reads frame k e = none_read reads (enumerate_from 0 frame) k e

nat_eq_turned : (m n : ℕ) → nat_eq m n ≡ nat_eq n m
nat_eq_turned m n = ⊎_elim (λ e. eq-eqb m n e ∙ sym (eq-eqb n m (sym e))) (λ ne. ne_eqb m n ne ∙ sym (ne_eqb n m (λ e. ne (sym e)))) (cases_eq m n)

pub contained : (reads : List ℕ) (k : ℕ) → list_any (λ y. nat_eq y k) reads ≡ may_use reads k
contained [] k = refl
contained (r ∷ rs) k = ap (λ b. b || list_any (λ y. nat_eq y k) rs) (nat_eq_turned r k) ∙ ap (λ b. nat_eq k r || b) (contained rs k)

-- the item of a frame that `get` borrows, as a copy
pub copied_at : (xs : List ℤ) (i : ℕ) (r : Option (Bor ℤ)) → IsItemAt xs i r → option_copied r ≡ slice_get xs i
copied_at xs i None h = sym (slice_get_past xs i (ltb-false i (length xs) (sym h.0)))
copied_at xs i (Some b) h = sym (slice_get_read xs (length xs) i b.now refl (ltb-true i (length xs) (sym h.0)) h.1)
