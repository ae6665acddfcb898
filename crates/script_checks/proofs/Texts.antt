-- The text of a line, without its CR.
use Rattle.std.proofs.Common.{◌≡◌, ◌≤◌, ◌<◌, ◌-◌, ◌==◌, ◌∙◌, ◌⊎◌, ◌&&◌, ℕ, suc, Bool, true, false, nat_le, if◌then◌else◌, List, [], ◌∷◌, ◌++◌, length, take, get_or, Some, None, IsUtf8, refl, sym, ap, inl, inr, arith, length-append}
use Rattle.std.proofs.lemmas.Bool.{eqb-true}
use Rattle.std.proofs.lemmas.Bool.Decides.{nat_tests}
use Rattle.std.proofs.lemmas.Str.{is_utf8-from_IsUtf8, IsUtf8-from_is_utf8}
use Rattle.std.specs.Str.{is_utf8}
use Rattle.rig_model.specs.TextLines.{text_of_line, without_last_cr}
use Rattle.rig_model.specs.declared.limits.TheConstants.{MAX_LINE}

-- a line ends with a CR, or stays as it is without one
pub cr_or_same : (xs : List ℕ) → (xs ≡ without_last_cr xs ++ 13 ∷ []) ⊎ (xs ≡ without_last_cr xs)
cr_or_same [] = inr refl
cr_or_same (c ∷ []) = by (c == 13) refl
  where
    by : (b : Bool) → (c == 13) ≡ b → (c ∷ [] ≡ without_last_cr (c ∷ []) ++ 13 ∷ []) ⊎ (c ∷ [] ≡ without_last_cr (c ∷ []))
    by true e = inl (rw e (ap (λ x. x ∷ []) (eqb-true c 13 e)))
    by false e = inr (rw e refl)
cr_or_same (c ∷ d ∷ cs) = elim (cr_or_same (d ∷ cs)) [ inl e ↦ inl (ap (λ l. c ∷ l) e) | inr e ↦ inr (ap (λ l. c ∷ l) e) ]

-- the last byte of a text, or 0 if there is none
abbrev pub last_of : List ℕ → ℕ
last_of xs = get_or xs (length xs - 1) 0

last_behind : (ys : List ℕ) → get_or (ys ++ 13 ∷ []) (length ys) 0 ≡ 13
last_behind [] = refl
last_behind (y ∷ ys) = last_behind ys

front_before : (ys : List ℕ) → take (length ys) (ys ++ 13 ∷ []) ≡ ys
front_before [] = refl
front_before (y ∷ ys) = ap (λ l. y ∷ l) (front_before ys)

-- without the CR at its end, a text has the bytes before the CR
no_other : (xs : List ℕ) → xs ≡ without_last_cr xs ++ 13 ∷ [] → (last_of xs ≡ 13) × (take (length xs - 1) xs ≡ without_last_cr xs)
no_other xs e =
    let ys = without_last_cr xs in
    let len : length xs - 1 ≡ length ys = let l = ap (λ (l : List ℕ). length l) e ∙ length-append ys (13 ∷ []) in omega (arith, l) in
    (ap (λ n. get_or xs n 0) len ∙ ap (λ l. get_or l (length ys) 0) e ∙ last_behind ys, ap (λ n. take n xs) len ∙ ap (λ l. take (length ys) l) e ∙ front_before ys)

ends_so : (xs : List ℕ) → 0 < length xs → last_of xs ≡ 13 → xs ≡ without_last_cr xs → ⊥
ends_so [] some is same = absurd (omega (arith, some))
ends_so (c ∷ []) some is same = let cr : (c == 13) ≡ true = grind (arith, nat_tests, is) in let none : c ∷ [] ≡ [] = rw cr at same in absurd (cc)
ends_so (c ∷ d ∷ cs) some is same =
    let deep : get_or (d ∷ cs) (length (d ∷ cs) - 1) 0 ≡ 13 = last_deep is in
    let tail : d ∷ cs ≡ without_last_cr (d ∷ cs) = cc in
    ends_so (d ∷ cs) (omega arith) deep tail
  where
    last_deep : get_or (c ∷ d ∷ cs) (length (c ∷ d ∷ cs) - 1) 0 ≡ 13 → get_or (d ∷ cs) (length (d ∷ cs) - 1) 0 ≡ 13
    last_deep h = let n : length (c ∷ d ∷ cs) - 1 ≡ suc (length (d ∷ cs) - 1) = omega arith in sym (ap (λ k. get_or (c ∷ d ∷ cs) k 0) n) ∙ h

-- a text that ends with a CR, without it
pub taken_off : (xs : List ℕ) → 0 < length xs → last_of xs ≡ 13 → take (length xs - 1) xs ≡ without_last_cr xs
taken_off xs some is = elim (cr_or_same xs) [ inl e ↦ (no_other xs e).1 | inr e ↦ absurd (ends_so xs some is e) ]

-- a text that doesn't end with a CR
pub left_as_it_is : (xs : List ℕ) → (last_of xs ≡ 13 → ⊥) → xs ≡ without_last_cr xs
left_as_it_is xs other = elim (cr_or_same xs) [ inl e ↦ absurd (other (no_other xs e).0) | inr e ↦ e ]

pub text_of_text : (xs : List ℕ) → length xs ≤ MAX_LINE → IsUtf8 xs → text_of_line xs ≡ Some (without_last_cr xs)
text_of_text xs short u = let text = is_utf8-from_IsUtf8 xs u in grind (arith, nat_tests, text)

pub text_of_long : (xs : List ℕ) → MAX_LINE < length xs → text_of_line xs ≡ None
text_of_long xs long = grind (arith, nat_tests)

pub text_of_no_text : (xs : List ℕ) → (IsUtf8 xs → ⊥) → text_of_line xs ≡ None
text_of_no_text xs h = by (nat_le (length xs) MAX_LINE) (is_utf8 xs) refl
  where
    by : (a b : Bool) → is_utf8 xs ≡ b → (if a && b then Some (without_last_cr xs) else None) ≡ None
    by a true e = absurd (h (IsUtf8-from_is_utf8 xs e))
    by true false e = refl
    by false false e = refl
