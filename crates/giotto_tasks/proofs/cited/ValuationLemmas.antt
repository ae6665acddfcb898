-- Finite maps, kept as lists of names with values.
use Rattle.std.proofs.Common.{◌≡◌, ℕ, suc, ◌+◌, ◌<◌, Bool, true, false, cond, ℤ, List, [], ◌∷◌, ◌++◌, length, get_or, take, drop, set, ◌⊎◌, inl, inr, sym, refl, ap, ◌∙◌, arith}
use Rattle.std.specs.List.{zip}
use Rattle.std.proofs.lemmas.Bool.{false≢true}
use Rattle.std.proofs.lemmas.List.{at_drop_more, set_split, get_or_default}
use Rattle.giotto_tasks.specs.declared.names.Name.{Name}
use Rattle.giotto_tasks.specs.Names.{Valuation, same_name, is_among, with_value}
use Rattle.giotto_tasks.specs.cited.Sources.{names_in}

-- a name in the map keeps its place if its value changes
pub names_in-with_value : (vs : Valuation) (x : Name) (z : ℤ) → is_among (names_in vs) x ≡ true → names_in (with_value vs x z) ≡ names_in vs
names_in-with_value [] x z there = absurd (false≢true there)
names_in-with_value (v ∷ vs) x z there = at_head (same_name v.0 x) refl (names_in-with_value vs x z)
  where
    at_head : (b : Bool) → same_name v.0 x ≡ b → (is_among (names_in vs) x ≡ true → names_in (with_value vs x z) ≡ names_in vs)
        → names_in (cond b ((v.0, z) ∷ vs) (v ∷ with_value vs x z)) ≡ v.0 ∷ names_in vs
    at_head true e further = refl
    at_head false e further = let t : is_among (names_in vs) x ≡ true = rw e at there in ap (λ ns. v.0 ∷ ns) (further t)

-- the value at the first place of a name changes
pub set-first : (vs : Valuation) (i : ℕ) (d e : Name × ℤ) (x : Name) (z : ℤ) → i < length vs → same_name (get_or vs i d).0 x ≡ true
    → take i vs ++ with_value (drop i vs) x z ≡ with_value vs x z → set vs i ((get_or vs i e).0, z) ≡ with_value vs x z
set-first vs i d e x z lt is rest =
    let p = get_or vs i d in
    let here : with_value (drop i vs) x z ≡ (p.0, z) ∷ drop (i + 1) vs =
    at_drop_more (λ ws. with_value ws x z) vs i d lt ∙ ap (λ b. cond b ((p.0, z) ∷ drop (i + 1) vs) (p ∷ with_value (drop (i + 1) vs) x z)) is in
    let next : suc i ≡ i + 1 = omega arith in
    ap (λ (q : Name × ℤ). set vs i (q.0, z)) (get_or_default vs i e d lt)
    ∙ set_split vs i (p.0, z) lt ∙ ap (λ k. take i vs ++ (p.0, z) ∷ drop k vs) next ∙ ap (λ ws. take i vs ++ ws) (sym here) ∙ rest

-- if one of two lists is empty, there are no pairs
pub none_zipped : (ns : List Name) (vs : List ℤ) → (ns ≡ []) ⊎ (vs ≡ []) → zip ns vs ≡ []
none_zipped [] vs h = refl
none_zipped (n ∷ ns) [] h = refl
none_zipped (n ∷ ns) (v ∷ vs) (inl e) = absurd (cc)
none_zipped (n ∷ ns) (v ∷ vs) (inr e) = absurd (cc)
