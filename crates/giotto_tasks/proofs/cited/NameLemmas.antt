-- Names and lists of names, as tests compare them.
use Rattle.std.proofs.Common.{◌≡◌, Bool, true, false, not, cond, ◌&&◌, ◌||◌, nat_eq, List, [], ◌∷◌, ◌++◌, filter, sym, refl, ap, ◌∙◌, subst}
use Rattle.std.specs.List.{list_all, list_any}
use Rattle.std.specs.Cmp.Lexicographic.{pointwise, same_text, nat_list_eq_equiv}
use Rattle.std.proofs.lemmas.Bool.{and_parts, and_from, or_left, or_right, false≢true}
use Rattle.std.proofs.lemmas.Cmp.{lists_equiv}
use Rattle.giotto_tasks.specs.declared.names.Name.{Name}
use Rattle.giotto_tasks.specs.Names.{same_name, is_among}
use Rattle.giotto_tasks.specs.Sound.{all_different}
use Rattle.giotto_tasks.specs.cited.Sources.{is_once_among}
use Rattle.giotto_tasks.proofs.cited.TestLemmas.{either, or_assoc, or_turned, and_true}
use Rattle.giotto_tasks.proofs.cited.ListLemmas.{all_wider}

pub names_same : (xs ys : List Name) → pointwise (pointwise nat_eq) xs ys ≡ true → xs ≡ ys
names_same [] [] h = refl
names_same (x ∷ xs) (y ∷ ys) h =
    let both = and_parts (pointwise nat_eq x y) (pointwise (pointwise nat_eq) xs ys) h in
    let first = same_text x y (sym both.0) in
    let rest = names_same xs ys both.1 in
    cc
names_same [] (y ∷ ys) h = absurd (false≢true h)
names_same (x ∷ xs) [] h = absurd (false≢true h)

pub names_compared : (xs ys : List Name) → xs ≡ ys → pointwise (pointwise nat_eq) xs ys ≡ true
names_compared xs ys e = rw e ((lists_equiv nat_list_eq_equiv).refl ys)

-- the comparison of two names decides whether they are equal
pub same_name_self : (x : Name) → same_name x x ≡ true
same_name_self x = nat_list_eq_equiv.refl x

pub same_name_is : (x y : Name) → same_name x y ≡ true → x ≡ y
same_name_is x y e = same_text x y (sym e)

-- names among others

pub any_is_among : (names : List Name) (x : Name) → list_any (λ y. same_name y x) names ≡ is_among names x
any_is_among [] x = refl
any_is_among (n ∷ ns) x = ap (λ b. same_name n x || b) (any_is_among ns x)

pub is_among-append : (xs ys : List Name) (x : Name) → is_among (xs ++ ys) x ≡ (is_among xs x || is_among ys x)
is_among-append [] ys x = refl
is_among-append (n ∷ ns) ys x = ap (λ b. same_name n x || b) (is_among-append ns ys x) ∙ or_assoc (same_name n x) (is_among ns x) (is_among ys x)

pub among_first : (xs ys : List Name) (x : Name) → is_among xs x ≡ true → is_among (xs ++ ys) x ≡ true
among_first xs ys x h = is_among-append xs ys x ∙ or_left (is_among xs x) (is_among ys x) h

pub among_second : (xs ys : List Name) (x : Name) → is_among ys x ≡ true → is_among (xs ++ ys) x ≡ true
among_second xs ys x h = is_among-append xs ys x ∙ or_right (is_among xs x) (is_among ys x) h

-- a name in two concatenated lists that isn't in the first is in the second
pub among_other : (xs ys : List Name) (x : Name) → is_among (xs ++ ys) x ≡ true → is_among xs x ≡ false → is_among ys x ≡ true
among_other xs ys x there none = sym (ap (λ b. b || is_among ys x) none) ∙ (sym (is_among-append xs ys x) ∙ there)

pub among_turned : (xs ys : List Name) (x : Name) → is_among (xs ++ ys) x ≡ is_among (ys ++ xs) x
among_turned xs ys x = is_among-append xs ys x ∙ or_turned (is_among xs x) (is_among ys x) ∙ sym (is_among-append ys xs x)

-- a name among names that all pass a test passes it too
pub among_passes : (test : Name → Bool) (ns : List Name) (x : Name) → list_all test ns ≡ true → is_among ns x ≡ true → test x ≡ true
among_passes test [] x h there = absurd (false≢true there)
among_passes test (n ∷ ns) x h there =
    let both = and_parts (test n) (list_all test ns) h in
    either (same_name n x) (is_among ns x) (test x ≡ true) there (λ e. subst (λ m. test m ≡ true) (same_name_is n x e) both.0) (among_passes test ns x both.1)

-- a test that each name of a list passes
pub all_in : (test : Name → Bool) (ns : List Name) → ((x : Name) → is_among ns x ≡ true → test x ≡ true) → list_all test ns ≡ true
all_in test [] means = refl
all_in test (n ∷ ns) means =
    and_from _ _ (means n (or_left (same_name n n) (is_among ns n) (same_name_self n))) (all_in test ns (λ x h. means x (or_right (same_name n x) (is_among ns x) h)))

pub each_among : (ns : List Name) → list_all (is_among ns) ns ≡ true
each_among ns = all_in (is_among ns) ns (λ x h. h)

-- names that are among some names are among more names
pub weaker_all : (ns ms : List Name) → ((x : Name) → is_among ns x ≡ true → is_among ms x ≡ true) → (xs : List Name) → list_all (is_among ns) xs ≡ true → list_all (is_among ms) xs ≡ true
weaker_all ns ms implies xs h = all_wider (is_among ns) (is_among ms) implies xs h

-- a name that isn't among the declared ones is none of these declared names
pub none_of : (declared : List Name) (x : Name) (others : List Name) → list_all (is_among declared) others ≡ true → not (is_among declared x) ≡ true → not (is_among others x) ≡ true
none_of declared x [] k h = refl
none_of declared x (y ∷ ys) k h =
    let both = and_parts (is_among declared y) (list_all (is_among declared) ys) k in
    at_head (same_name y x) refl both.0 (none_of declared x ys both.1 h)
  where
    at_head : (b : Bool) → same_name y x ≡ b → is_among declared y ≡ true → not (is_among ys x) ≡ true → not (b || is_among ys x) ≡ true
    at_head false e there rest = rest
    at_head true e there rest = let same : y ≡ x = same_name_is y x e in absurd (false≢true (ap not (sym (ap (is_among declared) (sym same) ∙ there)) ∙ h))

-- none of these names is among the others
pub apart_from : (declared own others : List Name) → list_all (λ y. not (is_among declared y)) own ≡ true → list_all (is_among declared) others ≡ true
    → list_all (λ x. not (is_among others x)) own ≡ true
apart_from declared own others h k = all_wider (λ y. not (is_among declared y)) (λ x. not (is_among others x)) (λ x e. none_of declared x others k e) own h

pub filter_in : (names : List Name) (x : Name) (xs : List Name) → is_among names x ≡ true → filter (is_among names) (x ∷ xs) ≡ x ∷ filter (is_among names) xs
filter_in names x xs e = ap (λ b. cond b (x ∷ filter (is_among names) xs) (filter (is_among names) xs)) e

pub filter_out : (names : List Name) (x : Name) (xs : List Name) → is_among names x ≡ false → filter (is_among names) (x ∷ xs) ≡ filter (is_among names) xs
filter_out names x xs e = ap (λ b. cond b (x ∷ filter (is_among names) xs) (filter (is_among names) xs)) e

-- different names

-- names of two lists are different if each list's names are, and the lists share none
pub all_different-append : (xs ys : List Name) → all_different (xs ++ ys) ≡ (all_different xs && (all_different ys && list_all (λ x. not (is_among ys x)) xs))
all_different-append [] ys = sym (and_true (all_different ys))
all_different-append (n ∷ ns) ys =
    let parts = is_among-append ns ys n in
    let rest = all_different-append ns ys in
    rw (parts, rest) (turned (is_among ns n) (is_among ys n) (all_different ns) (all_different ys) (list_all (λ x. not (is_among ys x)) ns))
  where
    turned : (a b c d e : Bool) → (not (a || b) && (c && (d && e))) ≡ ((not a && c) && (d && (not b && e)))
    turned true b c d e = refl
    turned false true true true e = refl
    turned false true true false e = refl
    turned false true false d e = refl
    turned false false true true e = refl
    turned false false true false e = refl
    turned false false false d e = refl

pub different_joined : (xs ys : List Name) → all_different xs ≡ true → all_different ys ≡ true → list_all (λ x. not (is_among ys x)) xs ≡ true → all_different (xs ++ ys) ≡ true
different_joined xs ys d e h = all_different-append xs ys ∙ and_from _ _ d (and_from _ _ e h)

pub different_first : (xs ys : List Name) → all_different (xs ++ ys) ≡ true → all_different xs ≡ true
different_first xs ys h = (and_parts _ _ (sym (all_different-append xs ys) ∙ h)).0

-- if all names are different, a name among them is there once
pub among_once : (ns : List Name) (x : Name) → all_different ns ≡ true → is_among ns x ≡ true → is_once_among ns x ≡ true
among_once [] x different h = absurd (false≢true h)
among_once (n ∷ ns) x different h =
    let both = and_parts (not (is_among ns n)) (all_different ns) different in
    at_head (same_name n x) refl both.0 (among_once ns x both.1) h
  where
    at_head : (b : Bool) → same_name n x ≡ b → not (is_among ns n) ≡ true → (is_among ns x ≡ true → is_once_among ns x ≡ true)
        → (b || is_among ns x) ≡ true → cond b (not (is_among ns x)) (is_once_among ns x) ≡ true
    at_head true e once further h = let same : n ≡ x = same_name_is n x e in subst (λ y. not (is_among ns y) ≡ true) same once
    at_head false e once further h = further h
