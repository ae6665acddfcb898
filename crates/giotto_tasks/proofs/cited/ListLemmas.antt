-- Lists: what holds for each element, what a search finds, what a filter keeps.
use Rattle.std.proofs.Common.{◌≡◌, ℕ, zero, suc, ◌+◌, ◌<◌, ◌≤◌, nat_lt, Bool, true, false, not, cond, ◌||◌, List, [], ◌∷◌, ◌++◌, length, map, filter, take, drop, reverse, get_or, set, Option, Some, None, refl, sym, ap, ◌∙◌, subst, append_assoc, arith}
use Rattle.std.specs.Prelude.{is_some, slice_get}
use Rattle.std.specs.List.{cons_option, find, list_all, list_any, filter_map, flat_map, position, position_or_len, AllByRecursion}
use Rattle.std.specs.Option.{option_map, option_map_or}
use Rattle.std.proofs.lemmas.Bool.{and_parts, and_from}
use Rattle.std.proofs.lemmas.Bool.Decides.{nat_tests}
use Rattle.std.proofs.lemmas.List.{reverse-append, take-map, take_more}
use Rattle.std.proofs.lemmas.List.Elements.{filter-append}
use Rattle.std.proofs.lemmas.List.Folds.{find_at}
use Rattle.std.proofs.lemmas.List.Quantifiers.{position-Some}
use Rattle.std.proofs.lemmas.Option.{slice_get-get_or, slice_get-map, slice_get_past}
use Rattle.std.proofs.Math.Seq.{take-append_seam}
use Rattle.giotto_tasks.proofs.cited.TestLemmas.{either, or_true}

-- a property of each element

pub all_map : {X : Type 0} (P Q : X → Type 0) (xs : List X) → ((x : X) → P x → Q x) → AllByRecursion P xs → AllByRecursion Q xs
all_map P Q [] f all = tt
all_map P Q (x ∷ xs) f all = (f x all.0, all_map P Q xs f all.1)

pub all_of : {X : Type 0} {P : X → Type 0} → ((x : X) → P x) → (xs : List X) → AllByRecursion P xs
all_of f [] = tt
all_of f (x ∷ xs) = (f x, all_of f xs)

pub all_zip : {X : Type 0} (P Q : X → Type 0) (xs : List X) → AllByRecursion P xs → AllByRecursion Q xs → AllByRecursion (λ x. P x × Q x) xs
all_zip P Q [] ps qs = tt
all_zip P Q (x ∷ xs) ps qs = ((ps.0, qs.0), all_zip P Q xs ps.1 qs.1)

-- two properties of each element
pub all_with : {X : Type 0} (P Q R : X → Type 0) → ((x : X) → P x → Q x → R x) → (xs : List X) → AllByRecursion P xs → AllByRecursion Q xs → AllByRecursion R xs
all_with P Q R joined [] ps qs = tt
all_with P Q R joined (x ∷ xs) ps qs = (joined x ps.0 qs.0, all_with P Q R joined xs ps.1 qs.1)

pub all_filter : {X : Type 0} (P : X → Type 0) (test : X → Bool) (xs : List X) → AllByRecursion P xs → AllByRecursion P (filter test xs)
all_filter P test [] all = all
all_filter P test (x ∷ xs) all = kept (test x) all.0 (all_filter P test xs all.1)
  where
    kept : (b : Bool) → P x → AllByRecursion P (filter test xs) → AllByRecursion P (cond b (x ∷ filter test xs) (filter test xs))
    kept true h rest = (h, rest)
    kept false h rest = rest

pub all_mapped : {X Y : Type 0} (P : Y → Type 0) (f : X → Y) (xs : List X) → AllByRecursion (λ x. P (f x)) xs → AllByRecursion P (map f xs)
all_mapped P f [] all = tt
all_mapped P f (x ∷ xs) all = (all.0, all_mapped P f xs all.1)

pub all_filtered : {X Y : Type 0} (P : Y → Type 0) (f : X → Y) (p : Y → Bool) (xs : List X) → AllByRecursion (λ x. P (f x)) xs → AllByRecursion P (filter p (map f xs))
all_filtered P f p xs all = all_filter P p (map f xs) (all_mapped P f xs all)

pub all_append : {X : Type 0} (P : X → Type 0) (xs ys : List X) → AllByRecursion P xs → AllByRecursion P ys → AllByRecursion P (xs ++ ys)
all_append P [] ys all others = others
all_append P (x ∷ xs) ys all others = (all.0, all_append P xs ys all.1 others)

pub all_and_one : {X : Type 0} (P : X → Type 0) (xs : List X) (x : X) → AllByRecursion P xs → P x → AllByRecursion P (xs ++ x ∷ [])
all_and_one P xs x all h = all_append P xs (x ∷ []) all (h, tt)

pub all_middle : {X : Type 0} (P : X → Type 0) (xs : List X) (y : X) (ys : List X) → AllByRecursion P (xs ++ y ∷ ys) → P y
all_middle P [] y ys all = all.0
all_middle P (x ∷ xs) y ys all = all_middle P xs y ys all.1

pub all_flat : {X Y : Type 0} (P : Y → Type 0) (f : X → List Y) (xs : List X) → ((x : X) → AllByRecursion P (f x)) → AllByRecursion P (flat_map f xs)
all_flat P f [] each = tt
all_flat P f (x ∷ xs) each = all_append P (f x) (flat_map f xs) (each x) (all_flat P f xs each)

pub all_option : {X Y : Type 0} (P : Y → Type 0) (f : X → List Y) (o : Option X) → ((x : X) → AllByRecursion P (f x)) → AllByRecursion P (option_map_or f o [])
all_option P f None each = tt
all_option P f (Some x) each = each x

pub all_if : {X : Type 0} (P : X → Type 0) (b : Bool) (xs : List X) → AllByRecursion P xs → AllByRecursion P (cond b xs [])
all_if P true xs all = all
all_if P false xs all = tt

pub all_at : {X : Type 0} (P : X → Type 0) (xs : List X) (i : ℕ) (x : X) → i < length xs → AllByRecursion P xs → P (get_or xs i x)
all_at P [] i x lt all = absurd (omega (arith, lt))
all_at P (y ∷ ys) zero x lt all = all.0
all_at P (y ∷ ys) (suc i) x lt all = all_at P ys i x (omega (arith, lt)) all.1

-- what holds for each image of a list's elements holds for the image of one
pub all_mapped_at : {X Y : Type 0} (P : Y → Type 0) (f : X → Y) (xs : List X) (i : ℕ) (d : X) → AllByRecursion P (map f xs) → i < length xs → P (f (get_or xs i d))
all_mapped_at P f [] i d all lt = absurd (omega arith)
all_mapped_at P f (x ∷ xs) zero d all lt = all.0
all_mapped_at P f (x ∷ xs) (suc i) d all lt = all_mapped_at P f xs i d all.1 (omega arith)

pub all_set : {X : Type 0} (P : X → Type 0) (xs : List X) (i : ℕ) (x : X) → P x → AllByRecursion P xs → AllByRecursion P (set xs i x)
all_set P [] i x p all = all
all_set P (y ∷ ys) zero x p all = (p, all.1)
all_set P (y ∷ ys) (suc i) x p all = (all.0, all_set P ys i x p all.1)

-- a test of each element

-- what follows for each element from a test that all elements pass
pub all_pass : {X : Type 0} (P : X → Type 0) (test : X → Bool) → ((x : X) → test x ≡ true → P x) → (xs : List X) → list_all test xs ≡ true → AllByRecursion P xs
all_pass P test means [] h = tt
all_pass P test means (x ∷ xs) h = let both = and_parts (test x) (list_all test xs) h in (means x both.0, all_pass P test means xs both.1)

-- what follows for each element from two tests that all elements pass
pub both_pass : {X : Type 0} (P : X → Type 0) (one other : X → Bool) → ((x : X) → one x ≡ true → other x ≡ true → P x) → (xs : List X)
    → list_all one xs ≡ true → list_all other xs ≡ true → AllByRecursion P xs
both_pass P one other means [] h k = tt
both_pass P one other means (x ∷ xs) h k =
    let first = and_parts (one x) (list_all one xs) h in
    let second = and_parts (other x) (list_all other xs) k in
    (means x first.0 second.0, both_pass P one other means xs first.1 second.1)

-- all elements pass a test that follows from their property
pub all_that : {X : Type 0} (test : X → Bool) (P : X → Type 0) → ((x : X) → P x → test x ≡ true) → (xs : List X) → AllByRecursion P xs → list_all test xs ≡ true
all_that test P means [] all = refl
all_that test P means (x ∷ xs) all = and_from (test x) (list_all test xs) (means x all.0) (all_that test P means xs all.1)

-- two tests with the same results are passed by the same lists
pub all_same : {X : Type 0} (p q : X → Bool) → ((x : X) → p x ≡ q x) → (xs : List X) → list_all p xs ≡ list_all q xs
all_same p q same [] = refl
all_same p q same (x ∷ xs) = let first = same x in let rest = all_same p q same xs in rw (first, rest) refl

-- elements that pass one test pass a weaker one
pub all_wider : {X : Type 0} (p q : X → Bool) → ((x : X) → p x ≡ true → q x ≡ true) → (xs : List X) → list_all p xs ≡ true → list_all q xs ≡ true
all_wider p q wider [] h = refl
all_wider p q wider (x ∷ xs) h = let both = and_parts (p x) (list_all p xs) h in and_from _ _ (wider x both.0) (all_wider p q wider xs both.1)

pub list_all-filter : {X : Type 0} (p test : X → Bool) (xs : List X) → list_all p xs ≡ true → list_all p (filter test xs) ≡ true
list_all-filter p test [] h = refl
list_all-filter p test (x ∷ xs) h = let both = and_parts (p x) (list_all p xs) h in at_head (test x) both.0 (list_all-filter p test xs both.1)
  where
    at_head : (b : Bool) → p x ≡ true → list_all p (filter test xs) ≡ true → list_all p (cond b (x ∷ filter test xs) (filter test xs)) ≡ true
    at_head true e others = and_from _ _ e others
    at_head false e others = others

pub any_map : {X Y : Type 0} (q : Y → Bool) (f : X → Y) (xs : List X) → list_any q (map f xs) ≡ list_any (λ x. q (f x)) xs
any_map q f [] = refl
any_map q f (x ∷ xs) = ap (λ b. q (f x) || b) (any_map q f xs)

pub any_of_filter : {X : Type 0} (p q : X → Bool) (xs : List X) → list_any p (filter q xs) ≡ true → list_any p xs ≡ true
any_of_filter p q [] e = e
any_of_filter p q (x ∷ xs) e = kept (q x) e (any_of_filter p q xs)
  where
    kept : (b : Bool) → list_any p (cond b (x ∷ filter q xs) (filter q xs)) ≡ true → (list_any p (filter q xs) ≡ true → list_any p xs ≡ true) → (p x || list_any p xs) ≡ true
    kept true e rest = either (p x) (list_any p (filter q xs)) _ e (λ h. ap (λ b. b || list_any p xs) h) (λ h. ap (λ b. p x || b) (rest h) ∙ or_true (p x))
    kept false e rest = ap (λ b. p x || b) (rest e) ∙ or_true (p x)

-- what follows if some element passes follows from each that passes, and the other way round
pub all_if_any : {X : Type 0} (q : X → Bool) (C : Type 0) (xs : List X) → (list_any q xs ≡ true → C) → AllByRecursion (λ x. q x ≡ true → C) xs
all_if_any q C [] f = tt
all_if_any q C (x ∷ xs) f = (λ e. f (ap (λ b. b || list_any q xs) e), all_if_any q C xs (λ e. f (ap (λ b. q x || b) e ∙ or_true (q x))))

pub any_if_all : {X : Type 0} (q : X → Bool) (C : Type 0) (xs : List X) → AllByRecursion (λ x. q x ≡ true → C) xs → list_any q xs ≡ true → C
any_if_all q C [] all e = absurd (cc)
any_if_all q C (x ∷ xs) all e = either (q x) (list_any q xs) C e all.0 (any_if_all q C xs all.1)

-- what a search finds

-- what holds for each element holds for the one that is found
pub found_has : {X : Type 0} (P : X → Type 0) (look : X → Bool) (xs : List X) (x : X) → AllByRecursion P xs → find look xs ≡ Some x → P x
found_has P look [] x all e = absurd (cc)
found_has P look (y ∷ ys) x all e = at_head (look y) e (found_has P look ys x all.1)
  where
    at_head : (b : Bool) → cond b (Some y) (find look ys) ≡ Some x → (find look ys ≡ Some x → P x) → P x
    at_head true e further = let same : y ≡ x = cc in subst P same all.0
    at_head false e further = further e

-- the element that is found passes the test that all pass
pub found_passes : {X : Type 0} (test look : X → Bool) (xs : List X) (x : X) → list_all test xs ≡ true → find look xs ≡ Some x → test x ≡ true
found_passes test look xs x h e = found_has (λ y. test y ≡ true) look xs x (all_pass (λ y. test y ≡ true) test (λ y k. k) xs h) e

-- the element that is found passes the test that the search used
pub find_passes : {X : Type 0} (p : X → Bool) (xs : List X) (x : X) → find p xs ≡ Some x → p x ≡ true
find_passes p [] x e = absurd (cc)
find_passes p (y ∷ xs) x e = by (p y) refl e (find_passes p xs x)
  where
    by : (b : Bool) → p y ≡ b → cond b (Some y) (find p xs) ≡ Some x → (find p xs ≡ Some x → p x ≡ true) → p x ≡ true
    by true here e rest = let same : y ≡ x = cc in ap p (sym same) ∙ here
    by false here e rest = rest e

-- a search finds something exactly if some element passes
pub find_is_any : {X : Type 0} (p : X → Bool) (xs : List X) → is_some (find p xs) ≡ list_any p xs
find_is_any p [] = refl
find_is_any p (x ∷ xs) = by (p x) (find_is_any p xs)
  where
    by : (b : Bool) → is_some (find p xs) ≡ list_any p xs → is_some (cond b (Some x) (find p xs)) ≡ (b || list_any p xs)
    by true rest = refl
    by false rest = rest

-- the element that is found is at the place that `position` returns
pub found_at : {X : Type 0} (test : X → Bool) (xs : List X) (i : ℕ) (x : X) → position test xs ≡ Some i → find test xs ≡ Some (get_or xs i x)
found_at test xs i x e =
    let n = position_or_len test xs in
    find_at test xs ∙ ap (slice_get xs) (place_is (nat_lt n (length xs)) n e) ∙ slice_get-get_or xs i x (position-Some test xs i x e).0
  where
    place_is : (b : Bool) (n : ℕ) → cond b (Some n) None ≡ Some i → n ≡ i
    place_is true n e = cc
    place_is false n e = absurd (cc)

pub found_nowhere : {X : Type 0} (test : X → Bool) (xs : List X) → position test xs ≡ None → find test xs ≡ None
found_nowhere test xs e =
    let n = position_or_len test xs in
    find_at test xs ∙ outside n (no_place (nat_lt n (length xs)) n e)
  where
    no_place : (b : Bool) (n : ℕ) → cond b (Some n) None ≡ None → b ≡ false
    no_place true n e = absurd (cc)
    no_place false n e = refl

    outside : (n : ℕ) → nat_lt n (length xs) ≡ false → slice_get xs n ≡ None
    outside n e = slice_get_past xs n (grind (arith, nat_tests, e))

pub by_option : {X P : Type 0} (o : Option X) → ((x : X) → o ≡ Some x → P) → (o ≡ None → P) → P
by_option (Some x) some none = some x refl
by_option None some none = none refl

pub is_some-option_map : {X Y : Type 0} (f : X → Y) (o : Option X) → is_some (option_map f o) ≡ is_some o
is_some-option_map f None = refl
is_some-option_map f (Some x) = refl

pub some_same : {X : Type 0} (x y : X) → Some x ≡ Some y → x ≡ y
some_same x y e = cc

-- maps and filters

pub map_same : {X Y : Type 0} (f g : X → Y) (xs : List X) → AllByRecursion (λ x. f x ≡ g x) xs → map f xs ≡ map g xs
map_same f g [] all = refl
map_same f g (x ∷ xs) all = ap (λ y. y ∷ map f xs) all.0 ∙ ap (λ ys. g x ∷ ys) (map_same f g xs all.1)

pub same_filter : {X : Type 0} (f g : X → Bool) (xs : List X) → AllByRecursion (λ x. f x ≡ g x) xs → filter f xs ≡ filter g xs
same_filter f g [] all = refl
same_filter f g (x ∷ xs) all = ap (λ b. cond b (x ∷ filter f xs) (filter f xs)) all.0 ∙ ap (λ ys. cond (g x) (x ∷ ys) ys) (same_filter f g xs all.1)

pub same_filter_map : {X Y : Type 0} (f g : X → Option Y) (xs : List X) → ((x : X) → f x ≡ g x) → filter_map f xs ≡ filter_map g xs
same_filter_map f g [] each = refl
same_filter_map f g (x ∷ xs) each = ap (λ o. cons_option o (filter_map f xs)) (each x) ∙ ap (cons_option (g x)) (same_filter_map f g xs each)

-- a filter of images, by a test with the same results for the elements
pub filter-map : {X Y : Type 0} (f : X → Y) (p : Y → Bool) (q : X → Bool) (xs : List X) → AllByRecursion (λ x. p (f x) ≡ q x) xs → filter p (map f xs) ≡ map f (filter q xs)
filter-map f p q [] all = refl
filter-map f p q (x ∷ xs) all = ap (λ b. cond b (f x ∷ filter p (map f xs)) (filter p (map f xs))) all.0 ∙ kept (q x) (filter-map f p q xs all.1)
  where
    kept : (b : Bool) → filter p (map f xs) ≡ map f (filter q xs) → cond b (f x ∷ filter p (map f xs)) (filter p (map f xs)) ≡ map f (cond b (x ∷ filter q xs) (filter q xs))
    kept true e = ap (λ ys. f x ∷ ys) e
    kept false e = e

pub filter-flat_map : {X Y : Type 0} (p : Y → Bool) (f : X → List Y) (xs : List X) → flat_map (λ x. filter p (f x)) xs ≡ filter p (flat_map f xs)
filter-flat_map p f [] = refl
filter-flat_map p f (x ∷ xs) = ap (λ l. filter p (f x) ++ l) (filter-flat_map p f xs) ∙ sym (filter-append p (f x) (flat_map f xs))

-- the elements that neither test selects
pub filter_neither : {X : Type 0} (p q : X → Bool) (xs : List X) → filter (λ i. not (p i || q i)) xs ≡ filter (λ i. not (p i)) (filter (λ i. not (q i)) xs)
filter_neither p q [] = refl
filter_neither p q (x ∷ xs) = by (p x) refl (q x) (filter_neither p q xs)
  where
    by : (a : Bool) → p x ≡ a → (b : Bool) → filter (λ i. not (p i || q i)) xs ≡ filter (λ i. not (p i)) (filter (λ i. not (q i)) xs)
        → cond (not (a || b)) (x ∷ filter (λ i. not (p i || q i)) xs) (filter (λ i. not (p i || q i)) xs) ≡ filter (λ i. not (p i)) (cond (not b) (x ∷ filter (λ i. not (q i)) xs) (filter (λ i. not (q i)) xs))
    by true e true rest = rest
    by true e false rest = rw e rest
    by false e true rest = rest
    by false e false rest = rw e (ap (λ l. x ∷ l) rest)

pub filter_shorter : {X : Type 0} (p : X → Bool) (xs : List X) → length (filter p xs) ≤ length xs
filter_shorter p [] = omega arith
filter_shorter p (x ∷ xs) = by (p x) (filter_shorter p xs)
  where
    by : (b : Bool) → length (filter p xs) ≤ length xs → length (cond b (x ∷ filter p xs) (filter p xs)) ≤ suc (length xs)
    by true le = omega (arith, le)
    by false le = omega (arith, le)

-- a filter that doesn't change the length keeps everything
pub filter_all : {X : Type 0} (p : X → Bool) (xs : List X) → length (filter p xs) ≡ length xs → filter p xs ≡ xs
filter_all p [] e = refl
filter_all p (x ∷ xs) e = by (p x) refl (filter_all p xs)
  where
    by : (b : Bool) → p x ≡ b → (length (filter p xs) ≡ length xs → filter p xs ≡ xs) → filter p (x ∷ xs) ≡ x ∷ xs
    by true is rest = let long : suc (length (filter p xs)) ≡ suc (length xs) = rw is at e in rw is (ap (λ l. x ∷ l) (rest (omega (arith, long))))
    by false is rest = let long : length (filter p xs) ≡ suc (length xs) = rw is at e in absurd (omega (arith, long, filter_shorter p xs))

-- a filter keeps one element fewer after one that passes is replaced by one that doesn't
pub filter_set : {X : Type 0} (test : X → Bool) (xs : List X) (i : ℕ) (x : X) → i < length xs → test (get_or xs i x) ≡ true → test x ≡ false
    → length (filter test xs) ≡ length (filter test (set xs i x)) + 1
filter_set test [] i x lt here not_now = absurd (omega (arith, lt))
filter_set test (y ∷ ys) zero x lt here not_now =
    let one : suc (length (filter test ys)) ≡ length (filter test ys) + 1 = omega arith in
    ap (λ b. length (cond b (y ∷ filter test ys) (filter test ys))) here ∙ (one ∙ ap (λ b. length (cond b (x ∷ filter test ys) (filter test ys)) + 1) (sym not_now))
filter_set test (y ∷ ys) (suc i) x lt here not_now = by (test y) (filter_set test ys i x (omega (arith, lt)) here not_now)
  where
    by : (b : Bool) → length (filter test ys) ≡ length (filter test (set ys i x)) + 1
        → length (cond b (y ∷ filter test ys) (filter test ys)) ≡ length (cond b (y ∷ filter test (set ys i x)) (filter test (set ys i x))) + 1
    by true e = omega (arith, e)
    by false e = e

-- parts of lists

pub first_is : {X : Type 0} (xs : List X) (x : X) → Some x ≡ slice_get xs 0 → xs ≡ x ∷ drop 1 xs
first_is [] x e = absurd (cc)
first_is (y ∷ xs) x e = let same : x ≡ y = cc in ap (λ z. z ∷ xs) (sym same)

pub none_is : {X : Type 0} (xs : List X) → None ≡ slice_get xs 0 → xs ≡ []
none_is [] e = refl
none_is (x ∷ xs) e = absurd (cc)

-- the same list, one step further
pub stepped : {X : Type 0} (new old one rest all : List X) → new ≡ old ++ one → all ≡ one ++ rest → new ++ rest ≡ old ++ all
stepped new old one rest all e f = ap (λ xs. xs ++ rest) e ∙ append_assoc old one rest ∙ ap (λ xs. old ++ xs) (sym f)

pub reverse_more : {X : Type 0} (xs : List X) (i : ℕ) (d : X) → i < length xs → reverse (take (i + 1) xs) ≡ get_or xs i d ∷ reverse (take i xs)
reverse_more xs i d lt = ap reverse (take_more xs i d lt) ∙ reverse-append (take i xs) (get_or xs i d ∷ [])

-- a slice that is written back as a whole
pub whole_slice : {X : Type 0} (n : ℕ) (ys xs : List X) → n ≡ length ys → take n (ys ++ drop (length ys) xs) ≡ ys
whole_slice n ys xs e = ap (λ k. take k (ys ++ drop (length ys) xs)) e ∙ take-append_seam ys (drop (length ys) xs)

-- if two lists are mapped to the same list, elements at one place are mapped to the same
pub same_at : {X Y Z : Type 0} (f : X → Z) (g : Y → Z) (xs : List X) (ys : List Y) (i : ℕ) (x : X) (y : Y) → i < length xs → map f xs ≡ map g ys
    → x ≡ get_or xs i x → y ≡ get_or ys i y → f x ≡ g y
same_at f g [] ys i x y within same at_x at_y = absurd (omega (arith, within))
same_at f g (a ∷ xs) [] i x y within same at_x at_y = absurd (cc same)
same_at f g (a ∷ xs) (b ∷ ys) zero x y within same at_x at_y = cc (same, at_x, at_y)
same_at f g (a ∷ xs) (b ∷ ys) (suc i) x y within same at_x at_y = same_at f g xs ys i x y (omega (arith, within)) (cc same) at_x at_y

-- equal beginnings and equal next elements make longer equal beginnings
pub same_taken : {X : Type 0} (xs ys : List X) (i : ℕ) → take i xs ≡ take i ys → slice_get xs i ≡ slice_get ys i → take (suc i) xs ≡ take (suc i) ys
same_taken [] [] i same at = refl
same_taken [] (y ∷ ys) zero same at = absurd (cc at)
same_taken [] (y ∷ ys) (suc i) same at = absurd (cc same)
same_taken (x ∷ xs) [] zero same at = absurd (cc at)
same_taken (x ∷ xs) [] (suc i) same at = absurd (cc same)
same_taken (x ∷ xs) (y ∷ ys) zero same at = ap (λ z. z ∷ []) (some_same x y at)
same_taken (x ∷ xs) (y ∷ ys) (suc i) same at =
    let first : x ≡ y = cc same in
    let rest : take i xs ≡ take i ys = cc same in
    ap (λ z. z ∷ take (suc i) xs) first ∙ ap (λ zs. y ∷ zs) (same_taken xs ys i rest at)

pub same_more : {X : Type 0} (xs ys : List X) (i : ℕ) → take i xs ≡ take i ys → slice_get xs i ≡ slice_get ys i → take (i + 1) xs ≡ take (i + 1) ys
same_more xs ys i same at =
    let next : i + 1 ≡ suc i = omega arith in
    ap (λ n. take n xs) next ∙ same_taken xs ys i same at ∙ ap (λ n. take n ys) (sym next)

-- the same of what lists are mapped to
pub same_mapped : {X Y : Type 0} (f : X → Y) (xs ys : List X) (i : ℕ) → map f (take i xs) ≡ map f (take i ys)
    → option_map f (slice_get xs i) ≡ option_map f (slice_get ys i) → map f (take (i + 1) xs) ≡ map f (take (i + 1) ys)
same_mapped f xs ys i same at =
    let taken : take i (map f xs) ≡ take i (map f ys) = take-map f i xs ∙ (same ∙ sym (take-map f i ys)) in
    let one : slice_get (map f xs) i ≡ slice_get (map f ys) i = slice_get-map f xs i ∙ (at ∙ sym (slice_get-map f ys i)) in
    sym (take-map f (i + 1) xs) ∙ (same_more (map f xs) (map f ys) i taken one ∙ take-map f (i + 1) ys)
