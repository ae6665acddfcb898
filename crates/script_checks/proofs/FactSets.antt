-- What lines say, in a set.
use Rattle.std.proofs.Common.{◌≡◌, ◌==◌, true, Bool, false, cond, ◌&&◌, ◌||◌, ◌<◌, ◌≤◌, ◌+◌, ℕ, List, [], ◌∷◌, ◌++◌, length, map, take, get_or, refl, sym, ap, subst, ◌∙◌}
use Rattle.std.proofs.lemmas.List.{flat_map_more, map-append, take_all, take_more}
use Rattle.std.proofs.lemmas.List.Folds.{list_any-append}
use Rattle.std.specs.Cmp.{nat_eq_equiv, unsigned_ties}
use Rattle.std.specs.Cmp.Lexicographic.{nat_list_eq_equiv, slice_cmp, texts_ties}
use Rattle.std.specs.List.{flat_map, list_any}
use Rattle.std.specs.Ordering.{is_eq, nat_cmp, ordering_then}
use Rattle.std.specs.declared.cmp.Ordering.{Ordering}
use Rattle.std.specs.declared.cmp.Ordering.TheVariants.{Less, Equal, Greater}
use Rattle.giotto_tasks.specs.Names.{same_name}
use Rattle.giotto_tasks.specs.declared.names.Name.{Name}
use Rattle.script_checks.specs.Grants.{facts_of, is_said, same_fact}
use Rattle.script_checks.specs.contracts.facts.FactOrd.TheImpl.{cmp-value}
use Rattle.script_checks.specs.declared.binds.Said.{Said}
use Rattle.script_checks.specs.declared.facts.Fact.{Fact}
use Rattle.script_checks.specs.declared.facts.Fact.TheVariants.{GrantSensor, LineSensor, Actuator, Offered}
use Rattle.script_checks.specs.declared.facts.Facts.{Facts}
use Rattle.script_checks.specs.inner.Facts.{Gains, has_fact}

abbrev fact_cmp : Fact → Fact → Ordering
fact_cmp f g = (cmp-value).it f g

eq_then : (a b : Ordering) → is_eq (ordering_then a b) ≡ (is_eq a && is_eq b)
eq_then Less b = refl
eq_then Equal b = refl
eq_then Greater b = refl

-- facts are equal in the order exactly if they are the same
port_found : (t u : ℕ) (n m : Name) → is_eq (ordering_then (nat_cmp t u) (slice_cmp nat_cmp n m)) ≡ ((t == u) && same_name n m)
port_found t u n m = eq_then (nat_cmp t u) _ ∙ (λ k. sym (unsigned_ties t u) k && sym (texts_ties n m) k)

found_by : (f g : Fact) → is_eq (fact_cmp f g) ≡ same_fact f g
found_by (GrantSensor t n) (GrantSensor u m) = port_found t u n m
found_by (GrantSensor t n) (LineSensor u m) = refl
found_by (GrantSensor t n) (Actuator u m) = refl
found_by (GrantSensor t n) (Offered u m to) = refl
found_by (LineSensor t n) (GrantSensor u m) = refl
found_by (LineSensor t n) (LineSensor u m) = port_found t u n m
found_by (LineSensor t n) (Actuator u m) = refl
found_by (LineSensor t n) (Offered u m to) = refl
found_by (Actuator t n) (GrantSensor u m) = refl
found_by (Actuator t n) (LineSensor u m) = refl
found_by (Actuator t n) (Actuator u m) = port_found t u n m
found_by (Actuator t n) (Offered u m to) = refl
found_by (Offered t n to) (GrantSensor u m) = refl
found_by (Offered t n to) (LineSensor u m) = refl
found_by (Offered t n to) (Actuator u m) = refl
found_by (Offered t n to) (Offered u m other) =
    eq_then (nat_cmp t u) _
    ∙ (ap (λ b. is_eq (nat_cmp t u) && b) (eq_then (slice_cmp nat_cmp n m) _) ∙ (λ k. sym (unsigned_ties t u) k && (sym (texts_ties n m) k && sym (texts_ties to other) k)))

pub found_in : (f : Fact) (facts : List Fact) → list_any (λ g. is_eq (fact_cmp f g)) facts ≡ list_any (same_fact f) facts
found_in f facts = λ k. list_any (λ g. found_by f g k) facts

same_port : (t u : ℕ) (n m : Name) → ((t == u) && same_name n m) ≡ ((u == t) && same_name m n)
same_port t u n m = λ k. nat_eq_equiv.symm t u k && nat_list_eq_equiv.symm n m k

turned : (f g : Fact) → same_fact f g ≡ same_fact g f
turned (GrantSensor t n) (GrantSensor u m) = same_port t u n m
turned (GrantSensor t n) (LineSensor u m) = refl
turned (GrantSensor t n) (Actuator u m) = refl
turned (GrantSensor t n) (Offered u m to) = refl
turned (LineSensor t n) (GrantSensor u m) = refl
turned (LineSensor t n) (LineSensor u m) = same_port t u n m
turned (LineSensor t n) (Actuator u m) = refl
turned (LineSensor t n) (Offered u m to) = refl
turned (Actuator t n) (GrantSensor u m) = refl
turned (Actuator t n) (LineSensor u m) = refl
turned (Actuator t n) (Actuator u m) = same_port t u n m
turned (Actuator t n) (Offered u m to) = refl
turned (Offered t n to) (GrantSensor u m) = refl
turned (Offered t n to) (LineSensor u m) = refl
turned (Offered t n to) (Actuator u m) = refl
turned (Offered t n to) (Offered u m other) = λ k. nat_eq_equiv.symm t u k && (nat_list_eq_equiv.symm n m k && nat_list_eq_equiv.symm to other k)

at_or_before : (b c : Bool) → cond b true c ≡ ((b || false) || c)
at_or_before true c = refl
at_or_before false c = refl

-- what the set has once a fact is inserted
pub inserted : (fact f : Fact) (before after : List Fact) → list_any (λ g. is_eq (fact_cmp f g)) after ≡ cond (is_eq (fact_cmp fact f)) true (list_any (λ g. is_eq (fact_cmp f g)) before)
    → list_any (same_fact f) after ≡ (list_any (same_fact f) (fact ∷ []) || list_any (same_fact f) before)
inserted fact f before after updates =
    sym (found_in f after) ∙ (updates ∙ ((λ k. cond ((found_by fact f ∙ turned fact f) k) true (found_in f before k)) ∙ at_or_before (same_fact f fact) (list_any (same_fact f) before)))

gained_later : (x y z : Bool) → (y || (x || z)) ≡ ((x || y) || z)
gained_later true true z = refl
gained_later true false z = refl
gained_later false true z = refl
gained_later false false z = refl

pub gains_none : (facts : Facts) → Gains [] facts facts
gains_none facts f = refl

pub gains_both : (xs ys : List Fact) (a b c : Facts) → Gains xs a b → Gains ys b c → Gains (xs ++ ys) a c
gains_both xs ys a b c first second f =
    second f ∙ (ap (λ t. list_any (same_fact f) ys || t) (first f) ∙ (gained_later (list_any (same_fact f) xs) (list_any (same_fact f) ys) (has_fact a f) ∙ ap (λ t. t || has_fact a f) (sym (list_any-append (same_fact f) xs ys))))

-- a loop over declarations, one further
pub fact_further : {X : Type 0} (at : X → Fact) (xs : List X) (i : ℕ) (x : X) (a b c : Facts) → Gains (map at (take i xs)) a b → i < length xs → x ≡ get_or xs i x → Gains (at x ∷ []) b c → Gains (map at (take (i + 1) xs)) a c
fact_further at xs i x a b c so_far within item here =
    let taken : take i xs ++ x ∷ [] ≡ take (i + 1) xs = sym (take_more xs i x within ∙ ap (λ y. take i xs ++ y ∷ []) (sym item)) in
    let more : map at (take i xs) ++ at x ∷ [] ≡ map at (take (i + 1) xs) = sym (map-append at (take i xs) (x ∷ [])) ∙ ap (map at) taken in
    subst (λ l. Gains l a c) more (gains_both (map at (take i xs)) (at x ∷ []) a b c so_far here)

maps : {X Y : Type 0} (at : Y → Fact) (of : X → Y) (xs : List X) → map (λ x. at (of x)) xs ≡ map at (map of xs)
maps at of [] = refl
maps at of (x ∷ xs) = ap (λ l. at (of x) ∷ l) (maps at of xs)

-- after the loop
pub fact_of_each : {X Y : Type 0} (at : Y → Fact) (of : X → Y) (xs : List X) (i : ℕ) (a b : Facts) → length xs ≤ i → Gains (map (λ x. at (of x)) (take i xs)) a b → Gains (map at (map of xs)) a b
fact_of_each at of xs i a b past gains = subst (λ l. Gains l a b) (ap (map (λ x. at (of x))) (take_all i xs past) ∙ maps at of xs) gains

abbrev pub said_by : Said → List Fact
said_by one = facts_of one.tenant one.what

-- the set has what the lines say, with one command more
pub said_more : (said : List Said) (one : Said) (a b : Facts) → has_fact a ≡ is_said said → Gains (facts_of one.tenant one.what) a b → has_fact b ≡ is_said (said ++ one ∷ [])
said_more said one a b has gains = λ k f. by f k
  where
    turn : (x y : Bool) → (x || y) ≡ (y || x)
    turn true true = refl
    turn true false = refl
    turn false true = refl
    turn false false = refl

    by : (f : Fact) → has_fact b f ≡ is_said (said ++ one ∷ []) f
    by f =
        let all : flat_map said_by said ++ said_by one ≡ flat_map said_by (said ++ one ∷ []) = flat_map_more said_by [] said one in
        gains f
        ∙ (ap (λ t. list_any (same_fact f) (said_by one) || t) (ap (λ h. h f) has)
        ∙ (turn (list_any (same_fact f) (said_by one)) (is_said said f) ∙ (sym (list_any-append (same_fact f) (flat_map said_by said) (said_by one)) ∙ ap (list_any (same_fact f)) all)))
