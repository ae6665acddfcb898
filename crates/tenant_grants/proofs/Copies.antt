-- Copies of rows, made one by one.
use Rattle.std.proofs.Common.{◌≡◌, ℕ, zero, suc, ◌+◌, Bool, true, false, cond, ◌||◌, ◌&&◌, List, [], ◌∷◌, ◌++◌, map, take, Option, Some, None, slice_get, refl, sym, ap, subst, ◌∙◌}
use Rattle.std.specs.List.{AllByRecursion, IsDistinct, list_any}
use Rattle.std.specs.Map.{keys_of, lookup}
use Rattle.std.proofs.lemmas.List.{take_more}
use Rattle.std.proofs.lemmas.Option.{slice_get_within, slice_get-map, get_or_from_slice_get}
use Rattle.giotto_tasks.specs.declared.names.Name.{Name}
use Rattle.giotto_tasks.specs.Names.{same_name}
use Rattle.giotto_tasks.proofs.cited.ListLemmas.{some_same}
use Rattle.giotto_tasks.proofs.cited.NameLemmas.{same_name_self, same_name_is}
use Rattle.indexmap.specs.IndexSet.{insert_key}
use Rattle.tenant_grants.specs.Kept.{same_bind, same_offer}
use Rattle.tenant_grants.specs.declared.rows.Bind.{Bind}
use Rattle.tenant_grants.specs.declared.rows.Offer.{Offer}
use Rattle.tenant_grants.specs.declared.tables.Sensor.{Sensor}
use Rattle.tenant_grants.specs.declared.tables.Supplier.{Supplier}
use Rattle.tenant_grants.specs.inner.Tables.{bind_of}
use Rattle.tenant_grants.proofs.BindTables.{absent_entries}
use Rattle.tenant_grants.proofs.KeptRows.{binds_differ_entries}

-- the first i and the next are the first i + 1
pub one_more : {X : Type 0} (xs : List X) (i : ℕ) (x : X) → slice_get xs i ≡ Some x → take i xs ++ x ∷ [] ≡ take (i + 1) xs
one_more xs i x at = sym (take_more xs i x (slice_get_within xs i x at) ∙ ap (λ y. take i xs ++ y ∷ []) (get_or_from_slice_get xs i x x at))

-- what holds of all holds of the one at a place
all_there : {X : Type 0} (P : X → Type 0) (xs : List X) (i : ℕ) (x : X) → slice_get xs i ≡ Some x → AllByRecursion P xs → P x
all_there P [] i x at all = cc
all_there P (y ∷ ys) zero x at all = subst P (some_same y x at) all.0
all_there P (y ∷ ys) (suc i) x at all = all_there P ys i x at all.1

-- if keys differ, the next is none of those before it
new_there : {X : Type 0} (same : X → X → Bool) → ((x y : X) → same x y ≡ same y x) → (xs : List X) → IsDistinct same xs → (i : ℕ) (x : X) → slice_get xs i ≡ Some x
    → list_any (same x) (take i xs) ≡ false
unfolding IsDistinct
new_there same turned [] d i x at = cc
new_there same turned (y ∷ ys) d zero x at = refl
new_there same turned (y ∷ ys) d (suc i) x at =
    rw (turned x y, all_there (λ z. same y z ≡ false) ys i x at d.0) (new_there same turned ys d.1 i x at)

same_name_turned : (x y : Name) → same_name x y ≡ same_name y x
same_name_turned x y = by (same_name x y) (same_name y x) refl refl
  where
    by : (b d : Bool) → same_name x y ≡ b → same_name y x ≡ d → b ≡ d
    by true true p q = refl
    by false false p q = refl
    by true false p q = sym (ap (λ z. same_name z x) (sym (same_name_is x y p)) ∙ same_name_self x) ∙ q
    by false true p q = sym p ∙ ap (λ z. same_name z y) (sym (same_name_is y x q)) ∙ same_name_self y

same_offer_turned : (o p : Offer) → same_offer o p ≡ same_offer p o
same_offer_turned o p = (λ k. same_name_turned p.actuator o.actuator k && same_name_turned p.tenant o.tenant k)

same_bind_turned : (b c : Bind) → same_bind b c ≡ same_bind c b
same_bind_turned b c = same_name_turned c.sensor b.sensor

-- one more offer is copied
pub offer_copied : (os before new : List Offer) (i : ℕ) (o : Offer) → IsDistinct same_offer os → slice_get os i ≡ Some o → before ≡ take i os
    → new ≡ insert_key same_offer before o → new ≡ take (i + 1) os
offer_copied os before new i o differ at h p =
    let none : list_any (same_offer o) before ≡ false = ap (list_any (same_offer o)) h ∙ new_there same_offer same_offer_turned os differ i o at in
    p ∙ ap (λ b. cond b before (before ++ o ∷ [])) none ∙ ap (λ xs. xs ++ o ∷ []) h ∙ one_more os i o at

take_mapped : {X Y : Type 0} (f : X → Y) (i : ℕ) (xs : List X) → take i (map f xs) ≡ map f (take i xs)
take_mapped f zero xs = refl
take_mapped f (suc i) [] = refl
take_mapped f (suc i) (x ∷ xs) = ap (λ ys. f x ∷ ys) (take_mapped f i xs)

-- the sensor of the next entry has no entry among those before it
pub sensor_absent : (es : List (Sensor × Supplier)) (i : ℕ) (e : Sensor × Supplier) → IsDistinct (λ (s t : Sensor). same_name t.name s.name) (keys_of es) → slice_get es i ≡ Some e
    → lookup (λ (s : Sensor). same_name s.name e.0.name) (take i es) ≡ None
sensor_absent es i e differ at =
    absent_entries e.0.name (take i es)
    (ap (list_any (same_bind (bind_of e))) (sym (take_mapped bind_of i es))
    ∙ new_there same_bind same_bind_turned (map bind_of es) (binds_differ_entries es differ) i (bind_of e) (slice_get-map bind_of es i ∙ ap (λ o. bind_there o) at))
  where
    bind_there : Option (Sensor × Supplier) → Option Bind
    bind_there None = None
    bind_there (Some d) = Some (bind_of d)
