-- What holds of rows still holds after each command.
use Rattle.std.proofs.Common.{◌≡◌, ◌+◌, ◌<◌, ◌≤◌, Bool, true, false, cond, List, [], ◌∷◌, ◌++◌, length, map, Ok, IsOk, refl, ap, ◌∙◌, arith, length-append, Result, Err}
use Rattle.std.specs.List.{AllByRecursion, IsDistinct}
use Rattle.std.specs.Result.{OnOk, OnErr}
use Rattle.std.proofs.lemmas.List.{length-map}
use Rattle.std.specs.Map.{keys_of, remove_entry}
use Rattle.std.specs.Set.{remove_key}
use Rattle.giotto_tasks.specs.Names.{same_name}
use Rattle.tenant_grants.specs.Grants.{Owner, other_side, without}
use Rattle.tenant_grants.specs.Kept.{AreKept, same_offer, same_bind}
use Rattle.tenant_grants.specs.declared.rows.Offer.{Offer}
use Rattle.tenant_grants.specs.declared.rows.Bind.{Bind}
use Rattle.tenant_grants.specs.declared.tables.Sensor.{Sensor}
use Rattle.tenant_grants.specs.declared.tables.Supplier.{Supplier}
use Rattle.tenant_grants.specs.declared.faults.GrantFault.{GrantFault}
use Rattle.tenant_grants.proofs.BindTables.{all_without, all_push, without_keys}
use Rattle.tenant_grants.specs.inner.Held.{AreHeld}
use Rattle.tenant_grants.specs.inner.Tables.{AreSuppliersPlaced, bind_of}

-- what holds of each still does with one more of which it holds
pub all_more : {A : Type 0} (P : A → Type 0) (xs : List A) (x : A) → AllByRecursion P xs → P x → AllByRecursion P (xs ++ x ∷ [])
all_more P [] x all here = (here, tt)
all_more P (y ∷ xs) x all here = (all.0, all_more P xs x all.1 here)

-- and without one
pub all_less : {A : Type 0} (P : A → Type 0) (test : A → Bool) (xs : List A) → AllByRecursion P xs → AllByRecursion P (without test xs)
all_less P test [] all = all
all_less P test (x ∷ xs) all =
    elim (test x) as (λ b. AllByRecursion P (cond b xs (x ∷ without test xs))) [ true ↦ all.1 | false ↦ (all.0, all_less P test xs all.1) ]

-- there aren't more without one
pub length_less : {A : Type 0} (test : A → Bool) (xs : List A) → length (without test xs) ≤ length xs
length_less test [] = omega arith
length_less test (x ∷ xs) =
    let rest : length (without test xs) ≤ length xs = length_less test xs in
    elim (test x) as (λ b. length (cond b xs (x ∷ without test xs)) ≤ length (x ∷ xs)) [ true ↦ omega arith | false ↦ omega arith ]

-- sensors that differ are binds that differ
pub binds_differ_entries : (es : List (Sensor × Supplier)) → IsDistinct (λ (s t : Sensor). same_name t.name s.name) (keys_of es) → IsDistinct same_bind (map bind_of es)
unfolding IsDistinct
binds_differ_entries [] d = d
binds_differ_entries (e ∷ es) d = (each es d.0, binds_differ_entries es d.1)
  where
    each : (fs : List (Sensor × Supplier)) → AllByRecursion (λ (t : Sensor). same_name t.name e.0.name ≡ false) (keys_of fs)
        → AllByRecursion (λ (b : Bind). same_bind (bind_of e) b ≡ false) (map bind_of fs)
    each [] h = h
    each (f ∷ fs) h = (h.0, each fs h.1)

-- suppliers with a place are other tenants than the owner
pub binds_to_entries : (owner : Owner) (es : List (Sensor × Supplier)) → AreSuppliersPlaced owner es → AllByRecursion (λ (b : Bind). IsOk (other_side owner b.tenant)) (map bind_of es)
binds_to_entries owner [] h = h
binds_to_entries owner (e ∷ es) h = (rw (h.0) refl, binds_to_entries owner es h.1)

-- what holds of the tables holds of their rows
pub kept_rows : (owner : Owner) (os : List Offer) (es : List (Sensor × Supplier)) → AreHeld owner os es → AreKept (record { owner = owner; offers = os; binds = map bind_of es })
kept_rows owner os es held = record {
  place = held.place;
  offers_within = held.offers_within;
  binds_within = rw (length-map es bind_of) held.binds_within;
  offers_differ = held.offers_differ;
  binds_differ = binds_differ_entries es held.binds_differ;
  offers_to = held.offers_to;
  binds_to = binds_to_entries owner es held.placed;
}

-- with one offer less
pub held_unoffered : (owner : Owner) (os new : List Offer) (es : List (Sensor × Supplier)) (test : Offer → Bool) → AreHeld owner os es
    → new ≡ remove_key test os → IsDistinct same_offer new → AreHeld owner new es
held_unoffered owner os new es test held left differ =
    let left' : new ≡ without test os = left ∙ without_keys test os in
    record {
      place = held.place;
      offers_within = let fewer : length (without test os) ≤ length os = length_less test os in let within : length os ≤ owner.most_offers = held.offers_within in rw left' (omega arith);
      binds_within = held.binds_within;
      offers_differ = differ;
      binds_differ = held.binds_differ;
      offers_to = rw left' (all_less (λ (o : Offer). IsOk (other_side owner o.tenant)) test os held.offers_to);
      placed = held.placed;
    }

-- with one bind more, or unchanged
pub held_bound : (owner : Owner) (os : List Offer) (es new : List (Sensor × Supplier)) (e : Sensor × Supplier) (r : Result (Unit {0}) GrantFault) → AreHeld owner os es
    → other_side owner e.1.tenant ≡ Ok e.1.place → length es < owner.most_binds → IsDistinct (λ (s t : Sensor). same_name t.name s.name) (keys_of new)
    → OnOk r (new ≡ es ++ e ∷ []) → OnErr r (new ≡ es) → AreHeld owner os new
held_bound owner os es new e (Err fault) held placed room differ more same = rw same held
held_bound owner os es new e (Ok _) held placed room differ more same = record {
  place = held.place;
  offers_within = held.offers_within;
  binds_within = let longer : length new ≡ length es + 1 = ap length more ∙ length-append es (e ∷ []) in omega arith;
  offers_differ = held.offers_differ;
  binds_differ = differ;
  offers_to = held.offers_to;
  placed = rw more (all_push (λ e. other_side owner e.1.tenant ≡ Ok e.1.place) es e held.placed placed);
}

length_without : (test : Sensor → Bool) (es : List (Sensor × Supplier)) → length (remove_entry test es) ≤ length es
length_without test [] = omega arith
length_without test (e ∷ es) =
    let rest : length (remove_entry test es) ≤ length es = length_without test es in
    elim (test e.0) as (λ b. length (cond b es (e ∷ remove_entry test es)) ≤ length (e ∷ es)) [ true ↦ omega arith | false ↦ omega arith ]

-- with one bind less
pub held_unbound : (owner : Owner) (os : List Offer) (es new : List (Sensor × Supplier)) (test : Sensor → Bool) → AreHeld owner os es
    → new ≡ remove_entry test es → IsDistinct (λ (s t : Sensor). same_name t.name s.name) (keys_of new) → AreHeld owner os new
held_unbound owner os es new test held left differ = record {
  place = held.place;
  offers_within = held.offers_within;
  binds_within = let fewer : length (remove_entry test es) ≤ length es = length_without test es in let within : length es ≤ owner.most_binds = held.binds_within in rw left (omega arith);
  offers_differ = held.offers_differ;
  binds_differ = differ;
  offers_to = held.offers_to;
  placed = rw left (all_without (λ e. other_side owner e.1.tenant ≡ Ok e.1.place) test es held.placed);
}
