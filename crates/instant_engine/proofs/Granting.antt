-- What is granted through the binds of a tenant, and how it is written place by place.
use Rattle.std.proofs.Common.{◌≡◌, ℕ, ◌+◌, ◌<◌, ◌≤◌, ℤ, List, [], ◌∷◌, ◌++◌, length, map, take, drop, set, get_or, slice_get, Option, Some, None, option_map, unwrap_or, refl, sym, ap, ◌∙◌, arith, length-drop}
use Rattle.std.specs.Option.{option_and_then}
use Rattle.std.proofs.lemmas.List.{drop-set-add, drop-take, take-take, get_or-map, length-map, take-set-le, take_more, take_more_set}
use Rattle.std.proofs.lemmas.List.Quantifiers.{position-Some}
use Rattle.std.proofs.lemmas.Option.{slice_get-get_or}
use Rattle.giotto_tasks.specs.declared.names.Name.{Name}
use Rattle.giotto_tasks.specs.Names.{same_name}
use Rattle.giotto_tasks.proofs.cited.ListLemmas.{some_same}
use Rattle.rig_model.specs.Granted.{granted_by, granted_from}
use Rattle.instant_engine.specs.Tenants.{tenant_at}
use Rattle.instant_engine.specs.cited.Tenants.{HaveRoster, roster_among, rows_of}
use Rattle.rig_model.specs.grants.Grants.{bind_at, granted_value, name_of_place, offer_of, place_in, with_place}
use Rattle.rig_model.specs.declared.grants.rows.Bind.{Bind}
use Rattle.rig_model.specs.declared.grants.rows.Offer.{Offer}
use Rattle.rig_model.specs.Row.{actuator_value}
use Rattle.tenant_state.specs.Standing.{Standing}

-- the supplier of a bind is in the roster
pub bound_within : (roster : List Name) (bs : List Bind) (i u : ℕ) (sensor actuator : Name) → bind_at roster bs i ≡ Some (sensor, u, actuator) → u < length roster
bound_within roster bs i u sensor actuator = by (slice_get bs i)
  where
    placed : (b : Bind) (o : Option ℕ) → place_in roster b.tenant ≡ o → option_map {U = Name × ℕ × Name} (λ v. (b.sensor, v, b.actuator)) o ≡ Some (sensor, u, actuator) → u < length roster
    placed b None at e = absurd (cc)
    placed b (Some v) at e =
        let same : v ≡ u = ap (λ (x : Name × ℕ × Name). x.1) (some_same (b.sensor, v, b.actuator) (sensor, u, actuator) e) in
        omega (arith, same, (position-Some (λ n. same_name n b.tenant) roster v [] at).0)

    by : (o : Option Bind) → option_and_then (with_place roster) o ≡ Some (sensor, u, actuator) → u < length roster
    by None e = absurd (cc)
    by (Some b) e = placed b (place_in roster b.tenant) refl e

-- the name of a tenant is the one at its place in the roster
pub name_there : (roster : List Name) (place : ℕ) (d : Name) → place < length roster → get_or roster place d ≡ name_of_place roster place
name_there roster place d lt = ap (λ o. unwrap_or o []) (sym (slice_get-get_or roster place d lt))

-- what is granted through a bind, by its supplier's place and actuator
through_bind : (roster : List Name) (bs : List Bind) (i : ℕ) (from : Name → ℕ → Option ℤ)
    → option_and_then (λ (b : Bind). option_and_then (from b.actuator) (place_in roster b.tenant)) (slice_get bs i) ≡ option_and_then (λ (x : Name × ℕ × Name). from x.2 x.1) (bind_at roster bs i)
through_bind roster bs i from = by (slice_get bs i)
  where
    placed : (b : Bind) (o : Option ℕ) → option_and_then (from b.actuator) o ≡ option_and_then (λ (x : Name × ℕ × Name). from x.2 x.1) (option_map {U = Name × ℕ × Name} (λ v. (b.sensor, v, b.actuator)) o)
    placed b None = refl
    placed b (Some v) = refl

    by : (o : Option Bind)
        → option_and_then (λ (b : Bind). option_and_then (from b.actuator) (place_in roster b.tenant)) o ≡ option_and_then (λ (x : Name × ℕ × Name). from x.2 x.1) (option_and_then (with_place roster) o)
    by None = refl
    by (Some b) = placed b (place_in roster b.tenant)

-- what is granted through the bind at a place: its supplier is the tenant at place u
pub granted_there : (tenants : List Standing) (place i u : ℕ) (sensor actuator tenant : Name) (x s : Standing) → HaveRoster tenants → place < length tenants → x ≡ tenant_at tenants place → s ≡ tenant_at tenants u
    → bind_at x.tenancy.owner.roster x.row.binds i ≡ Some (sensor, u, actuator) → tenant ≡ name_of_place x.tenancy.owner.roster place
    → option_and_then (granted_by (roster_among tenants) (rows_of tenants) (rows_of tenants) place) (slice_get (rows_of tenants place).binds i)
    ≡ option_and_then (λ (o : Offer). option_map (granted_value o) (actuator_value s.row actuator)) (offer_of s.row.offers actuator tenant)
granted_there tenants place i u sensor actuator tenant x s shared lt own supplier bound named =
    let roster : x.tenancy.owner.roster ≡ roster_among tenants = ap (λ (y : Standing). y.tenancy.owner.roster) own ∙ shared.same place lt in
    let name : name_of_place (roster_among tenants) place ≡ tenant = ap (λ names. name_of_place names place) (sym roster) ∙ sym named in
    let at : bind_at (roster_among tenants) (rows_of tenants place).binds i ≡ Some (sensor, u, actuator) = (λ k. bind_at (sym roster k) (sym own k).row.binds i) ∙ bound in
    through_bind (roster_among tenants) (rows_of tenants place).binds i (granted_from (roster_among tenants) (rows_of tenants) (rows_of tenants) place)
    ∙ ap (option_and_then (λ (y : Name × ℕ × Name). granted_from (roster_among tenants) (rows_of tenants) (rows_of tenants) place y.2 y.1)) at
    ∙ (λ k. option_and_then (λ (o : Offer). option_map (granted_value o) (actuator_value (sym supplier k).row actuator)) (offer_of (sym supplier k).row.offers actuator (name k)))

-- what is before the written places stays as it was
pub written_others : (old new : List (Option ℤ)) (first n from : ℕ) → from + n ≤ first → take first new ≡ take first old → take n (drop from new) ≡ take n (drop from old)
written_others old new first n from le same =
    let rest : (xs : List (Option ℤ)) → take n (drop from xs) ≡ take n (drop from (take first xs)) = λ xs.
    sym (drop-take from n xs) ∙ (ap (drop from) (sym (take-take (from + n) first xs le)) ∙ drop-take from n (take first xs)) in
    rest new ∙ ap (λ xs. take n (drop from xs)) same ∙ sym (rest old)

-- no bind
abbrev pub no_bind : Bind
no_bind = record { sensor = []; tenant = []; actuator = [] }

-- one more place is written
module _ (granted : List (Option ℤ)) (first i : ℕ) (v : Option ℤ) where
  pub others_before : take first (set granted (first + i) v) ≡ take first granted
  others_before = take-set-le first granted (first + i) v (omega arith)

  pub written_more : (by : Bind → Option ℤ) (bs : List Bind) → first + length bs ≤ length granted → i < length bs → v ≡ option_and_then by (slice_get bs i)
      → take i (drop first granted) ≡ take i (map by bs) → take (i + 1) (drop first (set granted (first + i) v)) ≡ take (i + 1) (map by bs)
  written_more by bs room lt is so_far =
      let value : v ≡ get_or (map by bs) i v = is ∙ ap (option_and_then by) (slice_get-get_or bs i no_bind lt) ∙ sym (get_or-map by bs i no_bind v lt) in
      ap (take (i + 1)) (drop-set-add first granted i v)
      ∙ take_more_set (drop first granted) i v (omega (arith, length-drop first granted))
      ∙ (λ k. so_far k ++ value k ∷ [])
      ∙ sym (take_more (map by bs) i v (omega (arith, length-map bs by)))
