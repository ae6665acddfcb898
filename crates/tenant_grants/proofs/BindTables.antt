-- The table of binds, seen as the list of binds.
use Rattle.std.proofs.Common.{◌≡◌, ℕ, Bool, true, false, cond, ◌||◌, List, [], ◌∷◌, ◌++◌, map, Option, Some, None, option_map, slice_get, is_some, refl, ap, subst, ◌∙◌, zero, suc, nat_eq, if◌then◌else◌, Ok, Err}
use Rattle.std.specs.List.{AllByRecursion, list_any}
use Rattle.std.specs.Option.{option_and_then, ok_or}
use Rattle.std.proofs.lemmas.List.{map-append}
use Rattle.std.proofs.lemmas.Option.{slice_get-map}
use Rattle.std.specs.Map.{lookup, remove_entry}
use Rattle.std.specs.Set.{remove_key}
use Rattle.giotto_tasks.specs.declared.names.Name.{Name}
use Rattle.giotto_tasks.specs.Names.{same_name}
use Rattle.tenant_grants.specs.Grants.{Owner, unbound, is_bind_of, without, bind_at, with_place, place_in, other_side, ◌>>=◌}
use Rattle.tenant_grants.specs.declared.faults.GrantFault.TheVariants.{NoTenant, Own}
use Rattle.tenant_grants.specs.declared.tables.Sensor.{Sensor}
use Rattle.tenant_grants.specs.declared.tables.Supplier.{Supplier}
use Rattle.tenant_grants.specs.inner.Tables.{AreSuppliersPlaced, bind_of, placed}

-- the toolchain's tables remove a key as `without` does
pub without_keys : {A : Type 0} (test : A → Bool) (xs : List A) → remove_key test xs ≡ without test xs
without_keys test [] = refl
without_keys test (x ∷ xs) = ap (λ ys. cond (test x) xs (x ∷ ys)) (without_keys test xs)

-- a sensor has an entry if it is bound
pub is_bound_entries : (x : Name) (es : List (Sensor × Supplier)) → is_some (lookup (λ (s : Sensor). same_name s.name x) es) ≡ list_any (is_bind_of x) (map bind_of es)
is_bound_entries x [] = refl
is_bound_entries x (e ∷ es) =
    elim (same_name e.0.name x) as (λ b. is_some (cond b (Some e.1) (lookup (λ (s : Sensor). same_name s.name x) es)) ≡ (b || list_any (is_bind_of x) (map bind_of es)))
    [ true ↦ refl | false ↦ is_bound_entries x es ]

-- one more entry is one more bind
pub binds_push : (es : List (Sensor × Supplier)) (e : Sensor × Supplier) → map bind_of (es ++ e ∷ []) ≡ map bind_of es ++ bind_of e ∷ []
binds_push es e = map-append bind_of es (e ∷ [])

-- and none if it isn't
pub absent_entries : (x : Name) (es : List (Sensor × Supplier)) → list_any (is_bind_of x) (map bind_of es) ≡ false → lookup (λ (s : Sensor). same_name s.name x) es ≡ None
absent_entries x es h = none_of (lookup (λ (s : Sensor). same_name s.name x) es) (is_bound_entries x es ∙ h)
  where
    none_of : (o : Option Supplier) → is_some o ≡ false → o ≡ None
    none_of None h = refl
    none_of (Some v) h = cc

-- the entries without a sensor's entry are the binds without its bind
pub without_entries : (x : Name) (es : List (Sensor × Supplier)) → map bind_of (remove_entry (λ (s : Sensor). same_name s.name x) es) ≡ without (is_bind_of x) (map bind_of es)
without_entries x [] = refl
without_entries x (e ∷ es) =
    elim (same_name e.0.name x) as (λ b. map bind_of (cond b es (e ∷ remove_entry (λ (s : Sensor). same_name s.name x) es)) ≡ cond b (map bind_of es) (bind_of e ∷ without (is_bind_of x) (map bind_of es)))
    [ true ↦ refl | false ↦ ap (λ bs. bind_of e ∷ bs) (without_entries x es) ]

-- a place on the other side is the place of the name
place_other_side : (owner : Owner) (x : Name) (u : ℕ) → other_side owner x ≡ Ok u → place_in owner.roster x ≡ Some u
place_other_side owner x u h = by (place_in owner.roster x) h
  where
    by : (o : Option ℕ) → (ok_or o NoTenant >>= (λ u. if nat_eq u owner.place then Err Own else Ok u)) ≡ Ok u → o ≡ Some u
    by None h = cc
    by (Some v) h = other (nat_eq v owner.place) h
      where
        other : (b : Bool) → (if b then Err Own else Ok v) ≡ Ok u → Some v ≡ Some u
        other true h = cc
        other false h = cc

placed_at : (owner : Owner) (es : List (Sensor × Supplier)) → AreSuppliersPlaced owner es → (i : ℕ) (e : Sensor × Supplier) → slice_get es i ≡ Some e → place_in owner.roster e.1.tenant ≡ Some e.1.place
placed_at owner [] all i e at = cc
placed_at owner (x ∷ es) all zero e at = let same : x ≡ e = cc in subst (λ (y : Sensor × Supplier). place_in owner.roster y.1.tenant ≡ Some y.1.place) same (place_other_side owner x.1.tenant x.1.place all.0)
placed_at owner (x ∷ es) all (suc i) e at = placed_at owner es all.1 i e at

-- and `unbind` of a bound sensor leaves them
pub unbound_entries : (x : Name) (es : List (Sensor × Supplier)) → list_any (is_bind_of x) (map bind_of es) ≡ true → unbound (map bind_of es) x ≡ Ok (map bind_of (remove_entry (λ (s : Sensor). same_name s.name x) es))
unbound_entries x es h = rw (h, without_entries x es) refl

module _ (P : Sensor × Supplier → Type 0) where
  -- what holds of all entries holds of all without one
  pub all_without : (test : Sensor → Bool) (es : List (Sensor × Supplier)) → AllByRecursion P es → AllByRecursion P (remove_entry test es)
  all_without test [] all = all
  all_without test (e ∷ es) all =
      elim (test e.0) as (λ b. AllByRecursion P (cond b es (e ∷ remove_entry test es))) [ true ↦ all.1 | false ↦ (all.0, all_without test es all.1) ]

  -- and of all with one more of which it holds
  pub all_push : (es : List (Sensor × Supplier)) (e : Sensor × Supplier) → AllByRecursion P es → P e → AllByRecursion P (es ++ e ∷ [])
  all_push [] e all here = (here, tt)
  all_push (x ∷ es) e all here = (all.0, all_push es e all.1 here)

-- the binds by place are the entries by place
pub bind_at_entries : (owner : Owner) (es : List (Sensor × Supplier)) → AreSuppliersPlaced owner es → (i : ℕ) → option_map placed (slice_get es i) ≡ bind_at owner.roster (map bind_of es) i
bind_at_entries owner es all i = rw (slice_get-map bind_of es i) (by (slice_get es i) (λ e at. placed_at owner es all i e at))
  where
    by : (o : Option (Sensor × Supplier)) → ((e : Sensor × Supplier) → o ≡ Some e → place_in owner.roster e.1.tenant ≡ Some e.1.place)
        → option_map placed o ≡ option_and_then (with_place owner.roster) (option_map bind_of o)
    by None known = refl
    by (Some e) known = rw (known e refl) refl
