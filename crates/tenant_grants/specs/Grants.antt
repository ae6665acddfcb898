-- The rows with which a tenant grants values to others, and takes values from others, and how the four commands change them.
use Rattle.std.specs.Prelude.{ℕ, ℤ, Bool, ◌&&◌, if◌then◌else◌, nat_eq, nat_lt, List, [], ◌∷◌, ◌++◌, length, map, slice_get, Option, option_map, unwrap_or, Result, Ok, Err}
use Rattle.std.specs.List.{list_any, position, find}
use Rattle.std.specs.Option.{option_and_then, ok_or}
use Rattle.giotto_tasks.specs.declared.names.Name.{Name}
use Rattle.giotto_tasks.specs.Names.{same_name}
use Rattle.rig_config.specs.Intervals.{Interval, clamped}
use Rattle.tenant_grants.specs.declared.faults.GrantFault.{GrantFault}
use Rattle.tenant_grants.specs.declared.faults.GrantFault.TheVariants.{NoTenant, Own, Twice, NotThere, Budget}
use Rattle.tenant_grants.specs.declared.rows.Offer.{Offer}
use Rattle.tenant_grants.specs.declared.rows.Bind.{Bind}
use Rattle.tenant_grants.specs.declared.rows.Row.{Row}
use Rattle.tenant_grants.specs.declared.rows.Row.TheVariants as row

-- the owner of rows: its place in the roster of all tenants' names, how many offers and binds it may have, and the bounds of
-- an offer that names none
pub record Owner : Type 0 where
  pub place : ℕ
  pub roster : List Name
  pub most_offers : ℕ
  pub most_binds : ℕ
  pub bounds : Interval

-- the rows of one owner, each list in the order in which its rows were made
pub record GrantRows : Type 0 where
  pub owner : Owner
  pub offers : List Offer
  pub binds : List Bind

abbrev pub no_rows : Owner → GrantRows
no_rows owner = record { owner = owner; offers = []; binds = [] }

-- the place of the tenant with this name
abbrev pub place_in : List Name → Name → Option ℕ
place_in roster x = position (λ n. same_name n x) roster

-- the name of the tenant at a place; empty if the roster has no such place
abbrev pub name_of_place : List Name → ℕ → Name
name_of_place roster t = unwrap_or (slice_get roster t) []

-- the offer is of this actuator to the tenant of this name
abbrev pub is_offer_of : Name → Name → Offer → Bool
is_offer_of actuator tenant o = same_name o.actuator actuator && same_name o.tenant tenant

-- the bind is of this sensor
abbrev pub is_bind_of : Name → Bind → Bool
is_bind_of sensor b = same_name b.sensor sensor

-- the offer of this actuator to the tenant of this name, if there is one
abbrev pub offer_of : List Offer → Name → Name → Option Offer
offer_of offers actuator tenant = find (is_offer_of actuator tenant) offers

-- the offer of this actuator to the tenant at this place of the roster, if there is one
abbrev pub offer_to : List Name → List Offer → Name → ℕ → Option Offer
offer_to roster os actuator t = option_and_then (offer_of os actuator) (slice_get roster t)

-- the value that an offer grants: the actuator's value, or the bound that it is beyond
abbrev pub granted_value : Offer → ℤ → ℤ
granted_value o z = clamped o.bounds z

-- the actuator is offered to the tenant of this name
abbrev pub offers : List Offer → Name → Name → Bool
offers os actuator tenant = list_any (is_offer_of actuator tenant) os

-- these rows without the first for which the test holds
abbrev pub without : {A : Type 0} → (A → Bool) → List A → List A
without test [] = []
without test (x ∷ xs) = if test x then xs else x ∷ without test xs

infixl 10 ◌>>=◌
abbrev pub ◌>>=◌ : {A B : Type 0} → Result A GrantFault → (A → Result B GrantFault) → Result B GrantFault
(Ok x) >>= f = f x
(Err fault) >>= f = Err fault

-- the place of the tenant on the other side of a row: this tenant has to be in the roster, and may not be the owner
abbrev pub other_side : Owner → Name → Result ℕ GrantFault
other_side owner tenant = do
  u ← ok_or (place_in owner.roster tenant) NoTenant
  if nat_eq u owner.place then Err Own else Ok u

-- These rows, and one more at the end. It may not exist already, and there may be at most `most` rows.
abbrev pub one_more : {A : Type 0} → Bool → ℕ → List A → A → Result (List A) GrantFault
one_more stands most rows new = if stands then Err Twice else (if nat_lt (length rows) most then Ok (rows ++ new ∷ []) else Err Budget)

-- these rows without the one for which the test holds, which has to exist
abbrev pub one_less : {A : Type 0} → (A → Bool) → List A → Result (List A) GrantFault
one_less test rows = if list_any test rows then Ok (without test rows) else Err NotThere

-- `offer`: the offers after it. An actuator is offered to a tenant once, whatever the bounds.
abbrev pub offered : Owner → List Offer → Name → Name → Interval → Result (List Offer) GrantFault
offered owner os actuator tenant bounds = do
  u ← other_side owner tenant
  one_more (offers os actuator tenant) owner.most_offers os (record { actuator = actuator; tenant = tenant; bounds = bounds })

-- `unoffer`: the offers after it
abbrev pub unoffered : Owner → List Offer → Name → Name → Result (List Offer) GrantFault
unoffered owner os actuator tenant = do
  u ← other_side owner tenant
  one_less (is_offer_of actuator tenant) os

-- `bind`: the binds after it. A sensor is bound once, whatever it is bound to.
abbrev pub bound : Owner → List Bind → Name → Name → Name → Result (List Bind) GrantFault
bound owner bs sensor tenant actuator = do
  u ← other_side owner tenant
  one_more (list_any (is_bind_of sensor) bs) owner.most_binds bs (record { sensor = sensor; tenant = tenant; actuator = actuator })

-- `unbind`: the binds after it
abbrev pub unbound : List Bind → Name → Result (List Bind) GrantFault
unbound bs sensor = one_less (is_bind_of sensor) bs

-- a bind's sensor, its supplier's place and the supplier's actuator
abbrev pub with_place : List Name → Bind → Option (Name × ℕ × Name)
with_place roster b = option_map (λ u. (b.sensor, u, b.actuator)) (place_in roster b.tenant)

-- the i-th bind in this form, counted from 0
abbrev pub bind_at : List Name → List Bind → ℕ → Option (Name × ℕ × Name)
bind_at roster bs i = option_and_then (with_place roster) (slice_get bs i)

-- all rows: the offers, then the binds
abbrev pub rows_of : List Offer → List Bind → List Row
rows_of os bs = map row.Offer os ++ map row.Bind bs
