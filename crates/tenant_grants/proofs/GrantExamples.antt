-- Rows of tenant alpha, of the roster alpha, beta, gamma.
use Rattle.std.proofs.Common.{◌≡◌, true, false, [], ◌∷◌, Some, None, Ok, Err, refl, codes}
use Rattle.rig_config.specs.Intervals.{whole}
use Rattle.tenant_grants.specs.Grants.{Owner, offered, unoffered, bound, unbound, offers, bind_at, rows_of}
use Rattle.tenant_grants.specs.declared.rows.Row.TheVariants as row
use Rattle.tenant_grants.specs.declared.faults.GrantFault.TheVariants.{NoTenant, Own, Twice, NotThere, Budget}

-- alpha may have two offers and two binds
alpha : Owner
alpha = record { place = 0; roster = codes "alpha" ∷ codes "beta" ∷ codes "gamma" ∷ []; most_offers = 2; most_binds = 2; bounds = whole }

-- the first offer
first_offer : offered alpha [] (codes "a") (codes "beta") whole ≡ Ok ((record { actuator = codes "a"; tenant = codes "beta"; bounds = whole }) ∷ [])
unfolding alpha
first_offer = refl

-- one actuator to another tenant is another offer, after the first
second_offer : offered alpha ((record { actuator = codes "a"; tenant = codes "beta"; bounds = whole }) ∷ []) (codes "a") (codes "gamma") whole ≡ Ok ((record { actuator = codes "a"; tenant = codes "beta"; bounds = whole }) ∷ (record { actuator = codes "a"; tenant = codes "gamma"; bounds = whole }) ∷ [])
unfolding alpha
second_offer = refl

-- one actuator to one tenant is offered once
offered_twice : offered alpha ((record { actuator = codes "a"; tenant = codes "beta"; bounds = whole }) ∷ []) (codes "a") (codes "beta") whole ≡ Err Twice
unfolding alpha
offered_twice = refl

-- that is reported even if the offers are full
twice_before_budget : offered alpha ((record { actuator = codes "a"; tenant = codes "beta"; bounds = whole }) ∷ (record { actuator = codes "a"; tenant = codes "gamma"; bounds = whole }) ∷ []) (codes "a") (codes "beta") whole ≡ Err Twice
unfolding alpha
twice_before_budget = refl

-- a third offer is over the budget
third_offer : offered alpha ((record { actuator = codes "a"; tenant = codes "beta"; bounds = whole }) ∷ (record { actuator = codes "a"; tenant = codes "gamma"; bounds = whole }) ∷ []) (codes "b") (codes "beta") whole ≡ Err Budget
unfolding alpha
third_offer = refl

-- no offer to a tenant that isn't in the roster
offer_to_nobody : offered alpha ((record { actuator = codes "a"; tenant = codes "beta"; bounds = whole }) ∷ (record { actuator = codes "a"; tenant = codes "gamma"; bounds = whole }) ∷ []) (codes "a") (codes "Gamma") whole ≡ Err NoTenant
unfolding alpha
offer_to_nobody = refl

-- nor to itself, whatever rows there are
offer_to_itself : offered alpha ((record { actuator = codes "a"; tenant = codes "beta"; bounds = whole }) ∷ (record { actuator = codes "a"; tenant = codes "gamma"; bounds = whole }) ∷ []) (codes "a") (codes "alpha") whole ≡ Err Own
unfolding alpha
offer_to_itself = refl

-- an offer is removed
taken_out : unoffered alpha ((record { actuator = codes "a"; tenant = codes "beta"; bounds = whole }) ∷ (record { actuator = codes "a"; tenant = codes "gamma"; bounds = whole }) ∷ []) (codes "a") (codes "beta") ≡ Ok ((record { actuator = codes "a"; tenant = codes "gamma"; bounds = whole }) ∷ [])
unfolding alpha
taken_out = refl

-- and is the last when it is made again
made_again : offered alpha ((record { actuator = codes "a"; tenant = codes "gamma"; bounds = whole }) ∷ []) (codes "a") (codes "beta") whole ≡ Ok ((record { actuator = codes "a"; tenant = codes "gamma"; bounds = whole }) ∷ (record { actuator = codes "a"; tenant = codes "beta"; bounds = whole }) ∷ [])
unfolding alpha
made_again = refl

-- an offer that doesn't exist isn't removed
not_there : unoffered alpha ((record { actuator = codes "a"; tenant = codes "beta"; bounds = whole }) ∷ []) (codes "a") (codes "gamma") ≡ Err NotThere
unfolding alpha
not_there = refl

-- nor an offer to itself
unoffer_itself : unoffered alpha ((record { actuator = codes "a"; tenant = codes "beta"; bounds = whole }) ∷ []) (codes "a") (codes "alpha") ≡ Err Own
unfolding alpha
unoffer_itself = refl

-- a bind after another
second_bind : bound alpha ((record { sensor = codes "s"; tenant = codes "beta"; actuator = codes "x" }) ∷ []) (codes "r") (codes "gamma") (codes "y") ≡ Ok ((record { sensor = codes "s"; tenant = codes "beta"; actuator = codes "x" }) ∷ (record { sensor = codes "r"; tenant = codes "gamma"; actuator = codes "y" }) ∷ [])
unfolding alpha
second_bind = refl

-- a bound sensor is bound, whatever it is bound to
bound_twice : bound alpha ((record { sensor = codes "s"; tenant = codes "beta"; actuator = codes "x" }) ∷ (record { sensor = codes "r"; tenant = codes "gamma"; actuator = codes "y" }) ∷ []) (codes "s") (codes "gamma") (codes "y") ≡ Err Twice
unfolding alpha
bound_twice = refl

-- a third bind is over the budget
third_bind : bound alpha ((record { sensor = codes "s"; tenant = codes "beta"; actuator = codes "x" }) ∷ (record { sensor = codes "r"; tenant = codes "gamma"; actuator = codes "y" }) ∷ []) (codes "q") (codes "beta") (codes "x") ≡ Err Budget
unfolding alpha
third_bind = refl

-- a removed bind leaves the other
unbound_second : unbound ((record { sensor = codes "s"; tenant = codes "beta"; actuator = codes "x" }) ∷ (record { sensor = codes "r"; tenant = codes "gamma"; actuator = codes "y" }) ∷ []) (codes "r") ≡ Ok ((record { sensor = codes "s"; tenant = codes "beta"; actuator = codes "x" }) ∷ [])
unbound_second = refl

-- a sensor that isn't bound has no bind to remove
unbound_none : unbound ((record { sensor = codes "s"; tenant = codes "beta"; actuator = codes "x" }) ∷ []) (codes "r") ≡ Err NotThere
unbound_none = refl

-- an actuator is offered to the tenant of its offer
offered_to_beta : offers ((record { actuator = codes "a"; tenant = codes "beta"; bounds = whole }) ∷ []) (codes "a") (codes "beta") ≡ true
offered_to_beta = refl

-- and to no other
not_offered_to_gamma : offers ((record { actuator = codes "a"; tenant = codes "beta"; bounds = whole }) ∷ []) (codes "a") (codes "gamma") ≡ false
not_offered_to_gamma = refl

-- the second bind with the place of gamma
second_with_place : bind_at (codes "alpha" ∷ codes "beta" ∷ codes "gamma" ∷ []) ((record { sensor = codes "s"; tenant = codes "beta"; actuator = codes "x" }) ∷ (record { sensor = codes "r"; tenant = codes "gamma"; actuator = codes "y" }) ∷ []) 1 ≡ Some (codes "r", 2, codes "y")
second_with_place = refl

-- there is no third
no_third : bind_at (codes "alpha" ∷ codes "beta" ∷ codes "gamma" ∷ []) ((record { sensor = codes "s"; tenant = codes "beta"; actuator = codes "x" }) ∷ (record { sensor = codes "r"; tenant = codes "gamma"; actuator = codes "y" }) ∷ []) 2 ≡ None
no_third = refl

-- all rows: offers, then binds
all_rows : rows_of ((record { actuator = codes "a"; tenant = codes "beta"; bounds = whole }) ∷ []) ((record { sensor = codes "s"; tenant = codes "beta"; actuator = codes "x" }) ∷ []) ≡ row.Offer (record { actuator = codes "a"; tenant = codes "beta"; bounds = whole }) ∷ row.Bind (record { sensor = codes "s"; tenant = codes "beta"; actuator = codes "x" }) ∷ []
all_rows = refl
