-- Examples of commands about grants, computed from the definitions. They show what commands do to the rows of tenant alpha, of
-- the roster alpha, beta, which commands take memory, and what alpha's sensors are granted.
use Rattle.std.proofs.Common.{◌≡◌, true, false, pos, [], ◌∷◌, Some, None, codes, refl}
use Rattle.rig_model.specs.config.Intervals.{Interval, whole}
use Rattle.rig_model.specs.grants.Grants.{GrantRows}
use Rattle.rig_model.specs.declared.grants.rows.Row.TheVariants as row
use Rattle.rig_model.specs.declared.lines.grant_lines.GrantCommand.TheVariants.{Offer, Unoffer, Bind, Unbind, Rows}
use Rattle.rig_model.specs.declared.lines.replies.Budget.TheVariants as budget
use Rattle.rig_model.specs.declared.lines.replies.Refusal.TheVariants.{NoTenant, Own, Twice, NotThere, OverBudget}
use Rattle.rig_model.specs.declared.lines.replies.Reply.TheVariants as reply
use Rattle.rig_model.specs.lines.Replies.{text_of_reply}
use Rattle.rig_model.specs.GrantCommands.{grants_commanded}
use Rattle.tenant_exchange.specs.Memory.{takes_memory}
use Rattle.rig_model.specs.Granted.{granted_along}

-- from 0 to 5
to_five : Interval
to_five = record { low = pos 0; high = pos 5 }

-- one offer, one bind, and budgets for no more
alpha : GrantRows
alpha = record {
  owner = record { place = 0; roster = codes "alpha" ∷ codes "beta" ∷ []; most_offers = 1; most_binds = 1; bounds = to_five };
  offers = (record { actuator = codes "a"; tenant = codes "beta"; bounds = whole }) ∷ [];
  binds = (record { sensor = codes "s"; tenant = codes "beta"; actuator = codes "x" }) ∷ [];
}

offer_twice : grants_commanded (Offer (codes "a") (codes "beta") None) alpha ≡ record { rows = alpha; reply = reply.Refused Twice }
unfolding alpha
offer_twice = refl

offer_over_budget : grants_commanded (Offer (codes "b") (codes "beta") None) alpha ≡ record { rows = alpha; reply = reply.Refused (OverBudget budget.Offers) }
unfolding alpha
offer_over_budget = refl

-- an offer without bounds takes alpha's, and one with bounds keeps them
offer_within_own_bounds : (grants_commanded (Offer (codes "a") (codes "beta") None) (record alpha { offers = [] })).rows.offers ≡ (record { actuator = codes "a"; tenant = codes "beta"; bounds = to_five }) ∷ []
unfolding alpha
offer_within_own_bounds = refl

offer_within_bounds : (grants_commanded (Offer (codes "a") (codes "beta") (Some (record { low = pos 7; high = pos 9 }))) (record alpha { offers = [] })).rows.offers
    ≡ (record { actuator = codes "a"; tenant = codes "beta"; bounds = record { low = pos 7; high = pos 9 } }) ∷ []
unfolding alpha
offer_within_bounds = refl

-- an offer that exists is refused again, whatever its bounds
other_bounds_twice : grants_commanded (Offer (codes "a") (codes "beta") (Some (record { low = pos 7; high = pos 9 }))) alpha ≡ record { rows = alpha; reply = reply.Refused Twice }
unfolding alpha
other_bounds_twice = refl

bind_over_budget : grants_commanded (Bind (codes "r") (codes "beta") (codes "x")) alpha ≡ record { rows = alpha; reply = reply.Refused (OverBudget budget.Binds) }
unfolding alpha
bind_over_budget = refl

bind_to_nobody : grants_commanded (Bind (codes "r") (codes "gamma") (codes "x")) alpha ≡ record { rows = alpha; reply = reply.Refused NoTenant }
unfolding alpha
bind_to_nobody = refl

bind_to_itself : grants_commanded (Bind (codes "r") (codes "alpha") (codes "x")) alpha ≡ record { rows = alpha; reply = reply.Refused Own }
unfolding alpha
bind_to_itself = refl

unoffer_not_there : grants_commanded (Unoffer (codes "b") (codes "beta")) alpha ≡ record { rows = alpha; reply = reply.Refused NotThere }
unfolding alpha
unoffer_not_there = refl

unoffer_done : grants_commanded (Unoffer (codes "a") (codes "beta")) alpha ≡ record { rows = record alpha { offers = [] }; reply = reply.Unoffered }
unfolding alpha
unoffer_done = refl

unbind_done : grants_commanded (Unbind (codes "s")) alpha ≡ record { rows = record alpha { binds = [] }; reply = reply.Unbound }
unfolding alpha
unbind_done = refl

rows_listed : (grants_commanded Rows alpha).reply ≡ reply.Rows (row.Offer (record { actuator = codes "a"; tenant = codes "beta"; bounds = whole }) ∷ row.Bind (record { sensor = codes "s"; tenant = codes "beta"; actuator = codes "x" }) ∷ [])
unfolding alpha
rows_listed = refl

-- and printed in one line
rows_told : text_of_reply (grants_commanded Rows alpha).reply ≡ codes "ok rows offer:a:beta bind:s:beta:x"
unfolding alpha
rows_told = refl

no_rows_told : text_of_reply (grants_commanded Rows (record alpha { offers = []; binds = [] })).reply ≡ codes "ok rows"
unfolding alpha
no_rows_told = refl

over_budget_told : text_of_reply (grants_commanded (Bind (codes "r") (codes "beta") (codes "x")) alpha).reply ≡ codes "err budget binds"
unfolding alpha
over_budget_told = refl

-- `rows` takes memory if there are rows, and none if there are none
rows_take_memory : takes_memory Rows alpha ≡ true
unfolding alpha
rows_take_memory = refl

no_rows_take_none : takes_memory Rows (record alpha { offers = []; binds = [] }) ≡ false
unfolding alpha
no_rows_take_none = refl

-- a refused offer or bind takes no memory, and one whose row may be made does
refused_offer_takes_none : takes_memory (Offer (codes "a") (codes "beta") None) alpha ≡ false
unfolding alpha
refused_offer_takes_none = refl

offer_over_budget_takes_none : takes_memory (Offer (codes "b") (codes "beta") None) alpha ≡ false
unfolding alpha
offer_over_budget_takes_none = refl

offer_takes_memory : takes_memory (Offer (codes "b") (codes "beta") None) (record alpha { offers = [] }) ≡ true
unfolding alpha
offer_takes_memory = refl

refused_bind_takes_none : takes_memory (Bind (codes "r") (codes "gamma") (codes "x")) alpha ≡ false
unfolding alpha
refused_bind_takes_none = refl

bind_takes_memory : takes_memory (Bind (codes "r") (codes "beta") (codes "x")) (record alpha { binds = [] }) ≡ true
unfolding alpha
bind_takes_memory = refl

-- a bind that nothing is granted through leaves its sensor out
one_missing : granted_along ((record { sensor = codes "r"; tenant = codes "beta"; actuator = codes "y" }) ∷ (record { sensor = codes "s"; tenant = codes "beta"; actuator = codes "x" }) ∷ []) (None ∷ Some (pos 7) ∷ [])
    ≡ (codes "s", pos 7) ∷ []
one_missing = refl

-- a value without a bind, and a bind without a value, grant nothing
more_values : granted_along ((record { sensor = codes "s"; tenant = codes "beta"; actuator = codes "x" }) ∷ []) (Some (pos 7) ∷ Some (pos 8) ∷ []) ≡ (codes "s", pos 7) ∷ []
more_values = refl

more_binds : granted_along ((record { sensor = codes "s"; tenant = codes "beta"; actuator = codes "x" }) ∷ []) [] ≡ []
more_binds = refl
