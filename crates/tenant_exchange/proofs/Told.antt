-- The reply to a change of the rows is that of the definitions.
use Rattle.std.proofs.Common.{◌≡◌, ◌≢◌, ℕ, Bool, true, false, if◌then◌else◌, nat_eq, nat_lt, List, [], ◌∷◌, ◌++◌, length, Option, Some, None, ok_or, Result, Ok, Err, IfOk, IfErr, IsOk, is_ok, refl, sym, ap, ◌∙◌}
use Rattle.giotto_tasks.specs.declared.names.Name.{Name}
use Rattle.rig_model.specs.config.Intervals.{Interval}
use Rattle.rig_model.specs.grants.Grants.{Owner, ◌>>=◌, place_in, other_side, one_more, offered, bound}
use Rattle.rig_model.specs.declared.grants.faults.GrantFault.{GrantFault}
use Rattle.rig_model.specs.declared.grants.faults.GrantFault.TheVariants as fault
use Rattle.rig_model.specs.declared.grants.rows.Bind.{Bind}
use Rattle.rig_model.specs.declared.grants.rows.Offer.{Offer}
use Rattle.rig_model.specs.declared.lines.replies.Budget.{Budget}
use Rattle.rig_model.specs.declared.lines.replies.Refusal.TheVariants.{Memory}
use Rattle.rig_model.specs.declared.lines.replies.Reply.{Reply}
use Rattle.rig_model.specs.declared.lines.replies.Reply.TheVariants.{Refused}
use Rattle.rig_model.specs.GrantCommands.{GrantOutcome, refusal_of_row}

-- If an outcome's reply is `said` for a change that is done, and the reason for one that isn't, the answer to the change is that
-- reply.
module _ {A : Type 0} (b : Budget) (said : Reply) (step : Result A GrantFault → GrantOutcome)
    (ok : (x : A) → (step (Ok x)).reply ≡ said) (err : (f : GrantFault) → (step (Err f)).reply ≡ Refused (refusal_of_row b f)) where
  -- for a change that takes memory
  pub more_told : (to : Result A GrantFault) (done : Result (Unit {0}) GrantFault) (r : Reply)
      → IfErr to (λ f. done ≡ Err f) → IfOk to (λ x. IfErr done (λ f. f ≡ fault.Memory))
      → IfOk done (λ u. r ≡ said) → IfErr done (λ f. r ≡ Refused (refusal_of_row b f)) → r ≢ Refused Memory → r ≡ (step to).reply
  more_told (Ok x) (Ok u) r refused memory is why other = is ∙ sym (ok x)
  more_told (Ok x) (Err f) r refused memory is why other = absurd (other (why ∙ ap (λ f. Refused (refusal_of_row b f)) memory))
  more_told (Err g) (Ok u) r refused memory is why other = cc
  more_told (Err g) (Err f) r refused memory is why other =
      let one : f ≡ g = cc in
      why ∙ ap (λ f. Refused (refusal_of_row b f)) one ∙ sym (err g)

  -- for a change that takes no memory
  pub less_told : (to : Result A GrantFault) (done : Result (Unit {0}) GrantFault) (P : A → Type 0) (r : Reply)
      → IfErr to (λ f. done ≡ Err f) → IfOk to (λ x. IsOk done × P x) → IfOk done (λ u. r ≡ said) → IfErr done (λ f. r ≡ Refused (refusal_of_row b f)) → r ≡ (step to).reply
  less_told (Ok x) (Ok u) P r refused changed is why = is ∙ sym (ok x)
  less_told (Ok x) (Err f) P r refused changed is why = let bad = changed.0 in cc
  less_told (Err g) (Ok u) P r refused changed is why = cc
  less_told (Err g) (Err f) P r refused changed is why =
      let one : f ≡ g = cc in
      why ∙ ap (λ f. Refused (refusal_of_row b f)) one ∙ sym (err g)

-- the definitions refuse no row for lack of memory
abbrev NotForMemory : {A : Type 0} → Result A GrantFault → Type 0
NotForMemory r = IfErr r (λ f. f ≢ fault.Memory)

joined : {A B : Type 0} (r : Result A GrantFault) (f : A → Result B GrantFault) → NotForMemory r → ((x : A) → NotForMemory (f x)) → NotForMemory (r >>= f)
joined (Ok x) f first next = next x
joined (Err g) f first next = first

side_faults : (owner : Owner) (tenant : Name) → NotForMemory (other_side owner tenant)
side_faults owner tenant = joined (ok_or (place_in owner.roster tenant) fault.NoTenant) _ (placed (place_in owner.roster tenant)) (λ u. another u (nat_eq u owner.place))
  where
    placed : (o : Option ℕ) → NotForMemory (ok_or o fault.NoTenant)
    placed None = λ e. cc
    placed (Some u) = tt

    another : (u : ℕ) (b : Bool) → NotForMemory {A = ℕ} (if b then Err fault.Own else Ok u)
    another u true = λ e. cc
    another u false = tt

more_faults : {A : Type 0} (stands : Bool) (most : ℕ) (rows : List A) (new : A) → NotForMemory (one_more stands most rows new)
more_faults true most rows new = λ e. cc
more_faults {A} false most rows new = by (nat_lt (length rows) most)
  where
    by : (b : Bool) → NotForMemory {A = List A} (if b then Ok (rows ++ new ∷ []) else Err fault.Budget)
    by true = tt
    by false = λ e. cc

pub offer_faults : (owner : Owner) (os : List Offer) (actuator tenant : Name) (bounds : Interval) → NotForMemory (offered owner os actuator tenant bounds)
offer_faults owner os actuator tenant bounds = joined (other_side owner tenant) _ (side_faults owner tenant) (λ u. more_faults _ _ os _)

pub bind_faults : (owner : Owner) (bs : List Bind) (sensor tenant actuator : Name) → NotForMemory (bound owner bs sensor tenant actuator)
bind_faults owner bs sensor tenant actuator = joined (other_side owner tenant) _ (side_faults owner tenant) (λ u. more_faults _ _ bs _)

told_apart : (b : Budget) (f : GrantFault) → f ≢ fault.Memory → refusal_of_row b f ≢ Memory
told_apart b fault.NoTenant other = λ e. cc
told_apart b fault.Own other = λ e. cc
told_apart b fault.Twice other = λ e. cc
told_apart b fault.NotThere other = λ e. cc
told_apart b fault.Budget other = λ e. cc
told_apart b fault.Memory other = λ e. other refl

-- so if the definitions refuse a row, the reply isn't a refusal for lack of memory
pub refused_told : {A : Type 0} (b : Budget) (to : Result A GrantFault) (done : Result (Unit {0}) GrantFault) (r : Reply)
    → NotForMemory to → IfErr to (λ f. done ≡ Err f) → IfErr done (λ f. r ≡ Refused (refusal_of_row b f)) → is_ok to ≡ false → r ≢ Refused Memory
refused_told b (Ok x) done r faults refused why none = cc
refused_told b (Err g) (Ok u) r faults refused why none = cc
refused_told b (Err g) (Err f) r faults refused why none = λ memory.
    let one : f ≡ g = cc in
    let same : Refused (refusal_of_row b f) ≡ Refused Memory = sym why ∙ memory in
    let same : refusal_of_row b f ≡ Memory = cc in
    told_apart b g faults (ap (refusal_of_row b) (sym one) ∙ same)
