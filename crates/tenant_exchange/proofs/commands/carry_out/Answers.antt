use Rattle.std.proofs.Common.{◌≡◌, false, is_ok, List, refl, unwrap_or}
use Rattle.rig_model.specs.grants.Grants.{offered, unoffered, bound}
use Rattle.rig_model.specs.declared.grants.rows.Offer.{Offer}
use Rattle.rig_model.specs.declared.lines.replies.Budget.TheVariants.{Offers, Binds}
use Rattle.rig_model.specs.declared.lines.replies.Reply.TheVariants.{Offered, Unoffered, Bound}
use Rattle.rig_model.specs.GrantCommands.{with_offers, with_binds}
use Rattle.tenant_exchange.proofs.Told.{more_told, less_told, refused_told, offer_faults, bind_faults}
use Rattle.tenant_exchange.proofs.commands.carry_out.Goals as goal

pub returns-in-Offer-clause-reply : goal.returns-in-Offer-clause-reply
returns-in-Offer-clause-reply c = λ other.
    let rows = c.args.grants.now in
    rw c.in-Offer.is (more_told Offers Offered (with_offers rows Offered) (λ x. refl) (λ f. refl) (offered rows.owner rows.offers c.in-Offer.actuator c.in-Offer.tenant (unwrap_or c.in-Offer.bounds rows.owner.bounds)) c.offer.result c.answer.result
    c.offer.ensures.refused c.offer.ensures.memory c.answer.ensures.done c.answer.ensures.refused other)

pub returns-in-Unoffer-clause-reply : goal.returns-in-Unoffer-clause-reply
returns-in-Unoffer-clause-reply c = λ other.
    let rows = c.args.grants.now in
    rw c.in-Unoffer.is (less_told Offers Unoffered (with_offers rows Unoffered) (λ x. refl) (λ f. refl) (unoffered rows.owner rows.offers c.in-Unoffer.actuator c.in-Unoffer.tenant) c.unoffer.result
    (λ (os : List Offer). c.unoffer.new.self ≡ record rows { offers = os }) c.answer-in-Unoffer.result
    c.unoffer.ensures.refused c.unoffer.ensures.unoffered c.answer-in-Unoffer.ensures.done c.answer-in-Unoffer.ensures.refused)

pub returns-in-Bind-clause-reply : goal.returns-in-Bind-clause-reply
returns-in-Bind-clause-reply c = λ other.
    let rows = c.args.grants.now in
    rw c.in-Bind.is (more_told Binds Bound (with_binds rows Bound) (λ x. refl) (λ f. refl) (bound rows.owner rows.binds c.in-Bind.sensor c.in-Bind.tenant c.in-Bind.actuator) c.bind.result c.answer-in-Bind.result
    c.bind.ensures.refused c.bind.ensures.memory c.answer-in-Bind.ensures.done c.answer-in-Bind.ensures.refused other)

pub returns-in-Offer-clause-room : goal.returns-in-Offer-clause-room
returns-in-Offer-clause-room c = λ none.
    let rows = c.args.grants.now in
    let refused : is_ok (offered rows.owner rows.offers c.in-Offer.actuator c.in-Offer.tenant (unwrap_or c.in-Offer.bounds rows.owner.bounds)) ≡ false = rw c.in-Offer.is at none in
    refused_told Offers (offered rows.owner rows.offers c.in-Offer.actuator c.in-Offer.tenant (unwrap_or c.in-Offer.bounds rows.owner.bounds)) c.offer.result c.answer.result
    (offer_faults rows.owner rows.offers c.in-Offer.actuator c.in-Offer.tenant (unwrap_or c.in-Offer.bounds rows.owner.bounds)) c.offer.ensures.refused c.answer.ensures.refused refused

pub returns-in-Bind-clause-room : goal.returns-in-Bind-clause-room
returns-in-Bind-clause-room c = λ none.
    let rows = c.args.grants.now in
    let refused : is_ok (bound rows.owner rows.binds c.in-Bind.sensor c.in-Bind.tenant c.in-Bind.actuator) ≡ false = rw c.in-Bind.is at none in
    refused_told Binds (bound rows.owner rows.binds c.in-Bind.sensor c.in-Bind.tenant c.in-Bind.actuator) c.bind.result c.answer-in-Bind.result
    (bind_faults rows.owner rows.binds c.in-Bind.sensor c.in-Bind.tenant c.in-Bind.actuator) c.bind.ensures.refused c.answer-in-Bind.ensures.refused refused
