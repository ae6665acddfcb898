use Rattle.std.proofs.Common.{◌≡◌, ◌∙◌, ◌++◌, ◌∷◌, ap, refl, subst, sym, Bool, Ok, Err, Result, List, ℕ}
use Rattle.std.specs.declared.alloc.AllocError.{AllocError}
use Rattle.rig_model.specs.Script.{Step}
use Rattle.rig_model.specs.declared.events.Event.{Event}
use Rattle.rig_model.specs.declared.speakers.Speaker.{Speaker}
use Rattle.rig_script.specs.cited.Refusals.{answer_in}
use Rattle.rig_script.specs.declared.faults.Unanswered.{Unanswered}
use Rattle.rig_script.specs.inner.Script.{IsAnswered, IsCarriedOut, HasSpeaker}
use Rattle.rig_script.proofs.Speaking.{first_word, tenant_within}
use Rattle.rig_script.proofs.host_answers.carry_out.Goals as goal

-- the step was answered, or the error has the speaker
carried : (step : Step) (past : List Event) (speaker : Speaker) (Before After : List Event → Type 0) (a : Result Bool AllocError) (r : Result Bool Unanswered)
    (Said : List ℕ → Type 0) (Stands : List Event → Type 0) → HasSpeaker speaker a r → IsCarriedOut step past Before After a Said Stands → IsAnswered step past speaker Before After r Said Stands
carried step past speaker Before After (Ok refused) r Said Stands is h = rw is h
carried step past speaker Before After (Err e) r Said Stands is h =
    let same : speaker ≡ speaker = refl in
    subst (λ x. IsAnswered step past speaker Before After x Said Stands) (sym is) same

pub tenant_line-requires-clause-named : goal.tenant_line-requires-clause-named
tenant_line-requires-clause-named g c = λ answer. ap (λ word. answer_in (word ++ 32 ∷ answer)) c.cut.ensures.word ∙ first_word c.args.line.now answer

pub tenant_line-requires-clause-within : goal.tenant_line-requires-clause-within
tenant_line-requires-clause-within g c = tenant_within c.args.host.now.config c.args.line.now c.in-Tenant.tenant (rw c.config.ensures at (sym (c.who_is-speaker.ensures c.args.line.now c.cut.ensures.word) ∙ c.in-Tenant.is))
