use Rattle.std.proofs.Common.{ℕ, List, [], ◌++◌, cond, ap, ◌∙◌, rules, subst, string_bytes}
use Rattle.rig_history.proofs.Auditing.{none_played, played_on}
use Rattle.rig_history.specs.Audits.{is_call_of}
use Rattle.rig_history.specs.inner.Auditing.{HasRead, IsFront}
use Rattle.rig_history.proofs.audits.play.Goals as goal

pub loop-rest-init : goal.loop-rest-init
loop-rest-init c = (search rules, none_played c.args.config.now c.args.first_tick c.args.tenant _ _ c.args.text.now c.requires (search rules))

pub loop-rest-preserved : goal.loop-rest-preserved
loop-rest-preserved c =
    let read : HasRead c.args.config.now c.loop-rest.host c.read_front.new.host c.in-Entry.found.entry (string_bytes c.in-Entry.found.text) c.loop-rest.rest.now c.in-Entry.found.later.now =
    subst (IsFront c.args.config.now c.loop-rest.host c.read_front.new.host c.loop-rest.rest.now) c.in-Entry.is c.in_ok-found.ensures in (
      search rules,
      played_on c.args.config.now c.args.first_tick c.args.tenant c.loop-rest.host c.read_front.new.host c.in-Entry.found.entry c.loop-rest.entries c.loop-rest.replies _ (string_bytes c.loop-rest.calls) _ (string_bytes c.in-Entry.found.text)
          c.args.text.now c.loop-rest.rest.now c.in-Entry.found.later.now c.loop-rest.invariant.1 read c.calls_in-replies.ensures
          (c.in_ok-add_call_of-in-Entry.ensures ∙ ap (λ (own : List ℕ). string_bytes c.loop-rest.calls ++ cond (is_call_of c.args.tenant c.in-Entry.found.entry) own []) c.as_str.ensures.value),
    )
