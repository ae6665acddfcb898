use Rattle.std.proofs.Common.{[], ap, subst, sym, ◌∙◌, length}
use Rattle.host_core.specs.inner.Playing.{IsPlayed}
use Rattle.host_core.proofs.Played.{nothing_played}
use Rattle.host_core.proofs.plays.Stage.new.Goals as goal

pub returns : goal.returns
returns c = λ setting is.
    subst (λ names. IsPlayed setting [] c.in_ok-new.field-0 c.in_ok-texts.texts.items names) (sym c.new-2.ensures.empty)
    (nothing_played setting c.args.config.now c.in_ok-new.field-0 c.in_ok-texts.texts.items is (c.in_ok-new.ensures.base setting is.same_config)
    (c.in_ok-texts.ensures.many ∙ ap length c.tenants.ensures.value)
    c.in_ok-texts.ensures.blank)
