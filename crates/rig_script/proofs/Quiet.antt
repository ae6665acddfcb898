-- If no line of a script is a tenant's, its events have no command of a tenant: one line further.
use Rattle.std.proofs.Common.{◌≡◌, ◌||◌, ℕ, Bool, true, false, List, refl, sym, ap, ◌∙◌}
use Rattle.std.specs.List.{list_any}
use Rattle.std.proofs.lemmas.List.Folds.{list_any-append}
use Rattle.rig_model.specs.Base.{Setting}
use Rattle.rig_model.specs.Script.{line_step, speaker_of, past_behind}
use Rattle.rig_model.specs.declared.events.Event.{Event}
use Rattle.rig_model.specs.declared.speakers.Speaker.{Speaker}
use Rattle.rig_script.proofs.cited.LineEvents.{no_command}
use Rattle.rig_script.specs.Courses.{IsQuiet, is_command, is_tenants}

either : (a b : Bool) → (a || b) ≡ false → (a ≡ false) × (b ≡ false)
either false b e = (refl, e)
either true b e = absurd (cc)

pub quiet_on : (setting : Setting) (past : List Event) (line : List ℕ) (speaker : Speaker) (before after : Bool) → IsQuiet before past → speaker ≡ speaker_of setting.config line → after ≡ (before || is_tenants speaker)
    → IsQuiet after (past_behind setting past line)
quiet_on setting past line speaker before after quiet is grown none =
    let both = either before (is_tenants speaker) (sym grown ∙ none) in
    list_any-append is_command (line_step setting past line).events past
    ∙ (ap (λ (b : Bool). b || list_any is_command past) (no_command setting past line (ap is_tenants (sym is) ∙ both.1)) ∙ quiet both.0)
