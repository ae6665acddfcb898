-- The notes about the lines of a script after one more line, and how the script went.
use Rattle.std.proofs.Common.{◌≡◌, ◌+◌, ◌-◌, ◌^◌, ◌||◌, ℕ, min, Bool, true, false, List, [], ◌∷◌, ◌++◌, length, Option, Some, Result, Ok, refl, sym, ap, subst, ◌∙◌, arith}
use Rattle.std.proofs.lemmas.List.{length-append}
use Rattle.std.proofs.lemmas.List.Folds.{list_any-append}
use Rattle.std.specs.Prelude.{All}
use Rattle.rig_model.specs.config.Roster.{Rig}
use Rattle.rig_model.specs.Answered.{IsText}
use Rattle.rig_model.specs.Base.{Setting}
use Rattle.rig_model.specs.Script.{past_behind, speaker_of}
use Rattle.rig_model.specs.TextLines.{cut}
use Rattle.rig_model.specs.declared.events.Event.{Event}
use Rattle.rig_model.specs.declared.speakers.Speaker.{Speaker}
use Rattle.rig_script.proofs.Quiet.{quiet_on}
use Rattle.rig_script.specs.Courses.{IsCourseOf, IsQuiet, has_tenant_in}
use Rattle.rig_script.specs.declared.courses.Course.{Course}
use Rattle.rig_script.specs.inner.Noting.{IsNoted}
use Rattle.rig_script.specs.Courses.{is_tenants}
use Rattle.rig_script.proofs.Ends.{ended_so}
use Rattle.rig_script.specs.Given.{texts_of}
use Rattle.rig_script.specs.inner.Ended.{end_after}
use Rattle.rig_script.specs.declared.answers.Ending.{Ending}
use Rattle.rig_script.specs.declared.answers.Ending.TheVariants.{Input, BadLine}
use Rattle.rig_script.specs.declared.faults.ScriptFault.{ScriptFault}

or_false : (b : Bool) → (b || false) ≡ b
or_false true = refl
or_false false = refl

counted : (before after : ℕ) (texts : List (List ℕ)) (text : List ℕ) → before ≡ min (length texts) (2 ^ 64 - 1) → after ≡ min (before + 1) (2 ^ 64 - 1) → after ≡ min (length (texts ++ text ∷ [])) (2 ^ 64 - 1)
counted before after texts text is grown = let more = length-append texts (text ∷ []) in omega (arith, is, grown, more)

pub noted_on : (setting : Setting) (texts : List (List ℕ)) (past : List Event) (text : List ℕ) (speaker : Speaker) (before after : ℕ) (had has : Bool) → IsNoted setting before had texts past → speaker ≡ speaker_of setting.config text
    → after ≡ min (before + 1) (2 ^ 64 - 1) → has ≡ (had || is_tenants speaker) → IsNoted setting after has (texts ++ text ∷ []) (past_behind setting past text)
noted_on setting texts past text speaker before after had has h speaks one_more grown = (
  counted before after texts text h.0 one_more,
  grown
      ∙ (ap (λ b. b || is_tenants speaker) h.1
      ∙ (ap (λ s. has_tenant_in setting.config texts || is_tenants s) speaks
      ∙ (ap (λ b. has_tenant_in setting.config texts || b) (sym (or_false (is_tenants (speaker_of setting.config text))))
      ∙ sym (list_any-append (λ t. is_tenants (speaker_of setting.config t)) texts (text ∷ []))))),
  quiet_on setting past text speaker had has h.2 speaks grown,
)

-- how a script went, by its ending and the number of answered lines
pub went_so : (config : Rig) (bytes : List ℕ) (left : Option (List ℕ)) (setting : Setting) → setting.config ≡ config → (ending : Ending) (answered : ℕ) (has : Bool) (ok : Result Ending ScriptFault) → ok ≡ Ok ending
    → (ok ≡ Ok Input → All IsText (cut bytes) × (left ≡ Some [])) → (ok ≡ Ok BadLine → ¬ (All IsText (cut bytes))) → (past : List Event) → IsNoted setting answered has (texts_of (cut bytes)) past
    → (course : Course) → course.bad_line ≡ end_after ending answered → course.has_tenant ≡ has → IsCourseOf config bytes left past course
went_so config bytes left setting of ending answered has ok is input bad past h course line tenant =
    let end = ended_so (Some bytes) left ending answered ok is input bad h.0 in (
      (line ∙ end.0, λ none. end.1 (sym line ∙ none)),
      tenant ∙ (h.1 ∙ ap (λ (c : Rig). has_tenant_in c (texts_of (cut bytes))) of),
      subst (λ b. IsQuiet b past) (sym tenant) h.2,
    )
