-- What was found in a line reports its fault.
use Rattle.std.proofs.Common.{◌≡◌, ℕ, List, Option, Some, None, Result, Ok, Err, IfOk, IfSome, slice_get, refl, sym, subst}
use Rattle.rig_model.specs.config.Roster.{Rig}
use Rattle.rig_model.specs.declared.config.TenantConfig.{TenantConfig}
use Rattle.rig_model.specs.Script.{speaker_of}
use Rattle.rig_model.specs.declared.speakers.Speaker.TheVariants.{Tenant}
use Rattle.rig_model.specs.lines.CommandLine.{command_of_line}
use Rattle.rig_model.specs.lines.Words.{behind_first_word}
use Rattle.script_checks.specs.LineTexts.{text_or_none}
use Rattle.script_checks.specs.inner.Telling.{TellCommand}
use Rattle.script_checks.specs.Told.{IsOneFinding, TellBrought, TellLine, TellProgram, of_fault, program_in}
use Rattle.script_checks.specs.declared.lines.Found.{Found}
use Rattle.script_checks.specs.declared.lines.LineFault.{LineFault}
use Rattle.script_checks.specs.declared.lines.LineFault.TheVariants.{TooLong, NotText, UnknownSpeaker, BadCommand, BadFrame, UnknownTenant, Program}

of_other : (f : LineFault) (P Q : Type 0) → (f ≡ Program → ⊥) → Q → of_fault f P Q
of_other Program P Q other q = absurd (other refl)
of_other TooLong P Q other q = q
of_other NotText P Q other q = q
of_other UnknownSpeaker P Q other q = q
of_other BadCommand P Q other q = q
of_other BadFrame P Q other q = q
of_other UnknownTenant P Q other q = q

of_program : (f : LineFault) (P Q : Type 0) → f ≡ Program → P → of_fault f P Q
of_program f P Q is p = subst (λ (g : LineFault). of_fault g P Q) (sym is) p

of_either : (f : LineFault) (P R Q : Type 0) → (P → R) → of_fault f P Q → of_fault f R Q
of_either Program P R Q step is = step is
of_either TooLong P R Q step is = is
of_either NotText P R Q step is = is
of_either UnknownSpeaker P R Q step is = is
of_either BadCommand P R Q step is = is
of_either BadFrame P R Q step is = is
of_either UnknownTenant P R Q step is = is

module _ {E : Type 0} (config : Rig) where
  pub tells_one : (line text : List ℕ) (r : Result (Option Found) E) → text_or_none line ≡ text → IfOk r (λ o. IfSome o (IsOneFinding config text)) → IfOk r (λ o. IfSome o (TellLine config line))
  tells_one line text (Err e) is told = tt
  tells_one line text (Ok None) is told = tt
  tells_one line text (Ok (Some found)) is told = of_other found.fault _ _ told.0 (subst (λ (t : List ℕ). IsOneFinding config t found) (sym is) told)

  pub tells_program : (tenant : TenantConfig) (text program : List ℕ) (r : Result (Option Found) E) → program_in (command_of_line (behind_first_word text)) ≡ Some program
      → IfOk r (λ o. IfSome o (TellProgram tenant text program)) → IfOk r (λ o. IfSome o (TellCommand config tenant text))
  tells_program tenant text program (Err e) is told = tt
  tells_program tenant text program (Ok None) is told = tt
  tells_program tenant text program (Ok (Some found)) is told = of_program found.fault _ _ told.0 (program, is, told)

  pub tells_tenant : (line text : List ℕ) (t : ℕ) (tenant : TenantConfig) (r : Result (Option Found) E) → text_or_none line ≡ text → speaker_of config text ≡ Tenant t → slice_get config.tenants t ≡ Some tenant
      → IfOk r (λ o. IfSome o (TellCommand config tenant text)) → IfOk r (λ o. IfSome o (TellLine config line))
  tells_tenant line text t tenant (Err e) is speaks there told = tt
  tells_tenant line text t tenant (Ok None) is speaks there told = tt
  tells_tenant line text t tenant (Ok (Some found)) is speaks there told =
      rw is (of_either found.fault (TellBrought tenant text found) _ (IsOneFinding config text found) (λ (b : TellBrought tenant text found). (t, tenant, speaks, there, b)) told)
