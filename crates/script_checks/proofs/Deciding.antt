-- The faults of lines, one kind of line after the other.
use Rattle.std.proofs.Common.{◌≡◌, ◌==◌, ℕ, Bool, true, false, if◌then◌else◌, List, Bor, Option, Some, None, is_some, Result, Ok, Err, length, slice_get, refl, sym}
use Rattle.std.proofs.lemmas.Bool.{ltb-false, ltb-true}
use Rattle.std.proofs.lemmas.Option.{slice_get_past, slice_get_read}
use Rattle.std.specs.Option.{option_copied}
use Rattle.std.specs.Slice.{IsItemAt}
use Rattle.program_checks.specs.reports.Reports.{IsWellFormed}
use Rattle.rig_model.specs.text.Program.{GiottoProgram}
use Rattle.program_checks.proofs.cited.WellFormed.{program_of_text, text_of_program}
use Rattle.rig_model.specs.rules.Rules.{first_broken_rule}
use Rattle.rig_model.specs.text.Parsing.{parsed}
use Rattle.rig_model.specs.config.Roster.{Rig, place_of}
use Rattle.rig_model.specs.declared.config.TenantConfig.{TenantConfig}
use Rattle.rig_model.specs.OperatorLines.{OperatorForm, blank, tick, line_values, work, work_of, settle, archive, halt, bad_command}
use Rattle.rig_model.specs.Script.{speaker_of}
use Rattle.rig_model.specs.TextLines.{text_of_line}
use Rattle.rig_model.specs.declared.speakers.Speaker.TheVariants.{Tenant}
use Rattle.rig_model.specs.lines.CommandLine.{command_of_line}
use Rattle.rig_model.specs.lines.Words.{behind_first_word}
use Rattle.rig_model.specs.declared.config.Budgets.{Budgets}
use Rattle.rig_model.specs.Admission.{broken_budget, program_of}
use Rattle.rig_model.specs.declared.lines.replies.Budget.{Budget}
use Rattle.rig_model.specs.declared.lines.replies.Refusal.{Refusal}
use Rattle.script_checks.specs.declared.lines.LineFault.TheVariants.{BadFrame, UnknownTenant, Program}
use Rattle.script_checks.specs.Scripts.{fault_of_command, fault_of_line, fault_of_operator, fault_of_program}

-- the fault of an operator's line is never that of a program
pub operator_other : (config : Rig) (line : OperatorForm) → fault_of_operator config line ≡ Some Program → ⊥
operator_other config blank e = absurd (cc)
operator_other config line_values e = absurd (cc)
operator_other config work e = absurd (cc)
operator_other config settle e = absurd (cc)
operator_other config archive e = absurd (cc)
operator_other config halt e = absurd (cc)
operator_other config bad_command e = absurd (cc)
operator_other config (tick values) e = by (length values == config.lines) e
  where
    by : (b : Bool) → (if b then None else Some BadFrame) ≡ Some Program → ⊥
    by true is = absurd (cc)
    by false is = absurd (cc)
operator_other config (work_of name) e = by (is_some (place_of config name)) e
  where
    by : (b : Bool) → (if b then None else Some UnknownTenant) ≡ Some Program → ⊥
    by true is = absurd (cc)
    by false is = absurd (cc)

-- a text that isn't well-formed
pub refused_text : (budgets : Budgets) (text : List ℕ) → (IsWellFormed text → ⊥) → Some Program ≡ fault_of_program budgets text
refused_text budgets text refused = by (program_of text) refl
  where
    by : (r : Result GiottoProgram Refusal) → program_of text ≡ r → Some Program ≡ fault_of_program budgets text
    by (Err refusal) is = rw is refl
    by (Ok p) is = absurd (refused (text_of_program text p is))

-- a program that exceeds a budget
pub over_text : (budgets : Budgets) (text : List ℕ) (p : GiottoProgram) (budget : Budget) → parsed text ≡ Ok p → first_broken_rule p ≡ None → broken_budget budgets (length text) p ≡ Some budget → Some Program ≡ fault_of_program budgets text
over_text budgets text p budget is none over = rw (program_of_text text p is none, over) refl

-- a tenant's line
pub told_by_tenant : (config : Rig) (line text : List ℕ) (t : ℕ) (tenant : TenantConfig) → text_of_line line ≡ Some text → speaker_of config text ≡ Tenant t → slice_get config.tenants t ≡ Some tenant
    → fault_of_line config line ≡ fault_of_command tenant.budgets (command_of_line (behind_first_word text))
told_by_tenant config line text t tenant is speaks there = rw (is, speaks, there) refl

-- what a lookup in a slice returns
pub copied_at : {X : Type 0} (xs : List X) (k : ℕ) (found : Option (Bor X)) → IsItemAt xs k found → option_copied found ≡ slice_get xs k
copied_at xs k None h = sym (slice_get_past xs k (ltb-false k (length xs) (sym h.0)))
copied_at xs k (Some x) h = sym (slice_get_read xs (length xs) k x.now refl (ltb-true k (length xs) (sym h.0)) h.1)
