use Rattle.std.proofs.Common.{◌≡◌, ◌∙◌, Some, ap, refl}
use Rattle.rig_model.specs.OperatorLines.{form_of}
use Rattle.rig_model.specs.declared.operator_lines.OperatorLine.{OperatorLine}
use Rattle.rig_model.specs.declared.operator_lines.OperatorLine.TheVariants as code
use Rattle.rig_model.specs.config.Roster.{Rig}
use Rattle.script_checks.specs.Scripts.{fault_of_operator}
use Rattle.script_checks.specs.declared.lines.LineFault.TheVariants.{BadCommand}
use Rattle.script_checks.proofs.operators.fault_of_operator.Goals as goal

-- a line of none of a script's forms
refused : (config : Rig) (line : OperatorLine) → ((values : _) → line ≡ code.Tick values → ⊥) → (line ≡ code.Lines → ⊥) → (line ≡ code.Work → ⊥) → ((name : _) → line ≡ code.WorkOf name → ⊥)
    → Some BadCommand ≡ fault_of_operator config (form_of line)
refused config code.Blank no_tick no_lines no_work no_work_of = refl
refused config (code.Tick values) no_tick no_lines no_work no_work_of = absurd (no_tick values refl)
refused config code.Lines no_tick no_lines no_work no_work_of = absurd (no_lines refl)
refused config code.Work no_tick no_lines no_work no_work_of = absurd (no_work refl)
refused config (code.WorkOf name) no_tick no_lines no_work no_work_of = absurd (no_work_of name refl)
refused config code.Wait no_tick no_lines no_work no_work_of = refl
refused config code.Archive no_tick no_lines no_work no_work_of = refl
refused config code.Halt no_tick no_lines no_work no_work_of = refl
refused config code.BadCommand no_tick no_lines no_work no_work_of = refl

pub returns-in_default : goal.returns-in_default
returns-in_default c =
    let line = c.operator_line.result in
    let no = c.in_default in
    refused c.args.config.now line no.not-Tick no.not-Lines no.not-Work no.not-WorkOf ∙ ap (fault_of_operator c.args.config.now) c.operator_line.ensures
