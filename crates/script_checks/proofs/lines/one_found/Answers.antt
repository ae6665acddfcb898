use Rattle.std.proofs.Common.{◌∷◌, ◌++◌, ◌∙◌, [], List, ap, refl}
use Rattle.giotto_faults.specs.declared.findings.Finding.{Finding}
use Rattle.script_checks.proofs.lines.one_found.Goals as goal

pub returns-clause-told : goal.returns-clause-told
returns-clause-told c =
    let finding = c.in_ok-one_finding.field-0 in
    (c.requires, refl, (finding, c.in_ok-push.ensures.items ∙ ap (λ (fs : List Finding). fs ++ finding ∷ []) c.new-findings.ensures.items, c.in_ok-one_finding.ensures))
