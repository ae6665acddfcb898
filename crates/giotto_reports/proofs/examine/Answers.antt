use Rattle.std.proofs.Common.{◌∷◌, ◌++◌, [], List, ap, ◌∙◌}
use Rattle.giotto_faults.specs.declared.findings.Finding.{Finding}
use Rattle.giotto_reports.proofs.Refusing.{told_why}
use Rattle.giotto_reports.proofs.examine.Goals as goal

pub returns-in_ok-push-in-Err : goal.returns-in_ok-push-in-Err
returns-in_ok-push-in-Err c =
    let finding = c.in_ok-finding-in-Err.finding in
    told_why c.args.text.now c.in-Err.fault finding c.push.new.self.items c.in-Err.ensures.fault (λ e. let no = c.in_ok-finding-in-Err.ensures.memory e in absurd (cc)) c.in_ok-finding-in-Err.ensures.error
    (c.in_ok-push-in-Err.ensures.items ∙ ap (λ (fs : List Finding). fs ++ finding ∷ []) c.new-findings.ensures.items)
