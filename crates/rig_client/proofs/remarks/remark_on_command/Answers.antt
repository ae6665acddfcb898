use Rattle.std.proofs.Common.{◌≡◌, None}
use Rattle.rig_client.specs.Remarks.{forms_for}
use Rattle.rig_client.proofs.NotFound.{none_of}
use Rattle.rig_client.proofs.remarks.remark_on_command.Goals as goal

pub returns : goal.returns
returns c =
    let word = c.first_word-word.ensures in
    let without_forms : forms_for c.first_word-word.result.now ≡ None = none_of c.forms_for.result (λ forms. forms.now) c.forms_for.ensures c.in_default.not-Some in
    rw (← word, without_forms, ← c.in_ok-meant.ensures, ← c.in_ok-help.ensures) c.format-2.ensures.ok
