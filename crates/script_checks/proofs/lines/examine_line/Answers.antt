use Rattle.std.proofs.Common.{◌≡◌, ◌∙◌, [], IfOk, Some, None, refl, slice_get, ap, subst, sym, rules}
use Rattle.std.specs.Option.{option_copied}
use Rattle.rig_model.specs.OperatorLines.{operator_line_of}
use Rattle.rig_model.specs.Script.{speaker_of}
use Rattle.rig_model.specs.lines.Words.{words_of}
use Rattle.rig_model.specs.TextLines.{text_of_line}
use Rattle.rig_model.specs.declared.speakers.Speaker.TheVariants.{Tenant}
use Rattle.script_checks.specs.Scripts.{fault_of_operator}
use Rattle.script_checks.specs.inner.Telling.{IsFound}
use Rattle.script_checks.proofs.Deciding.{copied_at, operator_other, told_by_tenant}
use Rattle.script_checks.proofs.Tellings.{tells_one, tells_tenant}
use Rattle.script_checks.proofs.lines.examine_line.Goals as goal

pub returns-in-Some-get-clause-fault : goal.returns-in-Some-get-clause-fault
returns-in-Some-get-clause-fault c =
    let config = c.args.config.now in
    let text = c.in-Some.text.now in
    let is : text_of_line c.args.line.now ≡ Some text = search rules in
    let speaks : speaker_of config text ≡ Tenant c.in-Tenant.tenant = search rules in
    let there : slice_get config.tenants c.in-Tenant.tenant ≡ Some c.in-Some-get.tenant.now =
    ap (λ ts. slice_get ts c.in-Tenant.tenant) (sym c.tenants.ensures.value) ∙ (sym (copied_at c.tenants.result.now c.in-Tenant.tenant c.get.result c.get.ensures.lookup) ∙ ap option_copied c.in-Some-get.is) in
    subst (λ fault. IfOk c.examine_command.result (λ found. IsFound found fault))
    (sym (told_by_tenant config c.args.line.now text c.in-Tenant.tenant c.in-Some-get.tenant.now is speaks there)) c.examine_command.ensures.fault

pub returns-in_default-clause-told : goal.returns-in_default-clause-told
returns-in_default-clause-told c =
    let none : text_of_line c.args.line.now ≡ None = search rules in
    tells_one c.args.config.now c.args.line.now [] c.one_found.result (rw none refl) c.one_found.ensures.told

pub one_found-requires-in-Some-2 : goal.one_found-requires-in-Some-2
one_found-requires-in-Some-2 c = λ is.
    let found : Some c.in-Some-2.fault ≡ fault_of_operator c.args.config.now (operator_line_of (words_of c.behind_first_word.result.now)) = sym c.in-Some-2.is ∙ c.in_ok-fault-in-Operator.ensures in
    operator_other c.args.config.now (operator_line_of (words_of c.behind_first_word.result.now)) (sym found ∙ ap (λ f. Some f) is)

pub returns-in-Unknown-clause-told : goal.returns-in-Unknown-clause-told
returns-in-Unknown-clause-told c =
    let is : text_of_line c.args.line.now ≡ Some c.in-Some.text.now = search rules in
    tells_one c.args.config.now c.args.line.now c.in-Some.text.now c.one_found-in-Unknown.result (rw is refl) c.one_found-in-Unknown.ensures.told

pub returns-in-Some-2-clause-told : goal.returns-in-Some-2-clause-told
returns-in-Some-2-clause-told c =
    let is : text_of_line c.args.line.now ≡ Some c.in-Some.text.now = search rules in
    tells_one c.args.config.now c.args.line.now c.in-Some.text.now c.one_found-in-Some-2.result (rw is refl) c.one_found-in-Some-2.ensures.told

pub returns-in-Some-get-clause-told : goal.returns-in-Some-get-clause-told
returns-in-Some-get-clause-told c =
    let config = c.args.config.now in
    let text = c.in-Some.text.now in
    let is : text_of_line c.args.line.now ≡ Some text = search rules in
    let speaks : speaker_of config text ≡ Tenant c.in-Tenant.tenant = search rules in
    let there : slice_get config.tenants c.in-Tenant.tenant ≡ Some c.in-Some-get.tenant.now =
    ap (λ ts. slice_get ts c.in-Tenant.tenant) (sym c.tenants.ensures.value) ∙ (sym (copied_at c.tenants.result.now c.in-Tenant.tenant c.get.result c.get.ensures.lookup) ∙ ap option_copied c.in-Some-get.is) in
    tells_tenant config c.args.line.now text c.in-Tenant.tenant c.in-Some-get.tenant.now c.examine_command.result (rw is refl) speaks there c.examine_command.ensures.told
