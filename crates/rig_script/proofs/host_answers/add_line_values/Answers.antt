use Rattle.std.proofs.Common.{◌≡◌, ◌++◌, ℕ, List, Result, Ok, Err, OnOk, is_ok, if◌then◌else◌, codes, string_bytes, ap, ◌∙◌, arith}
use Rattle.std.proofs.lemmas.List.{append_assoc}
use Rattle.host_core.specs.HostStanding.{line_of}
use Rattle.rig_model.specs.Script.{text_of_lines}
use Rattle.text_lines.proofs.cited.AnsweredLines.{on_ok_then}
use Rattle.rig_script.proofs.host_answers.add_line_values.Goals as goal

pushed : {T E : Type 0} (r : Result T E) (before after more : List ℕ) → after ≡ (if is_ok r then before ++ more else before) → OnOk r (after ≡ before ++ more)
pushed (Ok x) before after more is = is
pushed (Err e) before after more is = tt

pub returns : goal.returns
returns c =
    let before = string_bytes c.args.text.now in
    let values = text_of_lines (line_of c.args.host.now) c.args.host.now.config.lines in
    let bytes = rw (c.push.ensures.ascii (omega arith)) at c.push.ensures.bytes in
    on_ok_then c.push.result _ _ (pushed c.push.result (string_bytes c.add_values.new.text) (string_bytes c.push.new.self) (codes "\n") bytes)
    (λ grown.
    grown ∙ ap (λ t. t ++ codes "\n") (c.in_ok-add_values.ensures ∙ ap (λ t. t ++ values) c.in_ok-push_str.ensures.bytes)
    ∙ append_assoc (before ++ codes "op ok lines") values (codes "\n") ∙ append_assoc before (codes "op ok lines") (values ++ codes "\n"))
