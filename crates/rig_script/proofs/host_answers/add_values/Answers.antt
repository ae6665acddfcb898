use Rattle.std.proofs.Common.{rules, ◌≡◌, ◌++◌, ◌+◌, ℕ, ℤ, List, FitsSigned, w64, codes, string_bytes, ap, sym, ◌∙◌}
use Rattle.std.proofs.lemmas.Int.{to_z-of_z}
use Rattle.std.proofs.lemmas.List.{append_assoc}
use Rattle.std.specs.Fmt.{signed_decimal}
use Rattle.host_core.specs.HostStanding.{line_of}
use Rattle.rig_model.specs.Script.{text_of_lines}
use Rattle.rig_script.proofs.cited.LineValues.{values_more}
use Rattle.rig_script.proofs.host_answers.add_values.Goals as goal

-- one more value after what was written
more : (before : List ℕ) (f : ℕ → ℤ) (k : ℕ) → (before ++ text_of_lines f k) ++ (codes " " ++ signed_decimal (f k)) ≡ before ++ text_of_lines f (k + 1)
more before f k = append_assoc before (text_of_lines f k) (codes " " ++ signed_decimal (f k)) ∙ ap (λ l. before ++ l) (sym (values_more f k))

pub loop-line-preserved : goal.loop-line-preserved
loop-line-preserved c =
    let f = line_of c.args.host.now in
    let fits : FitsSigned w64 c.line_value-value.result = search rules in
    c.in_ok-write.ensures.bytes ∙ ap (λ z. string_bytes c.loop-line.text ++ (codes " " ++ signed_decimal z)) (to_z-of_z w64 c.line_value-value.result fits ∙ c.line_value-value.ensures.value)
    ∙ ap (λ t. t ++ (codes " " ++ signed_decimal (f c.loop-line.line))) c.loop-line.invariant ∙ more (string_bytes c.args.text.now) f c.loop-line.line
