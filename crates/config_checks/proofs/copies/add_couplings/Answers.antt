use Rattle.std.proofs.Common.{◌++◌, ◌∙◌, List, ℕ, ap, string_bytes}
use Rattle.config_checks.proofs.Noting.{text_further}
use Rattle.config_checks.specs.Copies.{table_of}
use Rattle.config_checks.proofs.copies.add_couplings.Goals as goal

pub loop-coupling-preserved : goal.loop-coupling-preserved
loop-coupling-preserved c =
    let l = c.loop-coupling in
    text_further table_of c.args.couplings.now l.coupling-index c.coupling-item.result (string_bytes c.args.text.now) (string_bytes l.text) (string_bytes c.push_str.new.self) l.invariant c.loop-coupling-test.true
    c.coupling-item.is (c.in_ok-push_str.ensures.bytes ∙ ap (λ (t : List ℕ). string_bytes l.text ++ t) (c.as_str.ensures.value ∙ c.in_ok-table.ensures))
