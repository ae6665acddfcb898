use Rattle.std.proofs.Common.{rules, string_bytes}
use Rattle.config_checks.proofs.Valued.{value_further}
use Rattle.config_checks.proofs.values.text_of_others.Goals as goal

pub loop-value-preserved : goal.loop-value-preserved
loop-value-preserved c =
    let l = c.loop-value in
    value_further c.args.values.now l.value-index c.value-item.result (string_bytes l.text) _ (string_bytes c.push_str.new.self) l.invariant c.loop-value-test.true c.value-item.is c.in_ok-one.ensures (search rules)
