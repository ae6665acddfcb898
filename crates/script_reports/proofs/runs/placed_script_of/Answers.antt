use Rattle.std.proofs.Common.{◌++◌, ◌∙◌, ap, arith, string_bytes}
use Rattle.script_reports.proofs.Placing.{all_placed, line_placed}
use Rattle.script_reports.proofs.runs.placed_script_of.Goals as goal

pub loop-line-preserved : goal.loop-line-preserved
loop-line-preserved c =
    let l = c.loop-line in
    rw c.number-count.ensures
    (line_placed c.args.lines.now l.line-index l.count c.line-item.result (string_bytes l.text) (string_bytes c.push_str.new.self) _ c.loop-line-test.true c.line-item.is
    (c.in_ok-push_str.ensures.bytes ∙ ap (λ t. string_bytes l.text ++ t) (c.as_str.ensures.value ∙ c.in_ok-placed.ensures)) l.invariant)

pub returns : goal.returns
returns c = let l = c.loop-line in all_placed c.args.lines.now l.line-index l.count (string_bytes l.text) _ (omega (arith, c.loop-line-test.false)) l.invariant
