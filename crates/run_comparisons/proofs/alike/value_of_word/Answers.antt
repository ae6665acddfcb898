use Rattle.std.proofs.Common.{◌≢◌, get_or, ◌∙◌}
use Rattle.run_comparisons.proofs.Values.{value_parsed}
use Rattle.run_comparisons.proofs.alike.value_of_word.Goals as goal

pub returns : goal.returns
returns c =
    let word = c.args.word.now in
    let no_plus : get_or word 0 0 ≢ 43 = rw c.as_bytes.ensures.value at c.if-first-eq43.false in
    c.ok.ensures.value ∙ value_parsed word c.parse.result no_plus c.parse.ensures.value.0
