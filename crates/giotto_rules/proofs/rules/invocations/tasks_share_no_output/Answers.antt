use Rattle.std.proofs.Common.{◌∙◌}
use Rattle.giotto_rules.proofs.FindLemmas.{share_no_output}
use Rattle.giotto_rules.proofs.rules.invocations.tasks_share_no_output.Goals as goal

pub returns : goal.returns
returns c = c.each_all_different.ensures ∙ share_no_output c.args.program.now c.args.ports.now c.requires
