use Rattle.std.proofs.Common.{codes}
use Rattle.std.proofs.lemmas.Str.Pattern.{ends_text}
use Rattle.rig_files.proofs.inputs.is_run.Goals as goal

pub returns : goal.returns
returns c = ends_text c.ends_with.result (codes ".run") c.args.path.now c.ends_with.ensures.cases
