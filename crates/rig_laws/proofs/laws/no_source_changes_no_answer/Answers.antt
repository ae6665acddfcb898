use Rattle.rig_laws.proofs.OtherTenants.{same_kept, same_answers}
use Rattle.rig_laws.proofs.laws.no_source_changes_no_answer.Goals as goal

pub returns-clause-kept : goal.returns-clause-kept
returns-clause-kept c = same_kept

pub returns-clause-answers : goal.returns-clause-answers
returns-clause-answers c = same_answers
