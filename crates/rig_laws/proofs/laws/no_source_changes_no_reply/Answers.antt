use Rattle.rig_laws.proofs.ScriptSources.{sources_in_scripts, kept_in_scripts, answers_in_scripts, replies_in_scripts}
use Rattle.rig_laws.proofs.laws.no_source_changes_no_reply.Goals as goal

pub returns-clause-sources : goal.returns-clause-sources
returns-clause-sources c = sources_in_scripts

pub returns-clause-kept : goal.returns-clause-kept
returns-clause-kept c = kept_in_scripts

pub returns-clause-answers : goal.returns-clause-answers
returns-clause-answers c = answers_in_scripts

pub returns-clause-replies : goal.returns-clause-replies
returns-clause-replies c = replies_in_scripts
