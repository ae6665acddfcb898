use Rattle.giotto_rules.proofs.cited.RulesKept.{rules_kept}
use Rattle.giotto_check.proofs.ProgramFacts.{program_fits}
use Rattle.giotto_check.proofs.fits.Goals as goal

pub returns-clause-rules : goal.returns-clause-rules
returns-clause-rules c = rules_kept c.args.program.now c.requires

pub returns-clause-fits : goal.returns-clause-fits
returns-clause-fits c = program_fits c.args.program.now (rules_kept c.args.program.now c.requires) c.known.ensures (c.shallow.ensures.program c.args.program.now c.known.ensures)
