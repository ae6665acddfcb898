use Rattle.config_checks.proofs.summaries.heading_of.Goals as goal

pub returns : goal.returns
returns c = rw (c.lines-lines.ensures.value, c.tenants.ensures.value) at c.format.ensures.ok
