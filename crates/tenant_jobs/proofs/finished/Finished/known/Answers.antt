use Rattle.tenant_jobs.proofs.finished.Finished.known.Goals as goal

pub returns-clause-differ : goal.returns-clause-differ
returns-clause-differ c = rw (← c.self.view_is) c.self.invariant.0
