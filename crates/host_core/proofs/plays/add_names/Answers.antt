use Rattle.std.proofs.Common.{◌≡◌, ◌∷◌, ◌∙◌}
use Rattle.host_core.proofs.ReleasedNames.{one_named}
use Rattle.host_core.proofs.plays.add_names.Goals as goal

pub loop-job-preserved : goal.loop-job-preserved
loop-job-preserved c = λ j.
    let jobs : c.loop-job.jobs.jobs ≡ c.in-Some.job ∷ c.take.new.self.jobs = c.in-Some.ensures.jobs in
    one_named j c.loop-job.names.keys c.insert.new.self.keys c.in-Some.job c.loop-job.jobs.jobs c.take.new.self.jobs c.copy.result (c.copy.ensures ∙ c.id.ensures) jobs (c.in-Ok.ensures.updates.0 j)
    ∙ c.loop-job.invariant j
