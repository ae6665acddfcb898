use Rattle.std.proofs.Common.{[], ◌∷◌, ◌++◌, ap, append_assoc, map, subst, sym, ◌∙◌}
use Rattle.std.proofs.lemmas.List.{map-append}
use Rattle.rig_operator.specs.Asked.{Adds, completed}
use Rattle.rig_operator.proofs.Adding.{adds_both}
use Rattle.rig_operator.proofs.operating.complete.Goals as goal

pub loop-job-preserved : goal.loop-job-preserved
loop-job-preserved g c =
    let asked = g.G.Rig.asked in
    let taken = c.loop-job.invariant.0 in
    let job = c.in-Some.job in
    let one : Adds (asked c.loop-job.rig) (asked c.done.new.self) (completed job ∷ []) = subst (λ j. Adds (asked c.loop-job.rig) (asked c.done.new.self) (completed j ∷ [])) c.run_job.ensures c.done.ensures in
    let all = adds_both (asked c.args.rig.now) (asked c.loop-job.rig) (asked c.done.new.self) (map completed taken) (completed job ∷ []) c.loop-job.invariant.2 one in (
      taken ++ job ∷ [],
      c.loop-job.invariant.1 ∙ ap (λ l. taken ++ l) c.in-Some.ensures.jobs ∙ sym (append_assoc taken (job ∷ []) c.take.new.self.jobs),
      subst (Adds (asked c.args.rig.now) (asked c.done.new.self)) (sym (map-append completed taken (job ∷ []))) all,
    )
