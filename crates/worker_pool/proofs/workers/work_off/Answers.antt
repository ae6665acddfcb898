use Rattle.std.proofs.Common.{◌∷◌, [], subst}
use Rattle.worker_pool.proofs.Adding.{adds_more}
use Rattle.host_core.specs.Adding.{Adds}
use Rattle.worker_pool.specs.Works.{computed, entered, handed_in}
use Rattle.worker_pool.proofs.workers.work_off.Goals as goal

pub returns-clause-did : goal.returns-clause-did
returns-clause-did g c =
    let did = g.W.Worker.did in
    let job = c.args.job in
    let r = c.hand_in.result in
    let first = subst (λ id. Adds (did c.args.worker.now) (did c.enter.new.self) (entered id ∷ [])) c.id.ensures c.enter.ensures in
    let last = subst (λ done. Adds (did c.compute-done.new.self) (did c.hand_in.new.self) (handed_in done r.0 r.1 ∷ [])) c.compute-done.ensures.done c.hand_in.ensures.did in
    adds_more (did c.args.worker.now) (did c.enter.new.self) (did c.hand_in.new.self) (entered job.id ∷ []) (computed job ∷ handed_in job r.0 r.1 ∷ [])
    first
    (adds_more (did c.enter.new.self) (did c.compute-done.new.self) (did c.hand_in.new.self) (computed job ∷ []) (handed_in job r.0 r.1 ∷ []) c.compute-done.ensures.did last)
