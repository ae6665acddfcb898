use Rattle.std.proofs.Common.{[], ◌∷◌, ◌++◌, ◌∙◌, ap, take}
use Rattle.std.proofs.lemmas.List.{reverse-append}
use Rattle.tenant_trace.specs.cited.Noted.{pushed}
use Rattle.tenant_trace.proofs.cited.Kept.{last_first}
use Rattle.tenant_trace.proofs.traces.Trace.push.Goals as goal

pub returns : goal.returns
returns c =
    let ring = c.self.inside.ring in
    let latest = c.args.latest in
    rw (c.push_back-oldest.ensures.items)
    (ap (λ rs. record { most = ring.capacity; records = rs }) (last_first ring.capacity (ring.items ++ latest ∷ []) ∙ ap (take ring.capacity) (reverse-append ring.items (latest ∷ [])))
    ∙ ap (pushed latest) c.self.view_is)
