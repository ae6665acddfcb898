use Rattle.std.proofs.Common.{arith, nat_eq}
use Rattle.std.proofs.lemmas.Bool.{OnTrue_from, eqb-true}
use Rattle.slab.specs.Slab.{values}
use Rattle.tenant_jobs.proofs.Slots.{length-values}
use Rattle.tenant_jobs.proofs.TableEntries.{all_came, complete_is}
use Rattle.tenant_jobs.proofs.finished.Finished.is_complete.Goals as goal

pub returns-clause-exact : goal.returns-clause-exact
returns-clause-exact c =
    let s = c.self.inside.entries in
    rw (← c.self.view_is, c.self.invariant.1, c.len.ensures, ← length-values s) (complete_is (values s))

pub returns-clause-each : goal.returns-clause-each
returns-clause-each c =
    let s = c.self.inside.entries in
    rw (← c.self.view_is) (OnTrue_from (nat_eq c.self.inside.results c.len.result) _ (λ equal j. all_came (values s) j (omega (arith, c.self.invariant.1, eqb-true _ _ equal, c.len.ensures, length-values s))))
