use Rattle.std.proofs.Common.{sym, ◌∙◌}
use Rattle.std.proofs.lemmas.Bool.{and_from}
use Rattle.tenant_jobs.proofs.SameResults.{and_true, same_results}
use Rattle.tenant_jobs.proofs.finished.Finished.has_same_results.Goals as goal

pub returns-then-has_results_of : goal.returns-then-has_results_of
returns-then-has_results_of c =
    let same = same_results c.args.self.now.entries c.args.other.now.entries c.known.ensures.differ c.known-2.ensures.differ in
    let last = c.has_results_of-then-has_results_of.ensures in (
      λ h. same.0 (and_from _ _ (sym c.has_results_of.ensures ∙ c.if-has_results_of.true) (sym last ∙ h)),
      λ f. last ∙ (and_true _ _ (same.1 f)).1,
    )

pub returns-else-has_results_of : goal.returns-else-has_results_of
returns-else-has_results_of c =
    let same = same_results c.args.self.now.entries c.args.other.now.entries c.known.ensures.differ c.known-2.ensures.differ in (
      λ h. absurd (let no = c.if-has_results_of.false in cc (h, no)),
      λ f. c.has_results_of.ensures ∙ (and_true _ _ (same.1 f)).0,
    )
