use Rattle.std.proofs.Common.{sym, ap, ◌∙◌}
use Rattle.std.specs.Prelude.{slice_get}
use Rattle.std.proofs.lemmas.Bool.{false≢true}
use Rattle.std.proofs.lemmas.Option.{slice_get-map}
use Rattle.giotto_tasks.proofs.cited.ListLemmas.{same_mapped}
use Rattle.tenant_grants.specs.inner.Tables.{bind_of}
use Rattle.tenant_grants.proofs.tables.same_binds.Goals as goal

pub loop-i-preserved : goal.loop-i-preserved
loop-i-preserved c = same_mapped bind_of c.args.ones.now.entries c.args.others.now.entries c.loop-i.i c.loop-i.invariant (c.is_same_at.ensures.0 c.if-not-is_same_at.false)

pub returns-then-not-is_same_at : goal.returns-then-not-is_same_at
returns-then-not-is_same_at c = (
  λ h. absurd (false≢true h),
  λ e.
      let i = c.loop-i.i in
      let same = sym (slice_get-map bind_of c.args.ones.now.entries i) ∙ (ap (λ bs. slice_get bs i) e ∙ slice_get-map bind_of c.args.others.now.entries i) in
      sym c.if-not-is_same_at.true ∙ c.is_same_at.ensures.1 same,
)
