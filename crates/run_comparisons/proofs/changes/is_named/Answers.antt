use Rattle.std.proofs.Common.{◌≡◌, ◌<◌, ◌∙◌, length, sym, arith}
use Rattle.rig_retests.specs.Named.{names_of}
use Rattle.run_comparisons.specs.Changes.{calls_for}
use Rattle.run_comparisons.proofs.Listing.{any_at, none_more}
use Rattle.run_comparisons.proofs.changes.is_named.Goals as goal

pub returns-then-calls_for : goal.returns-then-calls_for
returns-then-calls_for c =
    let l = c.loop-source in
    let lt : l.source < length c.args.changes.now = omega arith in
    sym (any_at (calls_for (names_of c.args.facts.now) c.args.changes.now c.args.tenant) (length c.args.changes.now) l.source lt (sym c.calls_for.ensures ∙ c.if-calls_for.true))

pub loop-source-preserved : goal.loop-source-preserved
loop-source-preserved c =
    let l = c.loop-source in
    none_more (calls_for (names_of c.args.facts.now) c.args.changes.now c.args.tenant) l.source l.invariant (sym c.calls_for.ensures ∙ c.if-calls_for.false)
