use Rattle.std.proofs.Common.{ℕ, List, ap, ◌∙◌}
use Rattle.std.specs.List.{slice_get}
use Rattle.rig_retests.specs.Retested.{Retested}
use Rattle.rig_retests.proofs.Watching.{copied_at}
use Rattle.rig_retests.proofs.tables.Retests.line_of.Goals as goal

pub returns : goal.returns
returns c =
    c.copied.ensures ∙ copied_at c.deref.result.now c.args.tick c.get.result c.get.ensures.lookup ∙ ap (λ (xs : List ℕ). slice_get xs c.args.tick) c.deref.ensures.value ∙ ap (λ (r : Retested). slice_get r.tick_lines c.args.tick) c.self.view_is
