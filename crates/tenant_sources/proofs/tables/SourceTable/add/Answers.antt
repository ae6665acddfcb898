use Rattle.std.proofs.Common.{List, ◌∷◌, ◌++◌, [], take, sym, ap, ◌∙◌}
use Rattle.std.proofs.lemmas.List.{take_more}
use Rattle.tenant_sources.specs.Links.{Links}
use Rattle.tenant_sources.specs.cited.Additions.{with_link, with_links}
use Rattle.tenant_sources.specs.declared.tables.Addition.{Addition}
use Rattle.tenant_sources.proofs.LinkTables.{with_one_more}
use Rattle.tenant_sources.proofs.tables.SourceTable.add.Goals as goal

pub loop-addition-preserved : goal.loop-addition-preserved
loop-addition-preserved c =
    let front = take c.loop-addition.addition-index c.args.added.now in
    let more = take_more c.args.added.now c.loop-addition.addition-index c.addition-item.result c.loop-addition-test.true
    ∙ ap (λ (a : Addition). front ++ a ∷ []) (sym c.addition-item.is) in
    c.put.ensures
    ∙ (ap (λ (ls : Links). with_link ls c.addition-item.result) c.loop-addition.invariant
    ∙ (sym (with_one_more c.args.self.now front c.addition-item.result) ∙ ap (λ (list : List Addition). with_links c.args.self.now list) (sym more)))
