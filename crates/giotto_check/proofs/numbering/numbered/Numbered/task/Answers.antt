use Rattle.std.proofs.Common.{ap, ◌∙◌}
use Rattle.giotto_rules.specs.text.Program.{GiottoProgram}
use Rattle.giotto_check.proofs.cited.EntryLemmas.{task_found, task_there}
use Rattle.giotto_check.proofs.numbering.numbered.Numbered.task.Goals as goal

pub unreachable-requires : goal.unreachable-requires
unreachable-requires c =
    let p = c.args.self.now in
    let x = c.args.name.now in
    task_there p x c.requires (task_found p x c.tasks.result.now c.task_place.result c.task_place.ensures (c.tasks.ensures ∙ ap (λ (q : GiottoProgram). q.tasks) c.self.view_is) ∙ c.in-None.is)

pub returns : goal.returns
returns c = task_found c.args.self.now c.args.name.now c.tasks.result.now c.task_place.result c.task_place.ensures (c.tasks.ensures ∙ ap (λ (q : GiottoProgram). q.tasks) c.self.view_is) ∙ c.in-Some.is
