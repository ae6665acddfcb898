use Rattle.std.proofs.Common.{◌∙◌, None, sym, ap}
use Rattle.std.specs.Option.{option_map, option_copied}
use Rattle.giotto_text.specs.ProgramTrees.{task_of}
use Rattle.giotto_rules.specs.Declarations as declared
use Rattle.giotto_tasks.specs.cited.Places.{place_from}
use Rattle.giotto_rules.proofs.FindLemmas.{task_at_place, task_found, found_in, copied_at}
use Rattle.giotto_rules.proofs.indexed.Indexed.task.Goals as goal

pub returns-in-Some-clause-found : goal.returns-in-Some-clause-found
returns-in-Some-clause-found c =
    found_in task_of (declared.task_named c.args.self.now c.args.name.now) c.get.result
    (task_found c.args.self.now c.args.name.now c.self.inside.tasks c.tasks.result.now c.in-Some.place c.get.result (c.self.invariant.0 ∙ ap declared.task_names c.self.view_is) (sym c.place.ensures ∙ c.in-Some.is) (c.tasks.ensures ∙ ap (λ p. p.tasks) c.self.view_is) (copied_at c.tasks.result.now c.in-Some.place c.get.result c.get.ensures.lookup))

pub returns-in-Some-clause-missing : goal.returns-in-Some-clause-missing
returns-in-Some-clause-missing c = λ none.
    task_found c.args.self.now c.args.name.now c.self.inside.tasks c.tasks.result.now c.in-Some.place c.get.result (c.self.invariant.0 ∙ ap declared.task_names c.self.view_is) (sym c.place.ensures ∙ c.in-Some.is) (c.tasks.ensures ∙ ap (λ p. p.tasks) c.self.view_is) (copied_at c.tasks.result.now c.in-Some.place c.get.result c.get.ensures.lookup)
    ∙ ap (λ o. option_map task_of (option_copied o)) none

pub returns-in-None-clause-missing : goal.returns-in-None-clause-missing
returns-in-None-clause-missing c = λ none.
    task_at_place c.args.self.now c.args.name.now None (sym c.in-None.is ∙ (c.place.ensures ∙ ap (λ ns. place_from 0 ns c.args.name.now) (c.self.invariant.0 ∙ ap declared.task_names c.self.view_is)))
