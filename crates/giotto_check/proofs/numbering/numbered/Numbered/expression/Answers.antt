use Rattle.std.proofs.Common.{ap, ◌∙◌}
use Rattle.giotto_tasks.specs.Trees.{expression_of}
use Rattle.giotto_rules.specs.Declarations.{driver_ports}
use Rattle.giotto_check.proofs.cited.EntryLemmas.{is_expression}
use Rattle.giotto_check.proofs.numbering.numbered.Numbered.expression.Goals as goal

pub returns-in-Ok : goal.returns-in-Ok
returns-in-Ok c =
    let all = c.self.invariant.in_order ∙ ap driver_ports c.self.view_is in
    is_expression c.args.self.now (expression_of c.args.e.now) (record { code = c.in-Ok.code }) c.self.inside.names all c.requires.reads c.in-Ok.ensures.value
