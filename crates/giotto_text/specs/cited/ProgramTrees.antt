-- The tree of an assignment.
use Rattle.giotto_tasks.specs.Syntax.{Expression}
use Rattle.giotto_tasks.specs.Trees.{expression_of}
use Rattle.giotto_tasks.specs.declared.bodies.Expr.{Expr}
use Rattle.giotto_tasks.specs.declared.names.Name.{Name}

abbrev pub assignment_of : Name × Expr → Name × Expression
assignment_of p = (p.0, expression_of p.1)
