-- The trees that values of the program's own types represent.
use Rattle.std.specs.Prelude.{List, [], ◌∷◌, map}
use Rattle.giotto_tasks.specs.Syntax.{Expression, number, port, unary, binary, Statement, assign, branch, repeat, Block, finished, step, TaskBody}
use Rattle.giotto_tasks.specs.declared.names.Name.{Name}
use Rattle.giotto_tasks.specs.declared.bodies.Expr.{Expr}
use Rattle.giotto_tasks.specs.declared.bodies.Expr.TheVariants.{Number, Port, Unary, Binary}
use Rattle.giotto_tasks.specs.declared.bodies.Primary.{Primary}
use Rattle.giotto_tasks.specs.declared.bodies.Primary.TheVariants as primary
use Rattle.giotto_tasks.specs.declared.bodies.Stmt.{Stmt}
use Rattle.giotto_tasks.specs.declared.bodies.Stmt.TheOpen.{Stmt-F, Assign, If, Repeat}
use Rattle.giotto_tasks.specs.declared.bodies.Stmt.TheFolds.{fold-Stmt}

abbrev mutual
  -- an expression without the boxes that hold its parts
  pub expression_of : Expr → Expression
  expression_of (Number z) = number z
  expression_of (Port x) = port x
  expression_of (Unary o a) = unary o (primary_of a)
  expression_of (Binary o a b) = binary o (primary_of a) (primary_of b)

  -- an operand of an operation, as an expression: parentheses leave no trace
  pub primary_of : Primary → Expression
  primary_of (primary.Number z) = number z
  primary_of (primary.Port x) = port x
  primary_of (primary.Nested' p e) = expression_of e

-- the block of these statements
abbrev pub in_order : List Statement → Block
in_order [] = finished
in_order (s ∷ ss) = step s (in_order ss)

-- one statement, given the tree of each statement inside it
abbrev pub statement_with : Stmt-F Statement → Statement
statement_with (Assign x e) = assign x (expression_of e)
statement_with (If c a b) = branch (expression_of c) (in_order a.items) (in_order b.items)
statement_with (Repeat n b) = repeat n (in_order b.items)

-- a statement without the lists and boxes that hold its parts
abbrev pub statement_of : Stmt → Statement
statement_of = fold-Stmt Statement statement_with

-- the block that a list of statements represents
abbrev pub block_of : List Stmt → Block
block_of ss = in_order (map statement_of ss)

-- a body with these ports and statements
abbrev pub body_of : List Name → List Name → List Name → List Stmt → TaskBody
body_of inputs outputs states ss = record { inputs = inputs; outputs = outputs; states = states; block = block_of ss }
