-- Which names a body or an expression may use.
use Rattle.std.specs.Prelude.{Bool, true, not, ◌&&◌, nat_le, List, [], ◌∷◌, ◌++◌, length, IsTrue}
use Rattle.giotto_tasks.specs.declared.names.Name.{Name}
use Rattle.giotto_tasks.specs.Names.{is_among}
use Rattle.giotto_tasks.specs.Syntax.{Expression, number, port, unary, binary, Statement, assign, branch, repeat, Block, finished, step, TaskBody}

-- no name occurs twice
abbrev pub all_different : List Name → Bool
all_different [] = true
all_different (n ∷ ns) = not (is_among ns n) && all_different ns

-- each name that the expression reads passes the test
abbrev pub reads_only : (Name → Bool) → Expression → Bool
reads_only may (number z) = true
reads_only may (port x) = may x
reads_only may (unary o e) = reads_only may e
reads_only may (binary o a b) = reads_only may a && reads_only may b

abbrev mutual
  pub statement_reads_only : (Name → Bool) → Statement → Bool
  statement_reads_only may (assign x e) = reads_only may e
  statement_reads_only may (branch c a b) = reads_only may c && (block_reads_only may a && block_reads_only may b)
  statement_reads_only may (repeat n b) = block_reads_only may b

  -- each name that the block reads passes the test
  pub block_reads_only : (Name → Bool) → Block → Bool
  block_reads_only may finished = true
  block_reads_only may (step s b) = statement_reads_only may s && block_reads_only may b

abbrev mutual
  pub statement_assigns_only : (Name → Bool) → Statement → Bool
  statement_assigns_only may (assign x e) = may x
  statement_assigns_only may (branch c a b) = block_assigns_only may a && block_assigns_only may b
  statement_assigns_only may (repeat n b) = block_assigns_only may b

  -- each name that the block assigns passes the test
  pub block_assigns_only : (Name → Bool) → Block → Bool
  block_assigns_only may finished = true
  block_assigns_only may (step s b) = statement_assigns_only may s && block_assigns_only may b

-- at most 16 inputs, outputs and states each
abbrev pub is_small : TaskBody → Bool
is_small b = nat_le (length b.inputs) 16 && (nat_le (length b.outputs) 16 && nat_le (length b.states) 16)

-- The names of the body's ports are different, and its block reads only these and assigns only outputs and states.
abbrev pub has_sound_names : TaskBody → Bool
has_sound_names b =
    let ports = (b.inputs ++ b.states) ++ b.outputs in
    all_different ports && (block_reads_only (is_among ports) b.block && block_assigns_only (is_among (b.states ++ b.outputs)) b.block)

-- a body that can be evaluated
abbrev pub IsSound : TaskBody → Type 0
IsSound b = IsTrue (is_small b && has_sound_names b)
