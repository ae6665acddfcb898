use Rattle.giotto_tasks.specs.Trees.{block_of}
use Rattle.giotto_read.specs.inner.Doing.{left}
use Rattle.giotto_read.proofs.ShallowTokens.{left_shallow}
use Rattle.giotto_read.proofs.reader.Reader.task.Goals as goal

pub shallow_body-requires : goal.shallow_body-requires
shallow_body-requires c =
    let before = c.task_states.new.self in
    c.shallow.ensures.block (left before) (left c.block.new.self) (block_of c.in_ok-block.block.items) (left_shallow before) c.in_ok-block.ensures
