use Rattle.giotto_tasks.proofs.cited.IndexLemmas.{is_some-place_from}
use Rattle.giotto_tasks.proofs.index.Index.contains.Goals as goal

pub returns : goal.returns
returns c = rw (c.is_some.ensures, c.place.ensures) (is_some-place_from 0 c.args.self.now c.args.name.now)
