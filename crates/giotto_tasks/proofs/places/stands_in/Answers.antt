use Rattle.giotto_tasks.proofs.cited.IndexLemmas.{is_some-place_from}
use Rattle.giotto_tasks.proofs.places.stands_in.Goals as goal

pub returns : goal.returns
returns c = rw (c.is_some.ensures, c.position_in.ensures.place) (is_some-place_from 0 c.args.names.now c.args.name.now)
