use Rattle.giotto_text.specs.Parsing.{read_name}
use Rattle.giotto_read.proofs.DoingLists.{next_thing, thing_progresses, list_more}
use Rattle.giotto_read.proofs.Shrinking.{Progresses, shrinks, name}
use Rattle.giotto_read.proofs.reader.Reader.names.Goals as goal

forward : Progresses (next_thing read_name)
forward = thing_progresses (shrinks name)

pub loop-self-preserved : goal.loop-self-preserved
loop-self-preserved c = rw (c.in_ok-push-2.ensures.items) (list_more read_name _ c.loop-self.self c.accept.new.self c.name-in-loop-self.new.self forward c.loop-self.invariant c.loop-self-test.ensures c.in_ok-name-2.ensures)
