use Rattle.rig_client.proofs.remarks.meant_by.Goals as goal

pub returns : goal.returns
returns c = rw (c.in_ok-near.ensures, c.cut.ensures.word, c.cut.ensures.rest) at c.meant_with.ensures
