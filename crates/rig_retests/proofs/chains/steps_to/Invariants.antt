use Rattle.rig_retests.proofs.chains.steps_to.Given as goal

abbrev pub decreases-loop-at : goal.decreases-loop-at
decreases-loop-at l = l.at
