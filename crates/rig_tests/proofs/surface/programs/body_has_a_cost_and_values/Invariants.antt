use Rattle.rig_tests.proofs.surface.programs.body_has_a_cost_and_values.Given as goal

abbrev pub ghosts-evaluated : goal.ghosts-evaluated
ghosts-evaluated g a = record { name = a.blank.name; parts = a.blank.parts }
