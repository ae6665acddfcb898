use Rattle.desk_tests.proofs.shown.is_shown.Given as goal

abbrev pub ghosts-on_desks : goal.ghosts-on_desks
ghosts-on_desks g a = record { config = a.config.now; first_tick = 0; history = a.history }
