use Rattle.desk_checks.proofs.calls.dropped.Given as goal

abbrev pub ghosts-dropped_desk : goal.ghosts-dropped_desk
ghosts-dropped_desk g a = record { config = a.config.now; first_tick = 0; history = a.history }
