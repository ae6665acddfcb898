use Rattle.desk_checks.proofs.calls.closed.Given as goal

abbrev pub ghosts-closed_desk : goal.ghosts-closed_desk
ghosts-closed_desk g a = record { config = a.config.now; first_tick = 0; history = a.history }
