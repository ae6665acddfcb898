use Rattle.desk_checks.proofs.schedules.agreeing.Given as goal

abbrev pub ghosts-agrees : goal.ghosts-agrees
ghosts-agrees g a = record { config = a.config.now; first_tick = 0; history = a.history }
