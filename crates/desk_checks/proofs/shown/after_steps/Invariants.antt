use Rattle.desk_checks.proofs.shown.after_steps.Given as goal

abbrev pub ghosts-at_desk : goal.ghosts-at_desk
ghosts-at_desk g a = record { config = a.config.now; first_tick = 0; history = a.history }
