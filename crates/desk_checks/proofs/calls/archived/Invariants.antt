use Rattle.desk_checks.proofs.calls.archived.Given as goal

abbrev pub ghosts-archived_desk : goal.ghosts-archived_desk
ghosts-archived_desk g a = record { config = a.config.now; first_tick = 0; history = a.history }
