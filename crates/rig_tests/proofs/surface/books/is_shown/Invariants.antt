use Rattle.rig_tests.proofs.surface.books.is_shown.Given as goal

abbrev pub ghosts-shows : goal.ghosts-shows
ghosts-shows g a = record { config = a.config.now; first_tick = 0; history = record { number = 0; log_name = 0; cells_name = 0 } }
