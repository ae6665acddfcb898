use Rattle.rig_server.proofs.serving.serve_with_history.Given as goal

abbrev pub ghosts-serve_desk : goal.ghosts-serve_desk
ghosts-serve_desk g a = record { config = a.config.now; first_tick = 0; history = a.history }
