-- Tasks and modes by their places.
use Rattle.std.specs.Prelude.{ℕ, [], slice_get}
use Rattle.std.specs.Option.{option_map_or}
use Rattle.giotto_tasks.specs.declared.names.Name.{Name}
use Rattle.rig_model.specs.text.Program.{TaskDeclaration, ModeDeclaration, GiottoProgram}

-- the name of the task at this place
abbrev pub name_of_task : GiottoProgram → ℕ → Name
name_of_task p k = option_map_or (λ (t : TaskDeclaration). t.name) (slice_get p.tasks k) []

-- the name of the mode at this place
abbrev pub name_of_mode : GiottoProgram → ℕ → Name
name_of_mode p k = option_map_or (λ (m : ModeDeclaration). m.name) (slice_get p.modes k) []
