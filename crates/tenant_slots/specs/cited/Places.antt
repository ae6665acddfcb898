-- The task and the mode at a place.
use Rattle.std.specs.Prelude.{◌≡◌, ℕ, Some, slice_get}
use Rattle.rig_model.specs.text.Program.{TaskDeclaration, GiottoProgram, ModeDeclaration}

-- the task is at this place, in text order from 0
abbrev pub IsTaskAt : GiottoProgram → ℕ → TaskDeclaration → Type 0
IsTaskAt p k t = slice_get p.tasks k ≡ Some t

-- the mode is at this place
abbrev pub IsModeAt : GiottoProgram → ℕ → ModeDeclaration → Type 0
IsModeAt p k m = slice_get p.modes k ≡ Some m
