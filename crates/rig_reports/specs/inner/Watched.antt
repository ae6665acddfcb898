-- What was written before a fault of a script of which something else is made too: a dump, or a report.
use Rattle.std.specs.Prelude.{◌≡◌, ◌⊎◌, ℕ, List, Option}
use Rattle.rig_model.specs.Base.{Setting}
use Rattle.rig_model.specs.Script.{script_text_of}
use Rattle.rig_script.specs.BrokenOff.{IsScriptBrokenOff}
use Rattle.rig_script.specs.declared.faults.ScriptFault.{ScriptFault}
use Rattle.rig_script.specs.declared.faults.ScriptFault.TheVariants.{Memory}

-- The same as of a script alone. Memory can also run out after the script was answered whole, for what is made of it.
abbrev pub IsWatchedBrokenOff : Option (List ℕ) → (List ℕ → Type 0) → ScriptFault → Setting → List ℕ → Type 0
IsWatchedBrokenOff left Written fault setting bytes =
    IsScriptBrokenOff left Written fault setting bytes ⊎ ((fault ≡ Memory) × Written (script_text_of setting bytes))
