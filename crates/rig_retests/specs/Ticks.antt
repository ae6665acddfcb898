-- Which lines of a script give its ticks.
use Rattle.std.specs.Prelude.{ℕ, ◌+◌, if◌then◌else◌, Bool, List, [], ◌∷◌, ◌++◌, reverse}
use Rattle.rig_model.specs.Base.{Setting}
use Rattle.rig_model.specs.Script.{line_step, past_behind}
use Rattle.rig_model.specs.TextLines.{cut}
use Rattle.rig_model.specs.declared.events.Event.{Event}
use Rattle.rig_script.specs.Given.{number_behind, texts_of}
use Rattle.rig_script.specs.Instants.{is_instant}

-- the number of a line, if it gives a tick
abbrev pub number_if : Bool → ℕ → List ℕ
number_if gives number = if gives then number ∷ [] else []

module _ (setting : Setting) where
  -- whether a line of this text gives a tick after these events
  abbrev pub gives_tick : List Event → List ℕ → Bool
  gives_tick past text = is_instant (reverse (line_step setting past text).events)

  -- the numbers of those of these lines that give a tick, if `n` lines come before them and `past` are the events of these
  abbrev pub tick_lines_from : List Event → ℕ → List (List ℕ) → List ℕ
  tick_lines_from past n [] = []
  tick_lines_from past n (text ∷ texts) = number_if (gives_tick past text) (number_behind n) ++ tick_lines_from (past_behind setting past text) (n + 1) texts

  -- the line that gives each tick of a script, from tick 0 on
  abbrev pub tick_lines_of : List ℕ → List ℕ
  tick_lines_of bytes = tick_lines_from [] 0 (texts_of (cut bytes))
