-- The bytes answered to a tenant.
use Rattle.std.specs.Prelude.{ℕ, List, [], ◌∷◌, ◌++◌}
use Rattle.rig_model.specs.declared.events.Event.{Event}
use Rattle.tenant_lines.specs.Replies.{text_of_reply}
use Rattle.rig_model.specs.Base.{Setting}
use Rattle.rig_model.specs.Views.{LocalEvent, command, instant, after_command, run_of, view_of}

module _ (setting : Setting) where
  -- the replies of the one-tenant machine, each followed by LF, in the order in which they were given
  abbrev pub answers_along : ℕ → List LocalEvent → List ℕ
  answers_along t [] = []
  answers_along t (command c ∷ past) = answers_along t past ++ (text_of_reply (after_command setting t c (run_of setting t past)).reply ++ 10 ∷ [])
  answers_along t (instant i ∷ past) = answers_along t past

  abbrev pub answers_of : List Event → ℕ → List ℕ
  answers_of past t = answers_along t (view_of setting past t)
