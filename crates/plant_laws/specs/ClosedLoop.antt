-- Histories whose frames are made by a plant, from what is driven.
use Rattle.std.specs.Prelude.{◌≡◌, ℕ, Bool, true, if◌then◌else◌, ℤ, List, [], ◌∷◌, length, map}
use Rattle.std.specs.List.{range_with_len}
use Rattle.plant_couplings.specs.Couplings.{is_coupled}
use Rattle.plant_couplings.specs.declared.couplings.Plant.{Plant}
use Rattle.plant_laws.specs.Closed.{IsClosed}
use Rattle.rig_model.specs.Base.{Setting}
use Rattle.rig_model.specs.LineValues.{value_of_line}
use Rattle.rig_model.specs.Views.{row_of}
use Rattle.rig_model.specs.declared.events.Event.{Event}
use Rattle.rig_model.specs.declared.events.Event.TheVariants.{Own, Tick, Done}

-- How a plant makes the next input value of a line, from what was driven on all lines just before that instant and just before each earlier one,
-- the newest first. It may also depend on the time, which is how many there are.
abbrev pub Dynamics : Type 0
Dynamics = List (ℕ → ℤ) → ℕ → ℤ

-- The dynamics keep to the declared plant: the input value of a line depends only on what was driven on the lines that are coupled to it.
abbrev pub KeepsTo : Plant → Dynamics → Type 0
KeepsTo plant dynamics = (k : ℕ) (a b : List (ℕ → ℤ)) → length a ≡ length b
    → ((j : ℕ) → is_coupled plant j k ≡ true → map (λ (driven : ℕ → ℤ). driven j) a ≡ map (λ (driven : ℕ → ℤ). driven j) b) → dynamics a k ≡ dynamics b k

-- the members' commands and completions, and the instants, without their frames
abbrev pub done_of : (ℕ → Bool) → List Event → List Event
done_of members [] = []
done_of members (Own t c ∷ past) = if members t then Own t c ∷ done_of members past else done_of members past
done_of members (Done j ∷ past) = if members j.tenant then Done j ∷ done_of members past else done_of members past
done_of members (Tick frame ∷ past) = Tick [] ∷ done_of members past

module _ (setting : Setting) where
  -- what is driven on each line after these events
  abbrev pub driven_after : List Event → ℕ → ℤ
  driven_after past = value_of_line setting.config (row_of setting past)

  -- what was driven on each line just before each instant, the newest first
  abbrev pub driven_along : List Event → List (ℕ → ℤ)
  driven_along [] = []
  driven_along (Own t c ∷ past) = driven_along past
  driven_along (Done j ∷ past) = driven_along past
  driven_along (Tick frame ∷ past) = driven_after past ∷ driven_along past

  -- each frame is made by these dynamics
  abbrev pub IsLoop : Dynamics → List Event → Type 0
  IsLoop dynamics [] = Unit {0}
  IsLoop dynamics (Own t c ∷ past) = IsLoop dynamics past
  IsLoop dynamics (Done j ∷ past) = IsLoop dynamics past
  IsLoop dynamics (Tick frame ∷ past) = (frame ≡ map (dynamics (driven_after past ∷ driven_along past)) (range_with_len 0 setting.config.lines)) × IsLoop dynamics past

-- The plant's dynamics keep to its declaration and make the frames of both lists, which differ only in what tenants outside a closed set do, and in
-- their frames.
pub record LoopsDifferOutside (setting : Setting) (plant : Plant) (dynamics : Dynamics) (members : ℕ → Bool) (past others : List Event) : Type 0 where
  pub closed : IsClosed setting plant past members
  pub keeps : KeepsTo plant dynamics
  pub first : IsLoop setting dynamics past
  pub second : IsLoop setting dynamics others
  pub same : done_of members past ≡ done_of members others
