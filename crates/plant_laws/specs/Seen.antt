-- What some tenants, the members, see of a list of events: what they do themselves, and of each frame the values of the lines that a member may
-- read. Lists of events have the newest first. A set of tenants is a test of their places.
use Rattle.std.specs.Prelude.{◌≡◌, ℕ, Bool, true, ◌&&◌, if◌then◌else◌, ℤ, pos, List, [], ◌∷◌, map}
use Rattle.std.specs.List.{enumerate_from, list_any}
use Rattle.rig_model.specs.Base.{Setting}
use Rattle.rig_model.specs.config.Roster.{Rig, may_use}
use Rattle.rig_model.specs.declared.config.TenantConfig.{TenantConfig}
use Rattle.rig_model.specs.declared.events.Event.{Event}
use Rattle.rig_model.specs.declared.events.Event.TheVariants.{Own, Tick, Done}
use Rattle.tenant_sources.specs.Links.{is_source_of}

module _ (config : Rig) (members : ℕ → Bool) where
  -- a member may read line k
  abbrev pub is_seen : ℕ → Bool
  is_seen k = list_any (λ (place : ℕ × TenantConfig). members place.0 && may_use place.1.budgets.reads k) (enumerate_from 0 config.tenants)

  -- a frame with 0 in place of each value that no member may read
  abbrev pub seen_frame : List ℤ → List ℤ
  seen_frame frame = map (λ (r : ℕ × ℤ). if is_seen r.0 then r.1 else pos 0) (enumerate_from 0 frame)

  -- the members' commands and completions, and each frame as they see it
  abbrev pub seen_of : List Event → List Event
  seen_of [] = []
  seen_of (Own t c ∷ past) = if members t then Own t c ∷ seen_of past else seen_of past
  seen_of (Done j ∷ past) = if members j.tenant then Done j ∷ seen_of past else seen_of past
  seen_of (Tick frame ∷ past) = Tick (seen_frame frame) ∷ seen_of past

-- Tenant t and each source that it has in the first list are members, and these see the same of both lists. So the lists differ only in what other
-- tenants do, and in the values of lines that no member may read.
pub record DifferUnseen (setting : Setting) (members : ℕ → Bool) (t : ℕ) (past others : List Event) : Type 0 where
  pub sources : (u : ℕ) → is_source_of setting past t u ≡ true → members u ≡ true
  pub same : seen_of setting.config members past ≡ seen_of setting.config members others
