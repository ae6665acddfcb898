-- The driver of a script: a host that answers, and the listener that hears its lines.
use Rattle.std.specs.Prelude.{◌≡◌, ℕ, Bool, true, List}
use Rattle.host_core.specs.HostStanding.{HostStanding}
use Rattle.rig_model.specs.Base.{Setting}
use Rattle.rig_model.specs.declared.events.Event.{Event}
use Rattle.rig_script.specs.cited.HostAnswers.{IsHostAfter}
use Rattle.rig_script.specs.cited.Past.{past_of}
use Rattle.rig_script.specs.inner.Noting.{IsNoted}

-- The host is in its state after the events of the past, which are those of the lines of these texts. The number of the lines, and whether
-- one is a tenant's, are noted. The listener has heard all of the lines if it is whole.
abbrev pub IsDriverAfter : Setting → HostStanding → ℕ → Bool → Bool → (Setting → List (List ℕ) → Type 0) → List (List ℕ) → List Event → Type 0
IsDriverAfter setting host answered has_tenant whole Heard texts past =
    IsHostAfter setting host past × (past ≡ past_of setting texts) × IsNoted setting answered has_tenant texts past × (whole ≡ true → Heard setting texts)
