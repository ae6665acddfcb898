-- Scripts that differ only in the lines of some tenants. Here a set of tenants is a test of their places.
use Rattle.std.specs.Prelude.{◌≡◌, ℕ, Bool, true, false, not, List, [], filter}
use Rattle.std.specs.Option.{option_map_or}
use Rattle.tenant_lines.specs.config.Roster.{Rig}
use Rattle.rig_model.specs.declared.events.Event.{Event}
use Rattle.rig_model.specs.declared.speakers.Speaker.{Speaker}
use Rattle.rig_model.specs.declared.speakers.Speaker.TheVariants.{Nobody, Operator, Tenant, Unknown}
use Rattle.rig_model.specs.Base.{Setting}
use Rattle.rig_model.specs.Script.{speaker_of, past_after}
use Rattle.rig_model.specs.Sources.{is_source, sources_of}
use Rattle.rig_model.specs.TextLines.{text_of_line}

-- the speaker is one of these tenants
abbrev pub is_one_of : (ℕ → Bool) → Speaker → Bool
is_one_of tenants Nobody = false
is_one_of tenants Operator = false
is_one_of tenants (Tenant u) = tenants u
is_one_of tenants Unknown = false

-- the line's speaker is one of these tenants; a line that is too long or not UTF-8 has no speaker
abbrev pub is_line_of : Rig → (ℕ → Bool) → List ℕ → Bool
is_line_of config tenants line = option_map_or (λ text. is_one_of tenants (speaker_of config text)) (text_of_line line) false

-- these lines, without those in which one of these tenants speaks
abbrev pub without_lines_of : Rig → (ℕ → Bool) → List (List ℕ) → List (List ℕ)
without_lines_of config tenants lines = filter (λ line. not (is_line_of config tenants line)) lines

-- After the same events, the two scripts differ only in the lines of these tenants, and none of these tenants is a source of tenant t
-- anywhere in the first script.
pub record DifferInNoSource (setting : Setting) (tenants : ℕ → Bool) (t : ℕ) (past : List Event) (lines others : List (List ℕ)) : Type 0 where
  pub same_else : without_lines_of setting.config tenants lines ≡ without_lines_of setting.config tenants others
  pub no_source : (u : ℕ) → tenants u ≡ true → is_source (sources_of setting t (past_after setting past lines) []) u ≡ false
