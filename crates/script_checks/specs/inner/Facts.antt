-- What a set of facts has, and which commands of a script are kept for notes.
use Rattle.std.specs.Prelude.{◌≡◌, ◌||◌, Bool, false, List, ◌++◌}
use Rattle.std.specs.List.{flat_map, list_any}
use Rattle.rig_model.specs.config.Roster.{Rig}
use Rattle.script_checks.specs.Grants.{Told, is_said, note_on, same_fact}
use Rattle.script_checks.specs.declared.binds.GrantLines.{GrantLines}
use Rattle.script_checks.specs.declared.binds.Noted.{Noted}
use Rattle.script_checks.specs.declared.binds.Said.{Said}
use Rattle.script_checks.specs.declared.facts.Fact.{Fact}
use Rattle.script_checks.specs.declared.facts.Facts.{Facts}

abbrev pub has_fact : Facts → Fact → Bool
has_fact facts fact = list_any (same_fact fact) facts.set.keys

abbrev pub HasNone : Facts → Type 0
HasNone facts = (fact : Fact) → has_fact facts fact ≡ false

-- a set gains exactly these facts
abbrev pub Gains : List Fact → Facts → Facts → Type 0
Gains gained before after = (fact : Fact) → has_fact after fact ≡ (list_any (same_fact fact) gained || has_fact before fact)

-- the notes on the commands that are kept, if this is given
abbrev pub notes_kept : Rig → (Fact → Bool) → GrantLines → List Told
notes_kept config given lines = flat_map (λ (noted : Noted). note_on config given noted.said) lines.noted.items

-- what these commands say is kept, and of the commands those that get a note, whatever comes after them
abbrev pub AreKept : Rig → List Said → GrantLines → Type 0
AreKept config said lines =
    (has_fact lines.facts ≡ is_said said) × ((more : List Said) → notes_kept config (is_said (said ++ more)) lines ≡ flat_map (note_on config (is_said (said ++ more))) said)
