-- Notes on keys that are easy to guess or that two tenants have, and on lines that one tenant may drive and another may read.
use Rattle.std.specs.Prelude.{◌≡◌, ℕ, ◌+◌, ◌==◌, Bool, if◌then◌else◌, List, [], ◌∷◌, ◌++◌, length, map, Option, Some, None, codes, string_bytes}
use Rattle.std.specs.Fmt.{decimal}
use Rattle.std.specs.List.{flat_map, position}
use Rattle.std.specs.Option.{option_to_list}
use Rattle.giotto_tasks.specs.Names.{same_name}
use Rattle.giotto_faults.specs.declared.findings.Finding.{Finding}
use Rattle.giotto_faults.specs.declared.findings.Severity.{Severity}
use Rattle.giotto_faults.specs.declared.findings.Severity.TheVariants.{Note}
use Rattle.rig_model.specs.config.Roster.{Rig, may_use, name_at}
use Rattle.rig_model.specs.declared.config.TenantConfig.{TenantConfig}

-- "the key of `NAME` is a single byte: it is easy to guess"
abbrev pub words_of_key : List ℕ → List ℕ
words_of_key name = codes "the key of `" ++ (name ++ codes "` is a single byte: it is easy to guess")

-- "the key of `NAME` is `hidden`, which `config` writes in place of keys: everybody can greet as `NAME`"
abbrev pub words_of_hidden : List ℕ → List ℕ
words_of_hidden name = codes "the key of `" ++ (name ++ (codes "` is `hidden`, which `config` writes in place of keys: everybody can greet as `" ++ (name ++ codes "`")))

-- whether a tenant's key is the word that copies of a configuration have in place of keys
abbrev pub is_hidden : TenantConfig → Bool
is_hidden tenant = same_name tenant.key (codes "hidden")

-- the note on a tenant's key, if it is a single byte or that word
abbrev pub note_of_key : TenantConfig → Option (List ℕ)
note_of_key tenant =
    if length tenant.key == 1 then Some (words_of_key tenant.name)
    else (if is_hidden tenant then Some (words_of_hidden tenant.name) else None)

-- "the tenants `FIRST` and `SECOND` have the same key: each can greet as the other"
abbrev pub words_of_shared : List ℕ → List ℕ → List ℕ
words_of_shared first second = codes "the tenants `" ++ (first ++ (codes "` and `" ++ (second ++ codes "` have the same key: each can greet as the other")))

-- the place of the first tenant with this key, if there is one
abbrev pub first_with_key : Rig → List ℕ → Option ℕ
first_with_key rig key = position (λ (t : TenantConfig). same_name t.key key) rig.tenants

-- the note on the key of the tenant at a place, if an earlier tenant has it too; a hidden key already has a note
abbrev pub note_of_shared : Rig → ℕ → TenantConfig → List (List ℕ)
note_of_shared rig place tenant = if is_hidden tenant then [] else by (first_with_key rig tenant.key)
  where
    by : Option ℕ → List (List ℕ)
    by None = []
    by (Some first) = if first == place then [] else words_of_shared (name_at rig first) tenant.name ∷ []

-- the place of the tenant that may drive a line, if there is one
abbrev pub driver_of : Rig → ℕ → Option ℕ
driver_of rig line = position (λ (t : TenantConfig). may_use t.budgets.writes line) rig.tenants

-- "line LINE is read by `READER` and driven by `DRIVER`: a plant may pass on what is driven"
abbrev pub words_of_line : ℕ → List ℕ → List ℕ → List ℕ
words_of_line line reader driver =
    codes "line " ++ (decimal line ++ (codes " is read by `" ++ (reader ++ (codes "` and driven by `" ++ (driver ++ codes "`: a plant may pass on what is driven")))))

-- the note on a line that the tenant at a place may read, if another tenant may drive it
abbrev pub note_of_line : Rig → ℕ → ℕ → List (List ℕ)
note_of_line rig reader line = by (driver_of rig line)
  where
    by : Option ℕ → List (List ℕ)
    by None = []
    by (Some driver) = if driver == reader then [] else words_of_line line (name_at rig reader) (name_at rig driver) ∷ []

-- the notes on a tenant of a rig, which has this place: on its key, and on the lines that it may read
abbrev pub notes_of_tenant : Rig → ℕ → TenantConfig → List (List ℕ)
notes_of_tenant rig place tenant = option_to_list (note_of_key tenant) ++ (note_of_shared rig place tenant ++ flat_map (note_of_line rig place) tenant.budgets.reads)

-- the notes on these tenants of a rig, the first of which has this place
abbrev pub notes_from : Rig → ℕ → List TenantConfig → List (List ℕ)
notes_from rig place [] = []
notes_from rig place (tenant ∷ others) = notes_of_tenant rig place tenant ++ notes_from rig (place + 1) others

-- the notes on a rig, tenant by tenant
abbrev pub notes_on : Rig → List (List ℕ)
notes_on rig = notes_from rig 0 rig.tenants

-- the severity of a finding, and its words
abbrev pub told_of : Finding → Severity × List ℕ
told_of f = (f.severity, string_bytes f.message)

abbrev pub as_note : List ℕ → Severity × List ℕ
as_note words = (Note, words)

-- a note for each of these words, in their order
abbrev pub AreNotes : List (List ℕ) → List Finding → Type 0
AreNotes words findings = map told_of findings ≡ map as_note words
