-- The fault of a configuration, in words.
use Rattle.std.specs.Prelude.{◌≡◌, ℕ, ◌+◌, Bool, false, List, [], ◌∷◌, ◌++◌, Option, Some, None, IfSome, codes, string_bytes}
use Rattle.std.specs.Fmt.{decimal}
use Rattle.std.specs.List.{find, list_any}
use Rattle.std.specs.Option.{option_and_then}
use Rattle.std.specs.Ordering.{int_eq}
use Rattle.toml.specs.Data.{Data, Members, string, integer, float, boolean, datetime, array, table, Items, no_items, item, as_str, at, get}
use Rattle.toml.specs.Parse.{parse_document}
use Rattle.giotto_faults.specs.declared.findings.Finding.{Finding}
use Rattle.giotto_faults.specs.declared.findings.Severity.TheVariants.{Error}
use Rattle.program_checks.specs.faults.Findings.{BeginsWith}
use Rattle.giotto_tasks.specs.Names.{same_name}
use Rattle.rig_model.specs.config.Fields.{word_of}
use Rattle.rig_model.specs.config.Reading.{count_of}
use Rattle.rig_model.specs.declared.config.faults.ConfigFault.{ConfigFault}
use Rattle.rig_model.specs.declared.config.faults.ConfigFault.TheVariants.{NotToml, Missing, Range, Twice, Memory}
use Rattle.rig_model.specs.declared.config.faults.Field.{Field}
use Rattle.rig_model.specs.declared.config.faults.Field.TheVariants as field
use Rattle.rig_model.specs.declared.config.faults.FieldPlace.{FieldPlace}
use Rattle.config_checks.specs.Values.{IsValue}

-- the tenant at a place of a document, as it is written
abbrev pub tenant_at : Data → ℕ → Option Data
tenant_at document t = option_and_then (at t) (get (codes "tenant") document)

-- the name of the tenant at a place, if it has one
abbrev pub name_of : Data → ℕ → Option (List ℕ)
name_of document t = option_and_then as_str (option_and_then (get (codes "name")) (tenant_at document t))

-- whose field it is: "the rig", "the tenant `NAME`", or if it has no name, "tenant N, counted from 1,"
abbrev pub owner_of : Data → Option ℕ → List ℕ
owner_of document None = codes "the rig"
owner_of document (Some t) = by (name_of document t)
  where
    by : Option (List ℕ) → List ℕ
    by None = codes "tenant " ++ (decimal (t + 1) ++ codes ", counted from 1,")
    by (Some name) = codes "the tenant `" ++ (name ++ codes "`")

-- the value of a field, of the rig or of the tenant at a place
abbrev pub value_at : Data → FieldPlace → Option Data
value_at document place = by place.tenant
  where
    by : Option ℕ → Option Data
    by None = get (word_of place.field) document
    by (Some t) = option_and_then (get (word_of place.field)) (tenant_at document t)

-- how many tenants there are, if their field has an array; else its value
abbrev pub AreCounted : Data → List ℕ → Type 0
AreCounted (array values) text = text ≡ codes "an array of " ++ decimal (count_of values)
AreCounted (string s) text = IsValue (string s) text
AreCounted (integer z) text = IsValue (integer z) text
AreCounted (float x) text = IsValue (float x) text
AreCounted (boolean truth) text = IsValue (boolean truth) text
AreCounted (datetime moment) text = IsValue (datetime moment) text
AreCounted (table fields) text = IsValue (table fields) text

-- how the value of a field is reported: the tenants by their number
abbrev pub IsValueOf : Field → Data → List ℕ → Type 0
IsValueOf field.Tenant value text = AreCounted value text
IsValueOf _ value text = IsValue value text

abbrev pub list_of : Items → List Data
list_of no_items = []
list_of (item value others) = value ∷ list_of others

-- the values of an array; there are none for any other value
abbrev pub items_in : Data → List Data
items_in (array values) = list_of values
items_in _ = []

-- the tenants of a document
abbrev pub tenants_in : Data → List Data
tenants_in document = by (get (codes "tenant") document)
  where
    by : Option Data → List Data
    by None = []
    by (Some value) = items_in value

-- the values of a tenant's field: those of its array, or its single value
abbrev pub values_of : Data → List Data
values_of (array values) = list_of values
values_of (string s) = string s ∷ []
values_of (integer z) = integer z ∷ []
values_of (float x) = float x ∷ []
values_of (boolean truth) = boolean truth ∷ []
values_of (datetime moment) = datetime moment ∷ []
values_of (table fields) = table fields ∷ []

abbrev pub values_in : Field → Data → List Data
values_in f tenant = by (get (word_of f) tenant)
  where
    by : Option Data → List Data
    by None = []
    by (Some value) = values_of value

-- both are the same text or the same number
abbrev pub is_same : Data → Data → Bool
is_same (string s) (string t) = same_name s t
is_same (integer y) (integer z) = int_eq y z
is_same _ _ = false

-- one of these tenants has this value in this field
abbrev pub has_one : Field → List Data → Data → Bool
has_one f tenants value = list_any (λ tenant. list_any (is_same value) (values_in f tenant)) tenants

-- the first value that a tenant shares with an earlier one, if these tenants come before
abbrev pub shared_from : Field → List Data → List Data → Option Data
shared_from f before [] = None
shared_from f before (tenant ∷ others) = by (find (has_one f before) (values_in f tenant)) (shared_from f (before ++ tenant ∷ []) others)
  where
    by : Option Data → Option Data → Option Data
    by (Some value) later = Some value
    by None later = later

abbrev pub shared_in : Field → Data → Option Data
shared_in f document = shared_from f [] (tenants_in document)

-- two tenants have the same name, or may drive the same line
abbrev pub words_of_shared : Field → List ℕ → List ℕ
words_of_shared field.Name text = codes "two tenants have the name " ++ text
words_of_shared _ text = codes "two tenants may drive line " ++ text

-- these words report this fault of a document
abbrev pub IsFaultTold : Data → ConfigFault → List ℕ → Type 0
IsFaultTold document (Missing place) words = words ≡ owner_of document place.tenant ++ (codes " has no `" ++ (word_of place.field ++ codes "`"))
IsFaultTold document (Range place) words =
    (value : List ℕ) × IfSome (value_at document place) (λ d. IsValueOf place.field d value)
    × (words ≡ codes "`" ++ (word_of place.field ++ (codes "` of " ++ (owner_of document place.tenant ++ (codes " is " ++ value)))))
IsFaultTold document (Twice f) words = IfSome (shared_in f document) (λ d. (value : List ℕ) × IsValue d value × (words ≡ words_of_shared f value))
IsFaultTold document NotToml words = Unit {0}
IsFaultTold document Memory words = Unit {0}

-- an error that reports this fault of a text: "invalid TOML: .." if the text is not TOML, else by what its document has
abbrev pub TellsFault : List ℕ → ConfigFault → Finding → Type 0
TellsFault text fault f = (f.severity ≡ Error) × by (parse_document text)
  where
    by : Option Members → Type 0
    by None = BeginsWith (codes "invalid TOML: ") (string_bytes f.message)
    by (Some fields) = IsFaultTold (table fields) fault (string_bytes f.message)
