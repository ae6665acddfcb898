-- How a text is read as a configuration, or as its first fault.
use Rattle.std.specs.Prelude.{ℕ, suc, ◌+◌, pos, Bool, true, not, ◌&&◌, ◌==◌, if◌then◌else◌, nat_lt, List, [], ◌∷◌, map, Option, Some, None, option_map, is_some, Result, Ok, Err}
use Rattle.std.specs.Bool.{then_some}
use Rattle.std.specs.Option.{option_and_then, ok_or, option_map_or}
use Rattle.toml.specs.Data.{Data, integer, Items, no_items, item, Members, as_integer, as_str, as_array, as_table, get_member}
use Rattle.toml.specs.Parse.{parse_document}
use Rattle.giotto_tasks.specs.Sound.{all_different}
use Rattle.rig_config.specs.Fields.{is_in_range, rig_field, tenant_field, word_of}
use Rattle.rig_config.specs.Intervals.{Interval, from_to, whole}
use Rattle.rig_config.specs.Ranges.{all_drive_apart, is_key, is_tenant_name}
use Rattle.rig_config.specs.declared.Config.{Config}
use Rattle.rig_config.specs.declared.Budgets.{Budgets}
use Rattle.rig_config.specs.declared.TenantConfig.{TenantConfig}
use Rattle.rig_config.specs.declared.faults.Field.{Field}
use Rattle.rig_config.specs.declared.faults.Field.TheVariants as field
use Rattle.rig_config.specs.declared.faults.FieldPlace.{FieldPlace}
use Rattle.rig_config.specs.declared.faults.ConfigFault.{ConfigFault}
use Rattle.rig_config.specs.declared.faults.ConfigFault.TheVariants.{NotToml, Missing, Range, Twice}

infixl 10 ◌>>=◌
abbrev pub ◌>>=◌ : {A B : Type 0} → Result A ConfigFault → (A → Result B ConfigFault) → Result B ConfigFault
(Ok x) >>= f = f x
(Err fault) >>= f = Err fault

-- the value, if it passes the test
abbrev pub only : {A : Type 0} → (A → Bool) → Option A → Option A
only test found = option_and_then (λ x. then_some (test x) x) found

-- a value as a whole number
abbrev pub whole_in : Data → Option ℕ
whole_in (integer (pos n)) = Some n
whole_in _ = None

-- a value as a number, a name or a key, within its range
abbrev pub number_in : Field → Data → Option ℕ
number_in f value = only (is_in_range f) (whole_in value)

abbrev pub tenant_name_in : Data → Option (List ℕ)
tenant_name_in value = only is_tenant_name (as_str value)

abbrev pub key_in : Data → Option (List ℕ)
key_in value = only is_key (as_str value)

-- a value as the number of a line, in a rig with this many lines
abbrev pub line_in : ℕ → Data → Option ℕ
line_in lines value = only (λ k. nat_lt k lines) (whole_in value)

-- the numbers of lines in an array
abbrev pub line_numbers : ℕ → Items → Option (List ℕ)
line_numbers lines no_items = Some []
line_numbers lines (item value others) =
    option_and_then (λ k. option_map (λ ks. k ∷ ks) (line_numbers lines others)) (line_in lines value)

abbrev pub lines_in : ℕ → Data → Option (List ℕ)
lines_in lines value = option_and_then (line_numbers lines) (as_array value)

abbrev pub count_of : Items → ℕ
count_of no_items = 0
count_of (item value others) = suc (count_of others)

abbrev pub are_tables : Items → Bool
are_tables no_items = true
are_tables (item value others) = is_some (as_table value) && are_tables others

-- the tenants' tables: an array of 1 to 16 tables
abbrev pub tables_in : Data → Option Items
tables_in value = only (λ tables. is_in_range field.Tenant (count_of tables) && are_tables tables) (as_array value)

-- the value of a field
abbrev pub value_of : FieldPlace → Members → Result Data ConfigFault
value_of at fields = ok_or (get_member (word_of at.field) fields) (Missing at)

-- What a field is read as: what its value is accepted as, or a fault if the field is missing or its value isn't accepted.
abbrev pub read : {A : Type 0} → (Data → Option A) → FieldPlace → Members → Result A ConfigFault
read accepts at fields = do
  value ← value_of at fields
  ok_or (accepts value) (Range at)

-- a field that is a number
abbrev pub number : FieldPlace → Members → Result ℕ ConfigFault
number at fields = read (number_in at.field) at fields

-- the bounds of the tenant at a place: its least value, and its greatest, which isn't below the least
abbrev pub bounds_read : ℕ → Members → Result Interval ConfigFault
bounds_read t fields = do
  low ← read as_integer (tenant_field t field.Low) fields
  high ← read as_integer (tenant_field t field.High) fields
  ok_or (from_to low high) (Range (tenant_field t field.High))

-- The bounds of the tenant at a place, in this version of the format. In version 1, all values are within them.
abbrev pub bounds_of : ℕ → ℕ → Members → Result Interval ConfigFault
bounds_of version t fields = if version == 1 then Ok whole else bounds_read t fields

-- the budgets of the tenant at a place of a rig with this many lines, in this version of the format: their fields in their order
unfoldable pub budgets_of : ℕ → ℕ → ℕ → Members → Result Budgets ConfigFault
budgets_of version lines t fields = do
  reads ← read (lines_in lines) (tenant_field t field.Reads) fields
  writes ← read (lines_in lines) (tenant_field t field.Writes) fields
  bytes ← number (tenant_field t field.Bytes) fields
  ports ← number (tenant_field t field.Ports) fields
  tasks ← number (tenant_field t field.Tasks) fields
  modes ← number (tenant_field t field.Modes) fields
  steps ← number (tenant_field t field.Steps) fields
  trace ← number (tenant_field t field.Trace) fields
  offers ← number (tenant_field t field.Offers) fields
  binds ← number (tenant_field t field.Binds) fields
  bounds ← bounds_of version t fields
  Ok (record {
    reads = reads;
    writes = writes;
    bytes = bytes;
    ports = ports;
    tasks = tasks;
    modes = modes;
    steps = steps;
    trace = trace;
    offers = offers;
    binds = binds;
    bounds = bounds;
  })

-- the tenant at a place of a rig with this many lines: its name, its key, its budgets
unfoldable pub tenant_of : ℕ → ℕ → ℕ → Members → Result TenantConfig ConfigFault
tenant_of version lines t fields = do
  name ← read tenant_name_in (tenant_field t field.Name) fields
  key ← read key_in (tenant_field t field.Key) fields
  budgets ← budgets_of version lines t fields
  Ok (record { name = name; key = key; budgets = budgets })

-- the fields of one of the tenants' tables
abbrev pub fields_in : Data → Result Members ConfigFault
fields_in value = ok_or (as_table value) (Range (rig_field field.Tenant))

-- the tenants from a place on, one after the other
abbrev pub tenants_from : ℕ → ℕ → ℕ → Items → Result (List TenantConfig) ConfigFault
tenants_from version lines t no_items = Ok []
tenants_from version lines t (item value others) = do
  fields ← fields_in value
  tenant ← tenant_of version lines t fields
  tenants ← tenants_from version lines (t + 1) others
  Ok (tenant ∷ tenants)

-- a rig of these tenants, if their names are different and no line may be driven by two of them
abbrev pub rig_with : ℕ → List TenantConfig → Result Config ConfigFault
rig_with lines tenants =
    if not (all_different (map (λ (t : TenantConfig). t.name) tenants)) then Err (Twice field.Name)
    else if not (all_drive_apart tenants) then Err (Twice field.Writes)
    else Ok (record { lines = lines; tenants = tenants })

-- the rig that a document's fields describe
unfoldable pub rig_of : Members → Result Config ConfigFault
rig_of fields = do
  version ← number (rig_field field.Version) fields
  lines ← number (rig_field field.Lines) fields
  tables ← read tables_in (rig_field field.Tenant) fields
  tenants ← tenants_from version lines 0 tables
  rig_with lines tenants

-- The configuration that a text describes, or the first fault in the order of the checks.
abbrev pub config_of : List ℕ → Result Config ConfigFault
config_of text = option_map_or rig_of (parse_document text) (Err NotToml)
