-- The fields of a configuration: their words, their ranges, and what is reported about a fault.
use Rattle.std.specs.Prelude.{ℕ, Bool, true, ◌&&◌, nat_le, List, codes, Option, Some, None}
use Rattle.rig_config.specs.declared.faults.Field.{Field}
use Rattle.rig_config.specs.declared.faults.Field.TheVariants as field
use Rattle.rig_config.specs.declared.faults.FieldPlace.{FieldPlace}
use Rattle.rig_config.specs.declared.faults.ConfigFault.{ConfigFault}
use Rattle.rig_config.specs.declared.faults.ConfigFault.TheVariants.{NotToml, Missing, Range, Twice, Memory}

-- the word of a field
abbrev pub word_of : Field → List ℕ
word_of field.Version = codes "version"
word_of field.Lines = codes "lines"
word_of field.Tenant = codes "tenant"
word_of field.Name = codes "name"
word_of field.Key = codes "key"
word_of field.Reads = codes "reads"
word_of field.Writes = codes "writes"
word_of field.Bytes = codes "bytes"
word_of field.Ports = codes "ports"
word_of field.Tasks = codes "tasks"
word_of field.Modes = codes "modes"
word_of field.Steps = codes "steps"
word_of field.Trace = codes "trace"
word_of field.Offers = codes "offers"
word_of field.Binds = codes "binds"
word_of field.Low = codes "low"
word_of field.High = codes "high"

abbrev pub from_to : ℕ → ℕ → ℕ → Bool
from_to least greatest n = nat_le least n && nat_le n greatest

-- The range of a field: of its number, of the number of tenants, or of the length of a name or a key in bytes.
abbrev pub is_in_range : Field → ℕ → Bool
is_in_range field.Version n = from_to 1 2 n
is_in_range field.Lines n = from_to 1 64 n
is_in_range field.Tenant n = from_to 1 16 n
is_in_range field.Name n = from_to 1 32 n
is_in_range field.Key n = from_to 1 64 n
is_in_range field.Reads n = true
is_in_range field.Writes n = true
is_in_range field.Bytes n = from_to 1 16000 n
is_in_range field.Ports n = from_to 1 1024 n
is_in_range field.Tasks n = from_to 1 64 n
is_in_range field.Modes n = from_to 1 64 n
is_in_range field.Steps n = from_to 1 1000000 n
is_in_range field.Trace n = from_to 1 4096 n
is_in_range field.Offers n = from_to 1 64 n
is_in_range field.Binds n = from_to 1 64 n
is_in_range field.Low n = true
is_in_range field.High n = true

-- a field of the rig
abbrev pub rig_field : Field → FieldPlace
rig_field f = record { tenant = None; field = f }

-- a field of the tenant at a place
abbrev pub tenant_field : ℕ → Field → FieldPlace
tenant_field t f = record { tenant = Some t; field = f }

-- what is wrong, in one or two words
abbrev pub reason_of : ConfigFault → List ℕ
reason_of NotToml = codes "not toml"
reason_of (Missing at) = codes "missing"
reason_of (Range at) = codes "range"
reason_of (Twice f) = codes "twice"
reason_of Memory = codes "memory"

-- the field that is wrong, if the fault is in a field
abbrev pub field_of_fault : ConfigFault → Option Field
field_of_fault NotToml = None
field_of_fault (Missing at) = Some at.field
field_of_fault (Range at) = Some at.field
field_of_fault (Twice f) = Some f
field_of_fault Memory = None
