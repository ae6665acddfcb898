-- The values that sensors take: those of the lines that may be read, and granted values.
use Rattle.std.specs.Prelude.{ℕ, ◌==◌, if◌then◌else◌, ℤ, List, [], ◌∷◌, filter, Option, Some, None, unwrap_or}
use Rattle.std.specs.List.{enumerate_from}
use Rattle.giotto_tasks.specs.Names.{Valuation, value_at}
use Rattle.giotto_rules.specs.text.Program.{Source, from_line, from_grant, SensorDeclaration}
use Rattle.tenant_lines.specs.config.Roster.{may_use}

-- the input value of each line that the tenant may read
abbrev pub Readings : Type 0
Readings = List (ℕ × ℤ)

-- the value of a line, if the tenant has a reading of it
abbrev pub reading_of : Readings → ℕ → Option ℤ
reading_of [] k = None
reading_of (r ∷ rs) k = if r.0 == k then Some r.1 else reading_of rs k

-- the readings of those lines of a frame that may be read
abbrev pub readings_within : List ℕ → List ℤ → Readings
readings_within reads frame = filter (λ (r : ℕ × ℤ). may_use reads r.0) (enumerate_from 0 frame)

-- a sensor's reading: its line's value, or what is granted to it
abbrev pub reading_from : Readings → Valuation → SensorDeclaration → Source → Option ℤ
reading_from readings granted s (from_line k) = reading_of readings k
reading_from readings granted s from_grant = value_at granted s.name

-- what a sensor takes: its reading, or else its initial value
abbrev pub reading_taken : Readings → Valuation → SensorDeclaration → ℤ
reading_taken readings granted s = unwrap_or (reading_from readings granted s s.source) s.initial
