-- The grammar lines of sensors, actuators and outputs, and their parsers.
use Rattle.std.proofs.Common.{◌≡◌, ◌⊎◌, inl, inr, ℕ, true, false, ℤ, List, [], ◌∷◌, Option, Some, None, refl, sym, ◌∙◌, pos}
use Rattle.std.specs.Prelude.{◌||◌}
use Rattle.giotto_tasks.specs.declared.names.Name.{Name}
use Rattle.giotto_text.specs.declared.tokens.Keyword.{Keyword}
use Rattle.giotto_text.specs.declared.tokens.Keyword.TheVariants as keywords
use Rattle.giotto_text.specs.declared.tokens.Symbol.TheVariants as symbols
use Rattle.giotto_text.specs.declared.tokens.Token.{Token}
use Rattle.giotto_text.specs.declared.tokens.Token.TheVariants.{Keyword as Word, Symbol as Mark}
use Rattle.giotto_text.specs.Grammar.{Part, IsWritten, sensor, actuator, output, written_source, written_line, a_sensor as sensor_line, an_actuator as actuator_line, an_output as output_line}
use Rattle.giotto_text.specs.Parsing.{same_token, is_keyword, read_declaration, read_source, read_sensor, read_line, read_actuator, read_output}
use Rattle.giotto_text.specs.Program.{Source, from_line, from_grant, SensorDeclaration, ActuatorDeclaration, OutputDeclaration}
use Rattle.giotto_text.proofs.Forms.{Form, closed, one, mark, led, ended, both, either, optional, Fails, Begins, Repeats, Writes, first_token_is, line_writes, same_writes}
use Rattle.giotto_text.proofs.ParserSteps.{Parses, bind, mapped, parsed_as, either_parses, optional_parses}
use Rattle.giotto_text.proofs.ParserTokens.{a_name, an_int, begins_not, repeats_of, token_parses, led_parses, ended_parses, name_parses, int_parses}
use Rattle.giotto_text.proofs.cited.SameToken.{is_this}
use Rattle.giotto_text.proofs.ExpressionLines.{an_initial, initial_parses}

abbrev pub becomes : Token
becomes = Mark symbols.Becomes

abbrev pub semicolon : Token
semicolon = Mark symbols.Semicolon

-- a keyword, NAME ":=" init

abbrev a_declaration : Keyword → Form (Name × ℤ)
a_declaration k = led (Word k) (both a_name (led becomes an_initial))

declaration_parses : {n : ℕ} (k : Keyword) → Parses n (a_declaration k) (λ d. d) (read_declaration k)
declaration_parses k =
    led_parses (Word k) refl
    (bind _ (λ t. refl) name_parses
    (λ x. led_parses becomes refl
    (mapped _ initial_parses (λ v ts. refl))))

-- "line" INT | "grant"

abbrev line_token : Token
line_token = Word keywords.Line

abbrev grant_token : Token
grant_token = Word keywords.Grant

abbrev a_source : Form Source
a_source = record { parts = written_source; some = from_grant; goes_on = closed }

abbrev source_steps : Form (ℕ ⊎ Unit {0})
source_steps = either (led line_token an_int) (mark grant_token) closed

abbrev source_from : ℕ ⊎ Unit {0} → Source
source_from (inl k) = from_line k
source_from (inr u) = from_grant

source_parts : (v : ℕ ⊎ Unit {0}) → source_steps.parts v ≡ written_source (source_from v)
source_parts (inl k) = refl
source_parts (inr u) = refl

source_again : (s : Source) → (v : ℕ ⊎ Unit {0}) × (s ≡ source_from v)
source_again (from_line k) = (inl k, refl)
source_again from_grant = (inr tt, refl)

source_writes : Writes source_steps a_source source_from
source_writes = same_writes source_parts source_again (λ t e. e)

line_no_grant : (t : Token) → same_token line_token t ≡ true → (w : Unit {0}) → Fails closed t ((mark grant_token).parts w)
line_no_grant t e w us ps ex b = let no : line_token ≡ grant_token = sym (is_this line_token t e) ∙ first_token_is t grant_token us ps b in cc

source_parses : {n : ℕ} → Parses n a_source (λ s. s) read_source
source_parses =
    parsed_as source_writes
    (either_parses (λ t e. e) (λ t e. e) line_no_grant (begins_not line_token an_int closed)
    (led_parses line_token refl (mapped _ int_parses (λ v ts. refl)))
    (mapped _ (token_parses grant_token refl) (λ v ts. refl)))

-- sensor = "sensor" NAME ":=" init ("line" INT | "grant") ";"

abbrev pub sensor_token : Token
sensor_token = Word keywords.Sensor

abbrev pub a_sensor : Form SensorDeclaration
a_sensor = one sensor (record { name = []; initial = pos 0; source = from_grant })

abbrev sensor_steps : Form ((Name × ℤ) × Source)
sensor_steps = both (a_declaration keywords.Sensor) (ended a_source semicolon)

abbrev sensor_from : (Name × ℤ) × Source → SensorDeclaration
sensor_from p = record { name = p.0.0; initial = p.0.1; source = p.1 }

sensor_comes : {s : SensorDeclaration} {line : List Part} → IsWritten (sensor s) line → (v : (Name × ℤ) × Source) × (s ≡ sensor_from v) × (line ≡ sensor_steps.parts v)
sensor_comes (sensor_line {s = s}) = (((s.name, s.initial), s.source), refl, refl)

sensor_writes : Writes sensor_steps a_sensor sensor_from
sensor_writes = line_writes (λ w. refl) (λ v. sensor_line) (λ w line. sensor_comes) (λ t e. e)

pub sensor_parses : {n : ℕ} → Parses n a_sensor (λ s. s) read_sensor
sensor_parses =
    parsed_as sensor_writes
    (bind _ (λ t. refl) (declaration_parses keywords.Sensor)
    (λ d. ended_parses _ semicolon refl refl source_parses (λ v ts. refl)))

pub sensor_begins : Begins a_sensor sensor_token
sensor_begins t us s ps b = let h = sensor_writes.only s (t ∷ us) ps b in first_token_is t sensor_token us _ h.1

pub sensor_repeats : Repeats a_sensor (is_keyword keywords.Sensor)
sensor_repeats = repeats_of a_sensor sensor_token sensor_begins refl refl

-- ["line" INT]

abbrev a_line : Form (Option ℕ)
a_line = record { parts = written_line; some = None; goes_on = λ t. is_keyword keywords.Line t || false }

line_parts : (o : Option ℕ) → (optional (led line_token an_int) (is_keyword keywords.Line)).parts o ≡ written_line o
line_parts None = refl
line_parts (Some k) = refl

line_parses : {n : ℕ} → Parses n a_line (λ k. k) read_line
line_parses =
    parsed_as {F = optional (led line_token an_int) (is_keyword keywords.Line)} {h = λ k. k} (same_writes line_parts (λ w. (w, refl)) (λ t e. e))
    (optional_parses (begins_not line_token an_int a_line.goes_on) (led_parses line_token refl (mapped _ int_parses (λ v ts. refl))) (λ ts. refl))

-- actuator = "actuator" NAME ":=" init ["line" INT] ";"

abbrev pub actuator_token : Token
actuator_token = Word keywords.Actuator

abbrev pub an_actuator : Form ActuatorDeclaration
an_actuator = one actuator (record { name = []; initial = pos 0; line = None })

abbrev actuator_steps : Form ((Name × ℤ) × Option ℕ)
actuator_steps = both (a_declaration keywords.Actuator) (ended a_line semicolon)

abbrev actuator_from : (Name × ℤ) × Option ℕ → ActuatorDeclaration
actuator_from p = record { name = p.0.0; initial = p.0.1; line = p.1 }

actuator_comes : {a : ActuatorDeclaration} {line : List Part} → IsWritten (actuator a) line → (v : (Name × ℤ) × Option ℕ) × (a ≡ actuator_from v) × (line ≡ actuator_steps.parts v)
actuator_comes (actuator_line {a = a}) = (((a.name, a.initial), a.line), refl, refl)

actuator_writes : Writes actuator_steps an_actuator actuator_from
actuator_writes = line_writes (λ w. refl) (λ v. actuator_line) (λ w line. actuator_comes) (λ t e. e)

pub actuator_parses : {n : ℕ} → Parses n an_actuator (λ a. a) read_actuator
actuator_parses =
    parsed_as actuator_writes
    (bind _ (λ t. refl) (declaration_parses keywords.Actuator)
    (λ d. ended_parses _ semicolon refl refl line_parses (λ v ts. refl)))

pub actuator_begins : Begins an_actuator actuator_token
actuator_begins t us a ps b = let h = actuator_writes.only a (t ∷ us) ps b in first_token_is t actuator_token us _ h.1

pub actuator_repeats : Repeats an_actuator (is_keyword keywords.Actuator)
actuator_repeats = repeats_of an_actuator actuator_token actuator_begins refl refl

-- output = "output" NAME ":=" init ";"

abbrev pub output_token : Token
output_token = Word keywords.Output

abbrev pub an_output : Form OutputDeclaration
an_output = one output (record { name = []; initial = pos 0 })

abbrev output_from : Name × ℤ → OutputDeclaration
output_from p = record { name = p.0; initial = p.1 }

output_comes : {o : OutputDeclaration} {line : List Part} → IsWritten (output o) line → (v : Name × ℤ) × (o ≡ output_from v) × (line ≡ (ended (a_declaration keywords.Output) semicolon).parts v)
output_comes (output_line {o = o}) = ((o.name, o.initial), refl, refl)

output_writes : Writes (ended (a_declaration keywords.Output) semicolon) an_output output_from
output_writes = line_writes (λ w. refl) (λ v. output_line) (λ w line. output_comes) (λ t e. e)

pub output_parses : {n : ℕ} → Parses n an_output (λ o. o) read_output
output_parses = parsed_as output_writes (ended_parses _ semicolon refl refl (declaration_parses keywords.Output) (λ v ts. refl))

pub output_begins : Begins an_output output_token
output_begins t us o ps b = let h = output_writes.only o (t ∷ us) ps b in first_token_is t output_token us _ h.1

pub output_repeats : Repeats an_output (is_keyword keywords.Output)
output_repeats = repeats_of an_output output_token output_begins refl refl
