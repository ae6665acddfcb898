-- Notes on offers and binds of a script that grant nothing in it.
use Rattle.std.specs.Prelude.{◌≡◌, ℕ, ◌+◌, ◌==◌, Bool, false, not, ◌&&◌, if◌then◌else◌, List, [], ◌∷◌, ◌++◌, map, Option, Some, None, Result, Ok, Err, codes, string_bytes}
use Rattle.std.specs.List.{flat_map, list_any}
use Rattle.giotto_faults.specs.declared.findings.Finding.{Finding}
use Rattle.giotto_faults.specs.declared.findings.Severity.{Severity}
use Rattle.giotto_faults.specs.declared.findings.Severity.TheVariants.{Note}
use Rattle.giotto_faults.specs.declared.places.Place.{Place}
use Rattle.giotto_tasks.specs.declared.names.Name.{Name}
use Rattle.giotto_tasks.specs.Names.{same_name}
use Rattle.rig_model.specs.text.Program.{Source, from_line, from_grant, SensorDeclaration, ActuatorDeclaration, GiottoProgram}
use Rattle.rig_model.specs.config.Roster.{Rig, name_at, place_of}
use Rattle.rig_model.specs.Admission.{program_of}
use Rattle.rig_model.specs.Script.{speaker_of}
use Rattle.rig_model.specs.TextLines.{text_of_line}
use Rattle.rig_model.specs.declared.speakers.Speaker.{Speaker}
use Rattle.rig_model.specs.declared.speakers.Speaker.TheVariants.{Nobody, Operator, Tenant, Unknown}
use Rattle.rig_model.specs.lines.CommandLine.{command_of_line}
use Rattle.rig_model.specs.lines.Words.{behind_first_word}
use Rattle.rig_model.specs.declared.lines.commands.Command.{Command}
use Rattle.rig_model.specs.declared.lines.commands.Command.TheVariants as command
use Rattle.rig_model.specs.declared.lines.grant_lines.GrantCommand.{GrantCommand}
use Rattle.rig_model.specs.declared.lines.grant_lines.GrantCommand.TheVariants.{Offer, Unoffer, Bind, Unbind, Rows}
use Rattle.rig_model.specs.declared.lines.replies.Refusal.{Refusal}
use Rattle.script_checks.specs.LineTexts.{offset_of_word, place_in, text_or_none}
use Rattle.script_checks.specs.declared.binds.Said.{Said}
use Rattle.script_checks.specs.declared.binds.What.{What}
use Rattle.script_checks.specs.declared.binds.What.TheVariants.{Program, Grants}
use Rattle.script_checks.specs.declared.facts.Fact.{Fact}
use Rattle.script_checks.specs.declared.facts.Fact.TheVariants.{GrantSensor, LineSensor, Actuator, Offered}

-- the well-formed program that a text spells, if it spells one
abbrev pub loaded : List ℕ → Option What
loaded text = by (program_of text)
  where
    by : Result GiottoProgram Refusal → Option What
    by (Ok p) = Some (Program p)
    by (Err refusal) = None

-- what a tenant's command has to do with grants: it loads a program, or is about grants
abbrev pub what_of : Option Command → Option What
what_of None = None
what_of (Some (command.Load text)) = loaded text
what_of (Some (command.Replace text)) = loaded text
what_of (Some (command.Grants grants)) = Some (Grants grants)
what_of (Some command.Start) = None
what_of (Some command.Stop) = None
what_of (Some command.ShowMode) = None
what_of (Some (command.ShowPort port)) = None
what_of (Some command.ShowAll) = None
what_of (Some command.Trace) = None

-- where a note on a line with this number is shown: at the command, after the speaker
abbrev pub place_of_note : ℕ → List ℕ → Place
place_of_note number line = place_in number line (offset_of_word (text_or_none line) (behind_first_word (text_or_none line)))

-- the command of a line with this number, if it is a tenant's and has to do with grants
abbrev pub said_in_line : Rig → ℕ → List ℕ → List Said
said_in_line config number line = by_text (text_of_line line)
  where
    by_what : ℕ → Option What → List Said
    by_what t None = []
    by_what t (Some what) = record { tenant = t; place = place_of_note number line; what = what } ∷ []

    by_speaker : List ℕ → Speaker → List Said
    by_speaker text (Tenant t) = by_what t (what_of (command_of_line (behind_first_word text)))
    by_speaker text Nobody = []
    by_speaker text Operator = []
    by_speaker text Unknown = []

    by_text : Option (List ℕ) → List Said
    by_text None = []
    by_text (Some text) = by_speaker text (speaker_of config text)

-- the commands of these lines, the first of which has this number
abbrev pub said_from : Rig → ℕ → List (List ℕ) → List Said
said_from config number [] = []
said_from config number (line ∷ lines) = said_in_line config number line ++ said_from config (number + 1) lines

-- what the declaration of a port says, in a program of the tenant at a place
abbrev pub fact_of_sensor : ℕ → SensorDeclaration → Fact
fact_of_sensor t s = by s.source
  where
    by : Source → Fact
    by from_grant = GrantSensor t s.name
    by (from_line k) = LineSensor t s.name

abbrev pub fact_of_actuator : ℕ → ActuatorDeclaration → Fact
fact_of_actuator t a = Actuator t a.name

-- what a command of the tenant at a place says about ports
abbrev pub facts_of : ℕ → What → List Fact
facts_of t (Program p) = map (fact_of_sensor t) p.sensors ++ map (fact_of_actuator t) p.actuators
facts_of t (Grants (Offer actuator to bounds)) = Offered t actuator to ∷ []
facts_of t (Grants (Unoffer actuator to)) = []
facts_of t (Grants (Bind sensor to actuator)) = []
facts_of t (Grants (Unbind sensor)) = []
facts_of t (Grants Rows) = []

abbrev pub same_fact : Fact → Fact → Bool
same_fact (GrantSensor t n) (GrantSensor u m) = (t == u) && same_name n m
same_fact (GrantSensor t n) (LineSensor u m) = false
same_fact (GrantSensor t n) (Actuator u m) = false
same_fact (GrantSensor t n) (Offered u m to) = false
same_fact (LineSensor t n) (GrantSensor u m) = false
same_fact (LineSensor t n) (LineSensor u m) = (t == u) && same_name n m
same_fact (LineSensor t n) (Actuator u m) = false
same_fact (LineSensor t n) (Offered u m to) = false
same_fact (Actuator t n) (GrantSensor u m) = false
same_fact (Actuator t n) (LineSensor u m) = false
same_fact (Actuator t n) (Actuator u m) = (t == u) && same_name n m
same_fact (Actuator t n) (Offered u m to) = false
same_fact (Offered t n to) (GrantSensor u m) = false
same_fact (Offered t n to) (LineSensor u m) = false
same_fact (Offered t n to) (Actuator u m) = false
same_fact (Offered t n to) (Offered u m other) = (t == u) && (same_name n m && same_name to other)

-- one of these commands says this
abbrev pub is_said : List Said → Fact → Bool
is_said said fact = list_any (same_fact fact) (flat_map (λ (one : Said). facts_of one.tenant one.what) said)

-- "no tenant has the name `NAME`, so nothing is granted"
abbrev pub words_of_nobody : Name → List ℕ
words_of_nobody name = codes "no tenant has the name `" ++ (name ++ codes "`, so nothing is granted")

-- the note on a bind's sensor, if the commands say what is given: that the tenant's programs read it from a line, or have no
-- sensor with that name
abbrev pub note_of_sensor : (Fact → Bool) → ℕ → Name → Option (List ℕ)
note_of_sensor given t sensor =
    if given (GrantSensor t sensor) then None
    else if given (LineSensor t sensor)
    then Some (codes "the sensor `" ++ (sensor ++ codes "` reads a rig line, so nothing is granted to it; declare it with `grant`"))
    else Some (codes "no program that this tenant loads here has a sensor `" ++ (sensor ++ codes "`"))

-- "no program that `SUPPLIER` loads here has an actuator `NAME`"
abbrev pub words_of_no_actuator : Name → Name → List ℕ
words_of_no_actuator supplier name = codes "no program that `" ++ (supplier ++ (codes "` loads here has an actuator `" ++ (name ++ codes "`")))

-- "`SUPPLIER` doesn't offer `NAME` to `TENANT` here"
abbrev pub words_of_no_offer : Name → Name → Name → List ℕ
words_of_no_offer supplier name to = codes "`" ++ (supplier ++ (codes "` doesn't offer `" ++ (name ++ (codes "` to `" ++ (to ++ codes "` here")))))

-- the note on a bind's supplier, which is at this place: that its programs have no such actuator, or that it doesn't offer it
abbrev pub note_of_supplier : Rig → (Fact → Bool) → ℕ → ℕ → Name → Option (List ℕ)
note_of_supplier config given t supplier actuator =
    if not (given (Actuator supplier actuator)) then Some (words_of_no_actuator (name_at config supplier) actuator)
    else if not (given (Offered supplier actuator (name_at config t))) then Some (words_of_no_offer (name_at config supplier) actuator (name_at config t))
    else None

-- the first of two notes
abbrev pub first_of : Option (List ℕ) → Option (List ℕ) → Option (List ℕ)
first_of (Some note) other = Some note
first_of None other = other

-- the note on an offer to the tenant with this name, which is at this place
abbrev pub note_of_offer : Name → Option ℕ → Option (List ℕ)
note_of_offer name None = Some (words_of_nobody name)
note_of_offer name (Some place) = None

-- the note on the bind of a tenant's sensor to an actuator of the tenant with this name, which is at this place
abbrev pub note_of_bind : Rig → (Fact → Bool) → ℕ → Name → Name → Name → Option ℕ → Option (List ℕ)
note_of_bind config given t sensor name actuator None = Some (words_of_nobody name)
note_of_bind config given t sensor name actuator (Some supplier) = first_of (note_of_sensor given t sensor) (note_of_supplier config given t supplier actuator)

-- the note on a command of a script whose commands say what is given: on an offer to a tenant that doesn't exist, or on a bind
-- that never grants anything
abbrev pub note_of : Rig → (Fact → Bool) → Said → Option (List ℕ)
note_of config given one = by one.what
  where
    by_grants : GrantCommand → Option (List ℕ)
    by_grants (Offer actuator name bounds) = note_of_offer name (place_of config name)
    by_grants (Bind sensor name actuator) = note_of_bind config given one.tenant sensor name actuator (place_of config name)
    by_grants (Unoffer actuator name) = None
    by_grants (Unbind sensor) = None
    by_grants Rows = None

    by : What → Option (List ℕ)
    by (Program p) = None
    by (Grants grants) = by_grants grants

-- a place, the severity of what is reported there, and its words
abbrev pub Told : Type 0
Told = Place × (Severity × List ℕ)

-- a finding at its place
abbrev pub told_at : Place × Finding → Told
told_at found = (found.0, (found.1.severity, string_bytes found.1.message))

-- the note on a command at its place, if there is one
abbrev pub note_on : Rig → (Fact → Bool) → Said → List Told
note_on config given one = by (note_of config given one)
  where
    by : Option (List ℕ) → List Told
    by None = []
    by (Some words) = (one.place, (Note, words)) ∷ []

-- the notes on these commands, in their order
abbrev pub notes_on : Rig → List Said → List Told
notes_on config said = flat_map (note_on config (is_said said)) said

-- the notes on offers and binds of a script of these lines, in their order
abbrev pub notes_of : Rig → List (List ℕ) → List Told
notes_of config lines = notes_on config (said_from config 1 lines)

-- the findings report exactly these
abbrev pub AreNotes : List Told → List (Place × Finding) → Type 0
AreNotes told findings = map told_at findings ≡ told
