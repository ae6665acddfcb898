-- What is reported about a program that exceeds a budget of a tenant.
use Rattle.std.specs.Prelude.{◌≡◌, ℕ, nat_le, if◌then◌else◌, List, [], ◌∷◌, ◌++◌, length, map, option_map, Option, Some, None, codes, string_bytes}
use Rattle.std.specs.Fmt.{decimal}
use Rattle.std.specs.List.{flat_map}
use Rattle.giotto_faults.specs.declared.findings.Finding.{Finding}
use Rattle.giotto_faults.specs.declared.findings.Severity.{Severity}
use Rattle.giotto_faults.specs.declared.findings.Severity.TheVariants.{Error}
use Rattle.rig_model.specs.rules.Ports.{ports_of}
use Rattle.giotto_reports.specs.Parts.{ProgramPart, parts_of, steps_of_part, text_of_part}
use Rattle.rig_model.specs.text.Program.{Source, from_line, from_grant, SensorDeclaration, ActuatorDeclaration, GiottoProgram}
use Rattle.rig_model.specs.config.Roster.{may_use}
use Rattle.rig_model.specs.declared.config.TenantConfig.{TenantConfig}
use Rattle.rig_model.specs.lines.Replies.{word_of_budget}
use Rattle.rig_model.specs.declared.lines.replies.Budget.{Budget}
use Rattle.rig_model.specs.declared.lines.replies.Budget.TheVariants.{Bytes, Ports, Tasks, Modes, Steps, Lines, Offers, Binds}

module _ (tenant : TenantConfig) where
  -- "the program has HAS WHAT, and one of `TENANT` may have MAY"
  abbrev pub words_of_number : List ℕ → ℕ → ℕ → List ℕ
  words_of_number what has may = codes "the program has " ++ (decimal has ++ (codes " " ++ (what ++ (codes ", and one of `" ++ (tenant.name ++ (codes "` may have " ++ decimal may))))))

  -- "PART costs COST steps, and one of `TENANT` may cost MAY"
  abbrev pub words_of_cost : ProgramPart → List ℕ
  words_of_cost part = text_of_part part ++ (codes " costs " ++ (decimal (steps_of_part part) ++ (codes " steps, and one of `" ++ (tenant.name ++ (codes "` may cost " ++ decimal tenant.budgets.steps)))))

  -- the same, if the part costs more than the budget
  abbrev pub words_of_part : ProgramPart → List (List ℕ)
  words_of_part part = if nat_le (steps_of_part part) tenant.budgets.steps then [] else words_of_cost part ∷ []

  -- "WHAT line LINE, which `TENANT` may not ACT"
  abbrev pub words_of_line : List ℕ → ℕ → List ℕ → List ℕ
  words_of_line what line act = what ++ (codes " line " ++ (decimal line ++ (codes ", which `" ++ (tenant.name ++ (codes "` may not " ++ act)))))

  -- "the sensor `SENSOR` reads line LINE, which `TENANT` may not read", for a sensor that reads such a line
  abbrev pub words_of_sensor : SensorDeclaration → List (List ℕ)
  words_of_sensor s = by s.source
    where
      by : Source → List (List ℕ)
      by from_grant = []
      by (from_line line) = if may_use tenant.budgets.reads line then [] else words_of_line (codes "the sensor `" ++ (s.name ++ codes "` reads")) line (codes "read") ∷ []

  -- "the actuator `ACTUATOR` drives line LINE, which `TENANT` may not drive", for an actuator that drives such a line
  abbrev pub words_of_actuator : ActuatorDeclaration → List (List ℕ)
  words_of_actuator a = by a.line
    where
      by : Option ℕ → List (List ℕ)
      by None = []
      by (Some line) = if may_use tenant.budgets.writes line then [] else words_of_line (codes "the actuator `" ++ (a.name ++ codes "` drives")) line (codes "drive") ∷ []

  -- what is reported about a program whose text has this many bytes and that exceeds this budget: its number, or each part that
  -- costs more, or each line that the tenant may not use
  abbrev pub words_over : ℕ → GiottoProgram → Budget → List (List ℕ)
  words_over bytes p Bytes = words_of_number (codes "bytes") bytes tenant.budgets.bytes ∷ []
  words_over bytes p Ports = words_of_number (codes "ports") (length (ports_of p)) tenant.budgets.ports ∷ []
  words_over bytes p Tasks = words_of_number (codes "tasks") (length p.tasks) tenant.budgets.tasks ∷ []
  words_over bytes p Modes = words_of_number (codes "modes") (length p.modes) tenant.budgets.modes ∷ []
  words_over bytes p Steps = flat_map words_of_part (parts_of p)
  words_over bytes p Lines = flat_map words_of_sensor p.sensors ++ flat_map words_of_actuator p.actuators
  words_over bytes p Offers = []
  words_over bytes p Binds = []

-- "budget BUDGET: the host answers `err budget BUDGET`"
abbrev pub rule_of_budget : Budget → List ℕ
rule_of_budget budget = codes "budget " ++ (word_of_budget budget ++ (codes ": the host answers `err budget " ++ (word_of_budget budget ++ codes "`")))

-- the severity of a finding, its words and its rule
abbrev pub told_of : Finding → Severity × (List ℕ × Option (List ℕ))
told_of f = (f.severity, (string_bytes f.message, option_map string_bytes f.rule))

-- an error for each of these words, in their order; the first one names the budget
abbrev pub errors_over : Budget → List (List ℕ) → List (Severity × (List ℕ × Option (List ℕ)))
errors_over budget [] = []
errors_over budget (words ∷ others) = (Error, (words, Some (rule_of_budget budget))) ∷ map (λ (more : List ℕ). (Error, (more, None))) others

-- the findings report exactly these words about a budget
abbrev pub AreOver : Budget → List (List ℕ) → List Finding → Type 0
AreOver budget words findings = map told_of findings ≡ errors_over budget words
