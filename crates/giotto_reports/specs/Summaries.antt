-- The summary of a program: a line for each of its parts, and what it has in all.
use Rattle.std.specs.Prelude.{ℕ, ◌-◌, ◌^◌, min, List, ◌++◌, ◌∷◌, [], length, Option, Some, None, codes}
use Rattle.std.specs.Fmt.{decimal}
use Rattle.std.specs.List.{flat_map}
use Rattle.giotto_breaks.specs.text.Program.{Source, from_line, from_grant, SensorDeclaration, ActuatorDeclaration, OutputDeclaration, TaskDeclaration, ModeDeclaration, GiottoProgram}
use Rattle.giotto_breaks.specs.rules.Costs.{greatest_cost_of}
use Rattle.giotto_breaks.specs.rules.Ports.{ports_of}
use Rattle.giotto_reports.specs.Parts.{ProgramPart, body, steps_of_part, parts_of, first_of_cost, text_of_part}

-- a line followed by its end
abbrev pub ended : List ℕ → List ℕ
ended line = line ++ 10 ∷ []

-- "reads line LINE", or what the sensor takes if it reads no line
abbrev pub text_of_source : Source → List ℕ
text_of_source (from_line line) = codes ": reads line " ++ decimal line
text_of_source from_grant = codes ": takes what is granted to it"

abbrev pub text_of_driven : Option ℕ → List ℕ
text_of_driven (Some line) = codes ": drives line " ++ decimal line
text_of_driven None = codes ": drives no line"

abbrev pub line_of_sensor : SensorDeclaration → List ℕ
line_of_sensor s = codes "sensor " ++ (s.name ++ text_of_source s.source)

abbrev pub line_of_actuator : ActuatorDeclaration → List ℕ
line_of_actuator a = codes "actuator " ++ (a.name ++ text_of_driven a.line)

abbrev pub line_of_output : OutputDeclaration → List ℕ
line_of_output o = codes "output " ++ o.name

abbrev pub line_of_task : TaskDeclaration → List ℕ
line_of_task t = codes "task " ++ (t.name ++ (codes ": costs " ++ decimal (steps_of_part (body t))))

abbrev pub line_of_mode : ModeDeclaration → List ℕ
line_of_mode m =
    codes "mode " ++ (m.name ++ (codes ": period " ++ (decimal m.period ++ (codes ", updates " ++ (decimal (length m.updates)
    ++ (codes ", switches " ++ (decimal (length m.switches) ++ (codes ", invocations " ++ decimal (length m.invocations)))))))))

abbrev pub line_of_ports : ℕ → List ℕ
line_of_ports ports = codes "ports: " ++ decimal ports

-- "greatest cost: COST, of PART"
abbrev pub line_of_dearest : ℕ → Option ProgramPart → List ℕ
line_of_dearest cost None = codes "greatest cost: " ++ decimal cost
line_of_dearest cost (Some part) = codes "greatest cost: " ++ (decimal cost ++ (codes ", of " ++ text_of_part part))

-- the greatest cost that is reported: the greatest number of 64 bits if the cost is more
abbrev pub steps_told : GiottoProgram → ℕ
steps_told p = min (greatest_cost_of p) (2 ^ 64 - 1)

-- the line of the part that costs most, or of the first such part
abbrev pub dearest_line : GiottoProgram → List ℕ
dearest_line p = line_of_dearest (steps_told p) (first_of_cost (steps_told p) (parts_of p))

-- a line for each sensor, actuator, output, task and mode, and at the end how many ports there are, and the part that costs most
abbrev pub summary_of : GiottoProgram → List ℕ
summary_of p =
    flat_map (λ s. ended (line_of_sensor s)) p.sensors ++ (flat_map (λ a. ended (line_of_actuator a)) p.actuators ++ (flat_map (λ o. ended (line_of_output o)) p.outputs
    ++ (flat_map (λ t. ended (line_of_task t)) p.tasks ++ (flat_map (λ m. ended (line_of_mode m)) p.modes ++ (ended (line_of_ports (length (ports_of p))) ++ ended (dearest_line p))))))
