-- A code for programs: that of their parts, as tuples.
use Rattle.std.specs.Prelude.{◌≡◌, ℕ, ℤ, List, Option, Some, None, refl}
use Rattle.std.specs.Coded.{Coded, code_by, coded_list, coded_option, coded×, coded_ℕ, coded_ℤ}
use Rattle.giotto_tasks.specs.cited.Codes.{expression_code, block_code}
use Rattle.giotto_tasks.specs.Syntax.{Expression, Block}
use Rattle.giotto_tasks.specs.declared.names.Name.{Name}
use Rattle.giotto_text.specs.Program.{Source, from_line, from_grant, SensorDeclaration, ActuatorDeclaration, OutputDeclaration, TaskDeclaration, ActuatorUpdate, ModeSwitch, TaskInvocation, ModeDeclaration, GiottoProgram}

abbrev name_code : Coded Name
name_code = coded_list coded_ℕ

-- the line of a source, if it has one
abbrev line_of_source : Source → Option ℕ
line_of_source (from_line k) = Some k
line_of_source from_grant = None

abbrev source_of_line : Option ℕ → Source
source_of_line (Some k) = from_line k
source_of_line None = from_grant

pub source_again : (s : Source) → source_of_line (line_of_source s) ≡ s
source_again (from_line k) = refl
source_again from_grant = refl

abbrev source_code : Coded Source
source_code = code_by (Option ℕ) (coded_option coded_ℕ) line_of_source source_of_line source_again

abbrev sensor_code : Coded SensorDeclaration
sensor_code =
    code_by (Name × (ℤ × Source)) (coded× name_code (coded× coded_ℤ source_code))
    (λ s. (s.name, (s.initial, s.source)))
    (λ p. record { name = p.0; initial = p.1.0; source = p.1.1 })
    (λ _. refl)

abbrev actuator_code : Coded ActuatorDeclaration
actuator_code =
    code_by (Name × (ℤ × Option ℕ)) (coded× name_code (coded× coded_ℤ (coded_option coded_ℕ)))
    (λ a. (a.name, (a.initial, a.line)))
    (λ p. record { name = p.0; initial = p.1.0; line = p.1.1 })
    (λ _. refl)

abbrev output_code : Coded OutputDeclaration
output_code =
    code_by (Name × ℤ) (coded× name_code coded_ℤ)
    (λ o. (o.name, o.initial))
    (λ p. record { name = p.0; initial = p.1 })
    (λ _. refl)

abbrev task_code : Coded TaskDeclaration
task_code =
    code_by (Name × (List Name × (List Name × (List (Name × ℤ) × Block))))
    (coded× name_code (coded× (coded_list name_code) (coded× (coded_list name_code) (coded× (coded_list (coded× name_code coded_ℤ)) block_code))))
    (λ t. (t.name, (t.inputs, (t.outputs, (t.states, t.block)))))
    (λ p. record { name = p.0; inputs = p.1.0; outputs = p.1.1.0; states = p.1.1.1.0; block = p.1.1.1.1 })
    (λ _. refl)

abbrev update_code : Coded ActuatorUpdate
update_code =
    code_by (ℕ × (Option Expression × (Name × Expression))) (coded× coded_ℕ (coded× (coded_option expression_code) (coded× name_code expression_code)))
    (λ u. (u.frequency, (u.guard, (u.actuator, u.value))))
    (λ p. record { frequency = p.0; guard = p.1.0; actuator = p.1.1.0; value = p.1.1.1 })
    (λ _. refl)

abbrev switch_code : Coded ModeSwitch
switch_code =
    code_by (ℕ × (Option Expression × (Name × List (Name × Expression))))
    (coded× coded_ℕ (coded× (coded_option expression_code) (coded× name_code (coded_list (coded× name_code expression_code)))))
    (λ s. (s.frequency, (s.guard, (s.target, s.destinations))))
    (λ p. record { frequency = p.0; guard = p.1.0; target = p.1.1.0; destinations = p.1.1.1 })
    (λ _. refl)

abbrev invocation_code : Coded TaskInvocation
invocation_code =
    code_by (ℕ × (Option Expression × (Name × List Expression)))
    (coded× coded_ℕ (coded× (coded_option expression_code) (coded× name_code (coded_list expression_code))))
    (λ i. (i.frequency, (i.guard, (i.task, i.arguments))))
    (λ p. record { frequency = p.0; guard = p.1.0; task = p.1.1.0; arguments = p.1.1.1 })
    (λ _. refl)

abbrev mode_code : Coded ModeDeclaration
mode_code =
    code_by (Name × (ℕ × (List ActuatorUpdate × (List ModeSwitch × List TaskInvocation))))
    (coded× name_code (coded× coded_ℕ (coded× (coded_list update_code) (coded× (coded_list switch_code) (coded_list invocation_code)))))
    (λ m. (m.name, (m.period, (m.updates, (m.switches, m.invocations)))))
    (λ p. record { name = p.0; period = p.1.0; updates = p.1.1.0; switches = p.1.1.1.0; invocations = p.1.1.1.1 })
    (λ _. refl)

-- a code for programs
abbrev pub program_code : Coded GiottoProgram
program_code =
    code_by (List SensorDeclaration × (List ActuatorDeclaration × (List OutputDeclaration × (List TaskDeclaration × (List ModeDeclaration × Name)))))
    (coded× (coded_list sensor_code) (coded× (coded_list actuator_code) (coded× (coded_list output_code) (coded× (coded_list task_code) (coded× (coded_list mode_code) name_code)))))
    (λ p. (p.sensors, (p.actuators, (p.outputs, (p.tasks, (p.modes, p.start))))))
    (λ q. record { sensors = q.0; actuators = q.1.0; outputs = q.1.1.0; tasks = q.1.1.1.0; modes = q.1.1.1.1.0; start = q.1.1.1.1.1 })
    (λ _. refl)
