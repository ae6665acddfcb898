-- The grammar line of a program, and its parser.
use Rattle.std.proofs.Common.{◌≡◌, ℕ, false, List, [], refl}
use Rattle.giotto_tasks.specs.declared.names.Name.{Name}
use Rattle.giotto_text.specs.declared.tokens.Keyword.TheVariants as keywords
use Rattle.giotto_text.specs.declared.tokens.Token.{Token}
use Rattle.giotto_text.specs.declared.tokens.Token.TheVariants.{Keyword as Word}
use Rattle.giotto_text.specs.Grammar.{Part, IsWritten, sensor, actuator, output, task, mode, program, a_program as program_line}
use Rattle.giotto_text.specs.Parsing.{is_keyword, read_start, read_program}
use Rattle.giotto_text.specs.Program.{SensorDeclaration, ActuatorDeclaration, OutputDeclaration, TaskDeclaration, ModeDeclaration, GiottoProgram}
use Rattle.giotto_text.proofs.Forms.{Form, one, led, ended, both, AreApart, Writes, led_begins, apart_first, apart_both, line_writes}
use Rattle.giotto_text.proofs.ParserSteps.{Parses, bind_apart, mapped, parsed_as}
use Rattle.giotto_text.proofs.ParserTokens.{a_name, led_parses, ended_parses, name_parses}
use Rattle.giotto_text.proofs.ListLines.{any, any_parses, any_begins}
use Rattle.giotto_text.proofs.DeclarationLines.{semicolon, sensor_repeats, sensor_parses, an_actuator, actuator_token, actuator_begins, actuator_repeats, actuator_parses, an_output, output_token, output_begins, output_repeats, output_parses}
use Rattle.giotto_text.proofs.TaskLines.{a_task, task_token, task_begins, task_repeats, task_parses}
use Rattle.giotto_text.proofs.ModeLines.{a_mode, mode_token, mode_begins, mode_repeats, mode_parses}

-- "start" NAME ";"

abbrev start_token : Token
start_token = Word keywords.Start

abbrev a_start : Form Name
a_start = led start_token (ended a_name semicolon)

start_parses : {n : ℕ} → Parses n a_start (λ x. x) read_start
start_parses = led_parses start_token refl (ended_parses _ semicolon refl refl name_parses (λ v ts. refl))

-- program = {sensor} {actuator} {output} {task} {mode} "start" NAME ";"

abbrev pub a_program : Form GiottoProgram
a_program = one program (record { sensors = []; actuators = []; outputs = []; tasks = []; modes = []; start = [] })

abbrev from_modes : Form (List ModeDeclaration × Name)
from_modes = both (any mode (is_keyword keywords.Mode)) a_start

abbrev from_tasks : Form (List TaskDeclaration × (List ModeDeclaration × Name))
from_tasks = both (any task (is_keyword keywords.Task)) from_modes

abbrev from_outputs : Form (List OutputDeclaration × (List TaskDeclaration × (List ModeDeclaration × Name)))
from_outputs = both (any output (is_keyword keywords.Output)) from_tasks

abbrev from_actuators : Form (List ActuatorDeclaration × (List OutputDeclaration × (List TaskDeclaration × (List ModeDeclaration × Name))))
from_actuators = both (any actuator (is_keyword keywords.Actuator)) from_outputs

abbrev ProgramParts : Type 0
ProgramParts = List SensorDeclaration × (List ActuatorDeclaration × (List OutputDeclaration × (List TaskDeclaration × (List ModeDeclaration × Name))))

abbrev program_steps : Form ProgramParts
program_steps = both (any sensor (is_keyword keywords.Sensor)) from_actuators

abbrev program_from : ProgramParts → GiottoProgram
program_from p = record { sensors = p.0; actuators = p.1.0; outputs = p.1.1.0; tasks = p.1.1.1.0; modes = p.1.1.1.1.0; start = p.1.1.1.1.1 }

program_comes : {p : GiottoProgram} {line : List Part} → IsWritten (program p) line → (v : ProgramParts) × (p ≡ program_from v) × (line ≡ program_steps.parts v)
program_comes (program_line {p = p}) = ((p.sensors, (p.actuators, (p.outputs, (p.tasks, (p.modes, p.start))))), refl, refl)

program_writes : Writes program_steps a_program program_from
program_writes = line_writes (λ w. refl) (λ v. program_line) (λ w line. program_comes) (λ t e. e)

-- a list of parts that continues with none of the tokens with which the rest begins
before_start : {V : Type 0} (F : Form V) → F.goes_on start_token ≡ false → AreApart F a_start
before_start F off = apart_first F a_start start_token (led_begins start_token (ended a_name semicolon)) off

before_modes : {V : Type 0} (F : Form V) → F.goes_on mode_token ≡ false → F.goes_on start_token ≡ false → AreApart F from_modes
before_modes F modes start = apart_both F (any mode (is_keyword keywords.Mode)) a_start mode_token (any_begins mode a_mode.some (is_keyword keywords.Mode) mode_token mode_begins) modes (before_start F start)

before_tasks : {V : Type 0} (F : Form V) → F.goes_on task_token ≡ false → F.goes_on mode_token ≡ false → F.goes_on start_token ≡ false → AreApart F from_tasks
before_tasks F tasks modes start = apart_both F (any task (is_keyword keywords.Task)) from_modes task_token (any_begins task a_task.some (is_keyword keywords.Task) task_token task_begins) tasks (before_modes F modes start)

before_outputs : {V : Type 0} (F : Form V) → F.goes_on output_token ≡ false → F.goes_on task_token ≡ false → F.goes_on mode_token ≡ false → F.goes_on start_token ≡ false → AreApart F from_outputs
before_outputs F outputs tasks modes start =
    apart_both F (any output (is_keyword keywords.Output)) from_tasks output_token (any_begins output an_output.some (is_keyword keywords.Output) output_token output_begins) outputs (before_tasks F tasks modes start)

sensors_apart : AreApart (any sensor (is_keyword keywords.Sensor)) from_actuators
sensors_apart =
    let sensors = any sensor (is_keyword keywords.Sensor) in
    apart_both sensors (any actuator (is_keyword keywords.Actuator)) from_outputs actuator_token (any_begins actuator an_actuator.some (is_keyword keywords.Actuator) actuator_token actuator_begins) refl
    (before_outputs sensors refl refl refl refl)

pub program_parses : {n : ℕ} → Parses n a_program (λ p. p) read_program
program_parses =
    parsed_as program_writes
    (bind_apart _ sensors_apart (any_parses (is_keyword keywords.Sensor) sensor_repeats sensor_parses)
    (λ ss. bind_apart _ (before_outputs (any actuator (is_keyword keywords.Actuator)) refl refl refl refl) (any_parses (is_keyword keywords.Actuator) actuator_repeats actuator_parses)
    (λ as'. bind_apart _ (before_tasks (any output (is_keyword keywords.Output)) refl refl refl) (any_parses (is_keyword keywords.Output) output_repeats output_parses)
    (λ os. bind_apart _ (before_modes (any task (is_keyword keywords.Task)) refl refl) (any_parses (is_keyword keywords.Task) task_repeats task_parses)
    (λ ds. bind_apart _ (before_start (any mode (is_keyword keywords.Mode)) refl) (any_parses (is_keyword keywords.Mode) mode_repeats mode_parses)
    (λ ms. mapped _ start_parses (λ v ts. refl)))))))
