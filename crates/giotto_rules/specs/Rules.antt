-- When a program is well-formed: eleven rules, each a test, in their order. Each assumes that the rules before it are kept.
use Rattle.std.specs.Prelude.{ℕ, ◌+◌, Bool, ◌&&◌, if◌then◌else◌, List, [], ◌∷◌, Option, Some, None}
use Rattle.std.specs.List.{list_all}
use Rattle.giotto_tasks.specs.Names.{is_among}
use Rattle.giotto_tasks.specs.Sound.{all_different}
use Rattle.giotto_text.specs.Program.{ModeDeclaration, GiottoProgram, body_of}
use Rattle.giotto_rules.specs.Declarations.{declared_names, mode_names, invoked_tasks, updated_actuators, mode_ports, lines_written}
use Rattle.giotto_rules.specs.Names.{all_different_numbers}
use Rattle.giotto_rules.specs.TaskPorts.{tasks_declare_own, uses_own_ports}
use Rattle.giotto_rules.specs.Kinds.{kinds_of, program_uses}
use Rattle.giotto_rules.specs.Frequencies.{frequencies_divide_in}
use Rattle.giotto_rules.specs.Invocations.{argument_for_each_input}
use Rattle.giotto_rules.specs.Drivers.{drivers_fit}
use Rattle.giotto_rules.specs.Switches.{mode_keeps_periods}

-- whether each mode of the program passes a test
abbrev pub each_mode : (ModeDeclaration → Bool) → GiottoProgram → Bool
each_mode test p = list_all test p.modes

-- names are declared once, including the private names of tasks
abbrev pub declares_names_once : GiottoProgram → Bool
declares_names_once p = all_different (declared_names p) && tasks_declare_own (declared_names p) p.tasks

-- a line is driven by at most one actuator
abbrev pub drives_lines_once : GiottoProgram → Bool
drives_lines_once p = all_different_numbers (lines_written p)

-- 1: names and lines are declared once
abbrev pub declares_once : GiottoProgram → Bool
declares_once p = declares_names_once p && drives_lines_once p

-- 2: each name is used as what it is declared as
abbrev pub uses_right_kinds : GiottoProgram → Bool
uses_right_kinds p = program_uses (kinds_of p) p

-- 3: a body uses only its task's ports
abbrev pub bodies_use_own_ports : GiottoProgram → Bool
bodies_use_own_ports p = list_all (λ t. uses_own_ports (body_of t)) p.tasks

-- 4: a period is 1 to 1,000,000 ticks; a frequency is at least 1 and divides the period
abbrev pub frequencies_divide : GiottoProgram → Bool
frequencies_divide p = each_mode frequencies_divide_in p

-- 5: a mode invokes a task once
abbrev pub invokes_once : GiottoProgram → Bool
invokes_once p = each_mode (λ m. all_different (invoked_tasks m)) p

-- 6: two tasks of a mode share no output
abbrev pub tasks_share_no_output : GiottoProgram → Bool
tasks_share_no_output p = each_mode (λ m. all_different (mode_ports p m)) p

-- 7: a mode updates an actuator once
abbrev pub updates_once : GiottoProgram → Bool
updates_once p = each_mode (λ m. all_different (updated_actuators m)) p

-- 8: an invocation has an argument for each input
abbrev pub arguments_fit : GiottoProgram → Bool
arguments_fit p = each_mode (λ m. list_all (argument_for_each_input p) m.invocations) p

-- 9: updates read only mode ports of their mode; switches and invocations may read sensors too; a switch's destinations are mode
-- ports of its target, each once
abbrev pub drivers_read_mode_ports : GiottoProgram → Bool
drivers_read_mode_ports p = each_mode (drivers_fit p) p

-- 10: the target mode of a switch continues each task that the switch can interrupt, with the task's period
abbrev pub switches_keep_periods : GiottoProgram → Bool
switches_keep_periods p = each_mode (mode_keeps_periods p) p

-- 11: the start mode is declared
abbrev pub starts_in_a_mode : GiottoProgram → Bool
starts_in_a_mode p = is_among (mode_names p) p.start

-- the eleven rules, in their order
abbrev pub rules : List (GiottoProgram → Bool)
rules =
    declares_once ∷ uses_right_kinds ∷ bodies_use_own_ports ∷ frequencies_divide ∷ invokes_once ∷ tasks_share_no_output ∷ updates_once
    ∷ arguments_fit ∷ drivers_read_mode_ports ∷ switches_keep_periods ∷ starts_in_a_mode ∷ []

-- the first of the rules, counted from n, that the program breaks
abbrev pub first_broken : ℕ → List (GiottoProgram → Bool) → GiottoProgram → Option ℕ
first_broken n [] p = None
first_broken n (rule ∷ rules) p = if rule p then first_broken (n + 1) rules p else Some n

-- the number of the first rule that the program breaks, or None if it is well-formed
abbrev pub first_broken_rule : GiottoProgram → Option ℕ
first_broken_rule p = first_broken 1 rules p
