-- Which programs a tenant may load: the well-formed ones that texts spell, within its budgets.
use Rattle.std.specs.Prelude.{ℕ, ◌-◌, ◌^◌, min, Bool, false, not, nat_lt, ◌&&◌, List, [], ◌∷◌, length, Option, Some, None, Result, Ok, Err}
use Rattle.std.specs.List.{find, list_all}
use Rattle.giotto_rules.specs.declared.text.faults.ReadFault.{ReadFault}
use Rattle.giotto_rules.specs.declared.text.faults.ReadFault.TheVariants as faults
use Rattle.giotto_rules.specs.text.Program.{GiottoProgram}
use Rattle.giotto_rules.specs.text.Parsing.{parsed}
use Rattle.giotto_rules.specs.Declarations.{lines_read, lines_written}
use Rattle.giotto_rules.specs.Rules.{first_broken_rule}
use Rattle.giotto_rules.specs.Costs.{greatest_cost_of}
use Rattle.giotto_rules.specs.Ports.{ports_of}
use Rattle.tenant_lines.specs.declared.config.Budgets.{Budgets}
use Rattle.tenant_lines.specs.config.Roster.{may_use}
use Rattle.tenant_lines.specs.declared.replies.Budget.{Budget}
use Rattle.tenant_lines.specs.declared.replies.Budget.TheVariants.{Bytes, Ports, Tasks, Modes, Steps, Lines, Offers, Binds}
use Rattle.tenant_lines.specs.declared.replies.Refusal.{Refusal}
use Rattle.tenant_lines.specs.declared.replies.Refusal.TheVariants.{Syntax, TooDeep, TooMany, Rule, Memory}

-- the refusal of a text that spells no program, by its fault
abbrev pub refusal_of_text : ReadFault → Refusal
refusal_of_text (faults.Syntax n) = Syntax n
refusal_of_text faults.TooDeep = TooDeep
refusal_of_text faults.TooMany = TooMany
refusal_of_text faults.Memory = Memory

-- a program that was read, by the first rule that it breaks: refused for that rule, or well-formed
abbrev pub well_formed_by : GiottoProgram → Option ℕ → Result GiottoProgram Refusal
well_formed_by p (Some n) = Err (Rule n)
well_formed_by p None = Ok p

-- the well-formed program of a text, by the result of reading the text
abbrev pub program_read : Result GiottoProgram ReadFault → Result GiottoProgram Refusal
program_read (Err fault) = Err (refusal_of_text fault)
program_read (Ok p) = well_formed_by p (first_broken_rule p)

-- the well-formed program that a text spells, or why it is refused: its syntax first, then the first rule that it breaks
abbrev pub program_of : List ℕ → Result GiottoProgram Refusal
program_of text = program_read (parsed text)

-- the program's sensors read, and its actuators drive, only lines that the tenant may read or drive
abbrev pub uses_own_lines : Budgets → GiottoProgram → Bool
uses_own_lines budgets p = list_all (may_use budgets.reads) (lines_read p) && list_all (may_use budgets.writes) (lines_written p)

-- the program's greatest cost in steps; costs are counted up to 2 ^ 64 - 1, far above every budget
abbrev pub steps_of_program : GiottoProgram → ℕ
steps_of_program p = min (greatest_cost_of p) (2 ^ 64 - 1)

-- whether a program with a text of this many bytes is over this budget: its figure is above the tenant's
abbrev pub is_over : Budgets → ℕ → GiottoProgram → Budget → Bool
is_over budgets bytes p Bytes = nat_lt budgets.bytes bytes
is_over budgets bytes p Ports = nat_lt budgets.ports (length (ports_of p))
is_over budgets bytes p Tasks = nat_lt budgets.tasks (length p.tasks)
is_over budgets bytes p Modes = nat_lt budgets.modes (length p.modes)
is_over budgets bytes p Steps = nat_lt budgets.steps (steps_of_program p)
is_over budgets bytes p Lines = not (uses_own_lines budgets p)
is_over budgets bytes p Offers = false
is_over budgets bytes p Binds = false

-- the budgets of a program, in the order in which they are checked
abbrev pub budgets_of_program : List Budget
budgets_of_program = Bytes ∷ Ports ∷ Tasks ∷ Modes ∷ Steps ∷ Lines ∷ []

-- the first budget that a program with a text of this many bytes is over
abbrev pub broken_budget : Budgets → ℕ → GiottoProgram → Option Budget
broken_budget budgets bytes p = find (is_over budgets bytes p) budgets_of_program
