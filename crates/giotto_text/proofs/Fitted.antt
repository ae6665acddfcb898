-- Values with their numbers brought into the range that can be written. Whatever may be written for a value may also be written
-- for its fitted value, with fitted parts.
use Rattle.std.proofs.Common.{◌≡◌, ℕ, zero, suc, ◌-◌, ◌^◌, ◌<◌, ◌≤◌, min, ℤ, pos, negsuc, neg_ℤ, List, [], ◌∷◌, map, Option, Some, None, refl, sym, ap, ◌∙◌, subst, arith}
use Rattle.std.proofs.lemmas.List.{map-append}
use Rattle.std.proofs.lemmas.Simd.{map-map}
use Rattle.std.proofs.Math.Nat.{min-eq_left, min-le_right}
use Rattle.giotto_tasks.specs.declared.names.Name.{Name}
use Rattle.giotto_tasks.specs.Syntax.{Expression, number, port, unary, binary, Statement, assign, branch, repeat, Block, finished, step}
use Rattle.giotto_text.specs.declared.tokens.Keyword.{Keyword}
use Rattle.giotto_text.specs.declared.tokens.Token.TheVariants as tokens
use Rattle.giotto_text.specs.Grammar.{Part, token, program, sensor, actuator, output, task, state, block, statement, mode, update, switch, destination, invocation, expression, operand, initial, int, separated, list_behind, written_source, written_line, written_guard, statements, IsWritten, a_program, a_sensor, an_actuator, an_output, a_task, a_state, a_block, an_assignment, a_branch, two_branches, a_repetition, a_mode, an_update, a_plain_switch, a_switch, a_destination, an_invocation, an_operand, a_unary, a_binary, a_number, a_port, in_parentheses, a_plain_initial, a_negative_initial, an_int}
use Rattle.giotto_text.specs.Program.{Source, from_line, from_grant, SensorDeclaration, ActuatorDeclaration, OutputDeclaration, TaskDeclaration, ActuatorUpdate, ModeSwitch, TaskInvocation, ModeDeclaration, GiottoProgram}

abbrev pub fitted_int : ℕ → ℕ
fitted_int n = min n (2 ^ 63 - 1)

abbrev pub fitted_initial : ℤ → ℤ
fitted_initial (pos n) = pos (fitted_int n)
fitted_initial (negsuc n) = negsuc (fitted_int n)

-- a negative number can't be an operand
abbrev pub fitted_expression : Expression → Expression
fitted_expression (number (pos n)) = number (pos (fitted_int n))
fitted_expression (number (negsuc n)) = number (pos 0)
fitted_expression (port x) = port x
fitted_expression (unary o e) = unary o (fitted_expression e)
fitted_expression (binary o a b) = binary o (fitted_expression a) (fitted_expression b)

abbrev mutual
  pub fitted_statement : Statement → Statement
  fitted_statement (assign x e) = assign x (fitted_expression e)
  fitted_statement (branch c a b) = branch (fitted_expression c) (fitted_block a) (fitted_block b)
  fitted_statement (repeat n b) = repeat (fitted_int n) (fitted_block b)

  pub fitted_block : Block → Block
  fitted_block finished = finished
  fitted_block (step s b) = step (fitted_statement s) (fitted_block b)

abbrev pub fitted_source : Source → Source
fitted_source (from_line k) = from_line (fitted_int k)
fitted_source from_grant = from_grant

abbrev pub fitted_line : Option ℕ → Option ℕ
fitted_line None = None
fitted_line (Some k) = Some (fitted_int k)

abbrev pub fitted_guard : Option Expression → Option Expression
fitted_guard None = None
fitted_guard (Some e) = Some (fitted_expression e)

abbrev pub fitted_sensor : SensorDeclaration → SensorDeclaration
fitted_sensor s = record { name = s.name; initial = fitted_initial s.initial; source = fitted_source s.source }

abbrev pub fitted_actuator : ActuatorDeclaration → ActuatorDeclaration
fitted_actuator a = record { name = a.name; initial = fitted_initial a.initial; line = fitted_line a.line }

abbrev pub fitted_output : OutputDeclaration → OutputDeclaration
fitted_output o = record { name = o.name; initial = fitted_initial o.initial }

abbrev pub fitted_state : Name × ℤ → Name × ℤ
fitted_state s = (s.0, fitted_initial s.1)

abbrev pub fitted_task : TaskDeclaration → TaskDeclaration
fitted_task t = record { name = t.name; inputs = t.inputs; outputs = t.outputs; states = map fitted_state t.states; block = fitted_block t.block }

abbrev pub fitted_update : ActuatorUpdate → ActuatorUpdate
fitted_update u = record { frequency = fitted_int u.frequency; guard = fitted_guard u.guard; actuator = u.actuator; value = fitted_expression u.value }

abbrev pub fitted_destination : Name × Expression → Name × Expression
fitted_destination d = (d.0, fitted_expression d.1)

abbrev pub fitted_switch : ModeSwitch → ModeSwitch
fitted_switch s = record { frequency = fitted_int s.frequency; guard = fitted_guard s.guard; target = s.target; destinations = map fitted_destination s.destinations }

abbrev pub fitted_invocation : TaskInvocation → TaskInvocation
fitted_invocation i = record { frequency = fitted_int i.frequency; guard = fitted_guard i.guard; task = i.task; arguments = map fitted_expression i.arguments }

abbrev pub fitted_mode : ModeDeclaration → ModeDeclaration
fitted_mode m = record {
  name = m.name;
  period = fitted_int m.period;
  updates = map fitted_update m.updates;
  switches = map fitted_switch m.switches;
  invocations = map fitted_invocation m.invocations;
}

abbrev pub fitted_program : GiottoProgram → GiottoProgram
fitted_program p = record {
  sensors = map fitted_sensor p.sensors;
  actuators = map fitted_actuator p.actuators;
  outputs = map fitted_output p.outputs;
  tasks = map fitted_task p.tasks;
  modes = map fitted_mode p.modes;
  start = p.start;
}

abbrev pub fitted : Part → Part
fitted (token t) = token t
fitted (program p) = program (fitted_program p)
fitted (sensor s) = sensor (fitted_sensor s)
fitted (actuator a) = actuator (fitted_actuator a)
fitted (output o) = output (fitted_output o)
fitted (task t) = task (fitted_task t)
fitted (state s) = state (fitted_state s)
fitted (block b) = block (fitted_block b)
fitted (statement s) = statement (fitted_statement s)
fitted (mode m) = mode (fitted_mode m)
fitted (update u) = update (fitted_update u)
fitted (switch s) = switch (fitted_switch s)
fitted (destination d) = destination (fitted_destination d)
fitted (invocation i) = invocation (fitted_invocation i)
fitted (expression e) = expression (fitted_expression e)
fitted (operand e) = operand (fitted_expression e)
fitted (initial z) = initial (fitted_initial z)
fitted (int n) = int (fitted_int n)

-- ranges

pub int_in_range : (n : ℕ) → fitted_int n < 2 ^ 63
int_in_range n = let h = min-le_right n (2 ^ 63 - 1) in omega (arith, h)

pub int_as_it_is : (n : ℕ) → n < 2 ^ 63 → fitted_int n ≡ n
int_as_it_is n small = min-eq_left (omega (arith, small))

negative_as_it_is : (n : ℕ) → n ≤ 2 ^ 63 → fitted_initial (neg_ℤ (pos n)) ≡ neg_ℤ (pos n)
negative_as_it_is zero le = refl
negative_as_it_is (suc n) le = ap negsuc (int_as_it_is n le)

-- lists of parts

fitted_separated : (ps : List Part) → map fitted (separated ps) ≡ separated (map fitted ps)
fitted_separated [] = refl
fitted_separated (p ∷ []) = refl
fitted_separated (p ∷ q ∷ ps) = rw (fitted_separated (q ∷ ps)) refl

fitted_behind : (k : Keyword) (ps : List Part) → map fitted (list_behind k ps) ≡ list_behind k (map fitted ps)
fitted_behind k [] = refl
fitted_behind k (p ∷ ps) = rw (fitted_separated (p ∷ ps)) refl

fitted_statements : (b : Block) → map fitted (statements b) ≡ statements (fitted_block b)
fitted_statements finished = refl
fitted_statements (step s b) = rw (fitted_statements b) refl

source_fitted : (s : Source) → map fitted (written_source s) ≡ written_source (fitted_source s)
source_fitted (from_line k) = refl
source_fitted from_grant = refl

line_fitted : (l : Option ℕ) → map fitted (written_line l) ≡ written_line (fitted_line l)
line_fitted None = refl
line_fitted (Some k) = refl

guard_fitted : (g : Option Expression) → map fitted (written_guard g) ≡ written_guard (fitted_guard g)
guard_fitted None = refl
guard_fitted (Some e) = refl

-- each grammar line

put : {p : Part} {line other : List Part} → IsWritten p line → other ≡ line → IsWritten p other
put w same = rw same w

pub written_fitted : {p : Part} {line : List Part} → IsWritten p line → IsWritten (fitted p) (map fitted line)
written_fitted a_program = put a_program (simp (map-append, map-map))
written_fitted (a_sensor {s = s}) = put a_sensor (simp (map-append, source_fitted))
written_fitted an_actuator = put an_actuator (simp (map-append, line_fitted))
written_fitted an_output = an_output
written_fitted a_task = put a_task (simp (map-append, fitted_separated, fitted_behind, map-map))
written_fitted a_state = a_state
written_fitted a_block = put a_block (simp (map-append, fitted_statements))
written_fitted an_assignment = an_assignment
written_fitted a_branch = a_branch
written_fitted two_branches = two_branches
written_fitted a_repetition = a_repetition
written_fitted a_mode = put a_mode (simp (map-append, map-map))
written_fitted an_update = put an_update (simp (map-append, guard_fitted))
written_fitted (a_plain_switch is) = put (a_plain_switch (ap (map fitted_destination) is)) (simp (map-append, guard_fitted))
written_fitted a_switch = put a_switch (simp (map-append, map-map, guard_fitted))
written_fitted a_destination = a_destination
written_fitted an_invocation = put an_invocation (simp (map-append, fitted_separated, map-map, guard_fitted))
written_fitted an_operand = an_operand
written_fitted a_unary = a_unary
written_fitted a_binary = a_binary
written_fitted a_number = a_number
written_fitted a_port = a_port
written_fitted in_parentheses = in_parentheses
written_fitted a_plain_initial = a_plain_initial
written_fitted (a_negative_initial {n = n} le is) = a_negative_initial le (ap fitted_initial is ∙ negative_as_it_is n le)
written_fitted (an_int {n = n} small) = subst (λ m. IsWritten (int m) (token (tokens.Number n) ∷ [])) (sym (int_as_it_is n small)) (an_int small)
