-- Each prefix can be completed to a whole program: numbers that can't be written are brought into range, and the parts that are
-- left are written out.
use Rattle.std.proofs.Common.{ℕ, suc, ℤ, pos, negsuc, List, [], ◌∷◌, ◌++◌, map, Option, Some, None, refl, subst}
use Rattle.std.proofs.lemmas.List.{map-append, append-nil}
use Rattle.giotto_tasks.specs.declared.names.Name.{Name}
use Rattle.giotto_tasks.specs.Syntax.{Expression, number, port, unary, binary, Statement, assign, branch, repeat, Block, finished, step}
use Rattle.giotto_text.specs.declared.tokens.Keyword.{Keyword}
use Rattle.giotto_text.specs.declared.tokens.Keyword.TheVariants.{Output, State}
use Rattle.giotto_text.specs.declared.tokens.Token.{Token}
use Rattle.giotto_text.specs.Grammar.{Part, token, program, sensor, actuator, output, task, state, block, statement, mode, update, switch, destination, invocation, expression, operand, initial, int, name, separated, list_behind, written_source, written_line, written_guard, statements, IsWritten, a_program, a_sensor, an_actuator, an_output, a_task, a_state, a_block, an_assignment, two_branches, a_repetition, a_mode, an_update, a_switch, a_destination, an_invocation, an_operand, a_unary, a_binary, a_number, a_port, in_parentheses, a_plain_initial, a_negative_initial, an_int}
use Rattle.giotto_text.specs.Program.{Source, from_line, from_grant, SensorDeclaration, ActuatorDeclaration, OutputDeclaration, TaskDeclaration, ActuatorUpdate, ModeSwitch, TaskInvocation, ModeDeclaration, GiottoProgram}
use Rattle.giotto_text.specs.Spelling.{SpellsParts, all_spelled, token_spelled, line_spelled, BeginsParts, none_left, token_begun, line_begun, Spells, IsPrefix}
use Rattle.giotto_text.proofs.CanonicalSpells.{spelled_append}
use Rattle.giotto_text.proofs.Fitted.{fitted_int, fitted_initial, fitted_expression, fitted_statement, fitted_block, fitted_source, fitted_line, fitted_guard, fitted_sensor, fitted_actuator, fitted_output, fitted_state, fitted_task, fitted_update, fitted_destination, fitted_switch, fitted_invocation, fitted_mode, fitted_program, fitted, int_in_range, written_fitted}

-- tokens that spell these parts
record CanBeSpelled (ps : List Part) : Type 0 where
  text : List Token
  spelled : SpellsParts text ps

none : CanBeSpelled []
none = record { text = []; spelled = all_spelled }

t : {u : Token} {ps : List Part} → CanBeSpelled ps → CanBeSpelled (token u ∷ ps)
t {u = u} s = record { text = u ∷ s.text; spelled = token_spelled s.spelled }

joined : {ps qs : List Part} → CanBeSpelled ps → CanBeSpelled qs → CanBeSpelled (ps ++ qs)
joined s r = record { text = s.text ++ r.text; spelled = spelled_append s.spelled r.spelled }

whole : {p : Part} {ps : List Part} → IsWritten p ps → CanBeSpelled ps → CanBeSpelled (p ∷ [])
whole {ps = ps} w s = record { text = s.text; spelled = line_spelled w (rw (append-nil ps) s.spelled) }

-- lists of parts

each_text : {A : Type 0} (part : A → Part) (f : A → A) → ((x : A) → CanBeSpelled (part (f x) ∷ [])) → (xs : List A) → CanBeSpelled (map part (map f xs))
each_text part f text [] = none
each_text part f text (x ∷ xs) = joined (text x) (each_text part f text xs)

comma_text : {A : Type 0} (part : A → Part) (f : A → A) → ((x : A) → CanBeSpelled (part (f x) ∷ [])) → (xs : List A) → CanBeSpelled (separated (map part (map f xs)))
comma_text part f text [] = none
comma_text part f text (x ∷ []) = text x
comma_text part f text (x ∷ y ∷ xs) = joined (text x) (t (comma_text part f text (y ∷ xs)))

names_text : (xs : List Name) → CanBeSpelled (separated (map name xs))
names_text [] = none
names_text (x ∷ []) = t none
names_text (x ∷ y ∷ xs) = t (t (names_text (y ∷ xs)))

behind_text : (k : Keyword) (ps : List Part) → CanBeSpelled (separated ps) → CanBeSpelled (list_behind k ps)
behind_text k [] s = none
behind_text k (p ∷ ps) s = t s

-- values in the range that can be written

int_text : (n : ℕ) → CanBeSpelled (int (fitted_int n) ∷ [])
int_text n = whole (an_int (int_in_range n)) (t none)

initial_text : (z : ℤ) → CanBeSpelled (initial (fitted_initial z) ∷ [])
initial_text (pos n) = whole a_plain_initial (int_text n)
initial_text (negsuc n) = whole (a_negative_initial {n = suc (fitted_int n)} (int_in_range n) refl) (t (t none))

operand_of : {e : Expression} → CanBeSpelled (expression e ∷ []) → CanBeSpelled (operand e ∷ [])
operand_of s = whole in_parentheses (t (joined s (t none)))

expression_text : (e : Expression) → CanBeSpelled (expression (fitted_expression e) ∷ [])
expression_text (number (pos n)) = whole an_operand (whole a_number (int_text n))
expression_text (number (negsuc n)) = whole an_operand (whole a_number (int_text 0))
expression_text (port x) = whole an_operand (whole a_port (t none))
expression_text (unary o e) = whole a_unary (t (operand_of (expression_text e)))
expression_text (binary o a b) = whole a_binary (joined (operand_of (expression_text a)) (t (operand_of (expression_text b))))

block_of : {b : Block} → CanBeSpelled (statements b) → CanBeSpelled (block b ∷ [])
block_of s = whole a_block (t (joined s (t none)))

mutual
  statement_text : (s : Statement) → CanBeSpelled (statement (fitted_statement s) ∷ [])
  statement_text (assign x e) = whole an_assignment (t (t (joined (expression_text e) (t none))))
  statement_text (branch c a b) =
      whole two_branches (t (joined (expression_text c) (joined (block_of (statements_text a)) (t (block_of (statements_text b))))))
  statement_text (repeat n b) = whole a_repetition (t (joined (int_text n) (block_of (statements_text b))))

  statements_text : (b : Block) → CanBeSpelled (statements (fitted_block b))
  statements_text finished = none
  statements_text (step s b) = joined (statement_text s) (statements_text b)

source_text : (s : Source) → CanBeSpelled (written_source (fitted_source s))
source_text (from_line k) = t (int_text k)
source_text from_grant = t none

line_text : (l : Option ℕ) → CanBeSpelled (written_line (fitted_line l))
line_text None = none
line_text (Some k) = t (int_text k)

guard_text : (g : Option Expression) → CanBeSpelled (written_guard (fitted_guard g))
guard_text None = none
guard_text (Some e) = t (expression_text e)

sensor_text : (s : SensorDeclaration) → CanBeSpelled (sensor (fitted_sensor s) ∷ [])
sensor_text s = whole a_sensor (t (t (t (joined (initial_text s.initial) (joined (source_text s.source) (t none))))))

actuator_text : (a : ActuatorDeclaration) → CanBeSpelled (actuator (fitted_actuator a) ∷ [])
actuator_text a = whole an_actuator (t (t (t (joined (initial_text a.initial) (joined (line_text a.line) (t none))))))

output_text : (o : OutputDeclaration) → CanBeSpelled (output (fitted_output o) ∷ [])
output_text o = whole an_output (t (t (t (joined (initial_text o.initial) (t none)))))

state_text : (s : Name × ℤ) → CanBeSpelled (state (fitted_state s) ∷ [])
state_text s = whole a_state (t (t (initial_text s.1)))

task_text : (d : TaskDeclaration) → CanBeSpelled (task (fitted_task d) ∷ [])
task_text d =
    whole a_task (t (t (t (joined (names_text d.inputs) (t
    (joined (behind_text Output (map name d.outputs) (names_text d.outputs))
    (joined (behind_text State (map state (map fitted_state d.states)) (comma_text state fitted_state state_text d.states)) (block_of (statements_text d.block)))))))))

update_text : (u : ActuatorUpdate) → CanBeSpelled (update (fitted_update u) ∷ [])
update_text u = whole an_update (t (joined (int_text u.frequency) (joined (guard_text u.guard) (t (t (t (joined (expression_text u.value) (t none))))))))

destination_text : (d : Name × Expression) → CanBeSpelled (destination (fitted_destination d) ∷ [])
destination_text d = whole a_destination (t (t (joined (expression_text d.1) (t none))))

switch_text : (s : ModeSwitch) → CanBeSpelled (switch (fitted_switch s) ∷ [])
switch_text s =
    whole a_switch (t (joined (int_text s.frequency) (joined (guard_text s.guard) (t (t (t
    (joined (each_text destination fitted_destination destination_text s.destinations) (t (t none)))))))))

invocation_text : (i : TaskInvocation) → CanBeSpelled (invocation (fitted_invocation i) ∷ [])
invocation_text i =
    whole an_invocation (t (joined (int_text i.frequency) (joined (guard_text i.guard) (t (t (t
    (joined (comma_text expression fitted_expression expression_text i.arguments) (t (t none)))))))))

mode_text : (m : ModeDeclaration) → CanBeSpelled (mode (fitted_mode m) ∷ [])
mode_text m =
    whole a_mode (t (t (t (joined (int_text m.period) (t
    (joined (each_text update fitted_update update_text m.updates)
    (joined (each_text switch fitted_switch switch_text m.switches)
    (joined (each_text invocation fitted_invocation invocation_text m.invocations) (t none)))))))))

program_text : (p : GiottoProgram) → CanBeSpelled (program (fitted_program p) ∷ [])
program_text p =
    whole a_program
    (joined (each_text sensor fitted_sensor sensor_text p.sensors)
    (joined (each_text actuator fitted_actuator actuator_text p.actuators)
    (joined (each_text output fitted_output output_text p.outputs)
    (joined (each_text task fitted_task task_text p.tasks)
    (joined (each_text mode fitted_mode mode_text p.modes) (t (t (t none))))))))

part_text : (p : Part) → CanBeSpelled (fitted p ∷ [])
part_text (token u) = t none
part_text (program p) = program_text p
part_text (sensor s) = sensor_text s
part_text (actuator a) = actuator_text a
part_text (output o) = output_text o
part_text (task d) = task_text d
part_text (state s) = state_text s
part_text (block b) = block_of (statements_text b)
part_text (statement s) = statement_text s
part_text (mode m) = mode_text m
part_text (update u) = update_text u
part_text (switch s) = switch_text s
part_text (destination d) = destination_text d
part_text (invocation i) = invocation_text i
part_text (expression e) = expression_text e
part_text (operand e) = operand_of (expression_text e)
part_text (initial z) = initial_text z
part_text (int n) = int_text n

parts_text : (ps : List Part) → CanBeSpelled (map fitted ps)
parts_text [] = none
parts_text (p ∷ ps) = joined (part_text p) (parts_text ps)

-- a prefix and its completion
goes_on : {ts : List Token} {ps : List Part} → BeginsParts ts ps → (us : List Token) × SpellsParts (ts ++ us) (map fitted ps)
goes_on (none_left {ps = ps}) = let s = parts_text ps in (s.text, s.spelled)
goes_on (token_begun b) = let h = goes_on b in (h.0, token_spelled h.1)
goes_on (line_begun {ts = ts} {ps = ps} {line = line} w b) =
    let h = goes_on b in
    (h.0, line_spelled (written_fitted w) (subst (SpellsParts (ts ++ h.0)) (map-append fitted line ps) h.1))

pub prefix_completed : (ts : List Token) → IsPrefix ts → (us : List Token) × (p : GiottoProgram) × Spells (ts ++ us) p
prefix_completed ts b = let h = goes_on b.1 in (h.0, fitted_program b.0, h.1)
