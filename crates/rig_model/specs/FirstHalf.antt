-- The first half of an instant: the due tasks end and the due actuators are updated, or the tenant is stopped if a due task isn't completed.
use Rattle.std.specs.Prelude.{ℤ, List, map, ℕ, Bool, not, ◌&&◌, if◌then◌else◌, [], ◌∷◌, ◌++◌, filter, None}
use Rattle.std.specs.List.{zip, flat_map}
use Rattle.giotto_tasks.specs.declared.names.Name.{Name}
use Rattle.tenant_lines.specs.declared.trace.records.Happening.{Happening}
use Rattle.tenant_lines.specs.declared.trace.records.Happening.TheVariants as happening
use Rattle.std.specs.Option.{option_map_or}
use Rattle.giotto_tasks.specs.Names.{Valuation, same_name, is_among}
use Rattle.giotto_tasks.specs.Meaning.{outputs_of, states_of}
use Rattle.giotto_rules.specs.text.Program.{TaskDeclaration, TaskInvocation, ModeDeclaration, GiottoProgram, body_of, names_of}
use Rattle.giotto_rules.specs.Declarations.{task_named, mode_named}
use Rattle.rig_model.specs.Row.{StopReason, asked, overrun, stopped, ActiveTask, Row, is_running, in_program, in_mode, recorded}
use Rattle.giotto_rules.specs.text.PortNames.{own_ports, with_values}
use Rattle.rig_model.specs.Ports.{actuators_reset}
use Rattle.rig_model.specs.Due.{is_due_at}
use Rattle.rig_model.specs.Updates.{all_updated, updates_happened}
use Rattle.tenant_lines.specs.trace.Trace.{with_happenings}

-- each of these outputs, written with its value, in their order
abbrev pub outputs_happened : List Name → List ℤ → List Happening
outputs_happened names zs = map (λ (o : Name × ℤ). happening.Out o.0 o.1) (zip names zs)

-- those of these active tasks whose period in the mode divides this mode time, in the mode's text order
abbrev pub due_among : List ActiveTask → ModeDeclaration → ℕ → List ActiveTask
due_among active m time = flat_map (λ (i : TaskInvocation). filter (λ (a : ActiveTask). same_name a.task i.task && is_due_at time m i.frequency) active) m.invocations

-- the row's active tasks that are due in this mode
abbrev pub due_in_mode : Row → ModeDeclaration → List ActiveTask
due_in_mode row m = due_among row.active m row.mode_time

-- the active tasks that are due in the row's mode of this program
abbrev pub due_in_program : Row → GiottoProgram → List ActiveTask
due_in_program row p = option_map_or (due_in_mode row) (mode_named p row.mode) []

-- the tasks of a running row that end at this instant
abbrev pub due_tasks : Row → List ActiveTask
due_tasks row = if is_running row then option_map_or (due_in_program row) row.program [] else []

-- the names of the tasks that end at this instant
abbrev pub names_due : Row → List Name
names_due row = map (λ (a : ActiveTask). a.task) (due_tasks row)

-- the due tasks that are not completed
abbrev pub unfinished_tasks : (ActiveTask → Bool) → Row → List Name
unfinished_tasks completed row = map (λ (a : ActiveTask). a.task) (filter (λ a. not (completed a)) (due_tasks row))

-- what a trace records of a stop
abbrev pub happening_of : StopReason → Happening
happening_of asked = happening.Asked
happening_of (overrun x) = happening.Overrun x

-- A stop: actuators are initial, there are no active tasks and no waiting program, and all other ports keep their values.
abbrev pub stopped_with : StopReason → Row → Row
stopped_with reason row =
    recorded (happening_of reason)
    (in_program (λ p row. record row { ports = actuators_reset p row.ports }) (record row { state = stopped reason; active = []; waiting = None }))

-- a task ends: its outputs and its states have the values of its computation
abbrev pub ended_with : ActiveTask → Valuation → TaskDeclaration → Valuation
ended_with a ports t =
    with_values (with_values ports t.outputs (outputs_of (body_of t) a.inputs a.states)) (own_ports t.name (names_of t.states)) (states_of (body_of t) a.inputs a.states)

-- the ports after the ends of these tasks
abbrev pub all_ended : GiottoProgram → List ActiveTask → Valuation → Valuation
all_ended p [] ports = ports
all_ended p (a ∷ rest) ports = all_ended p rest (option_map_or (ended_with a ports) (task_named p a.task) ports)

-- each output that a task writes when it ends, with the value of its computation
abbrev pub outputs_of_end : ActiveTask → TaskDeclaration → List Happening
outputs_of_end a t = outputs_happened t.outputs (outputs_of (body_of t) a.inputs a.states)

-- each output that these tasks write, in order
abbrev pub ends_happened : GiottoProgram → List ActiveTask → List Happening
ends_happened p [] = []
ends_happened p (a ∷ rest) = option_map_or (outputs_of_end a) (task_named p a.task) [] ++ ends_happened p rest

-- the active tasks that aren't among these
abbrev pub still_active : List Name → List ActiveTask → List ActiveTask
still_active ended active = filter (λ (a : ActiveTask). not (is_among ended a.task)) active

-- the due tasks end, then the due actuators are updated
abbrev pub completed_in_mode : GiottoProgram → ModeDeclaration → Row → Row
completed_in_mode p m row =
    let written = all_ended p (due_tasks row) row.ports in
    record row {
      ports = all_updated m row.mode_time m.updates written;
      active = still_active (names_due row) row.active;
      records = with_happenings row.next_tick (ends_happened p (due_tasks row) ++ updates_happened m row.mode_time m.updates written) row.records;
    }

-- the first half, by the due tasks that were not completed, in the mode's text order: the tenant is stopped for the first of them; if there is
-- none, the due tasks end and the due actuators are updated
abbrev pub first_half_with : List Name → Row → Row
first_half_with (x ∷ xs) row = stopped_with (overrun x) row
first_half_with [] row = if is_running row then in_mode completed_in_mode row else row

-- The first half, if these are the tasks that were not completed.
abbrev pub first_half_of : List Name → Row → Row
first_half_of unfinished row = first_half_with (filter (is_among unfinished) (names_due row)) row
