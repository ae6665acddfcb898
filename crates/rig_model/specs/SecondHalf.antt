-- The second half of an instant: a waiting program is installed, sensors are read, a switch may be taken, tasks are invoked, and the mode
-- time moves on.
use Rattle.std.specs.Prelude.{ℕ, ◌+◌, ◌-◌, ◌%◌, ◌==◌, Bool, ◌&&◌, if◌then◌else◌, ℤ, List, [], ◌∷◌, ◌++◌, map, Some, None, option_to_list}
use Rattle.std.specs.List.{filter_map}
use Rattle.std.specs.Option.{option_map, option_map_or}
use Rattle.giotto_tasks.specs.Names.{Valuation, values_of}
use Rattle.giotto_tasks.specs.Meaning.{value_of}
use Rattle.giotto_rules.specs.text.Program.{TaskDeclaration, ModeSwitch, TaskInvocation, ModeDeclaration, GiottoProgram, names_of}
use Rattle.tenant_lines.specs.declared.trace.records.Happening.TheVariants as happening
use Rattle.giotto_rules.specs.Declarations.{sensor_names, task_named, mode_named, period_of_task}
use Rattle.rig_model.specs.Row.{ActiveTask, Row, is_running, where_some, in_program, in_mode, recorded}
use Rattle.giotto_rules.specs.text.PortNames.{own_ports, with_values}
use Rattle.rig_model.specs.CommonPeriods.{least_common_multiple}
use Rattle.rig_model.specs.Ports.{holds}
use Rattle.rig_model.specs.Due.{is_due_at}
use Rattle.rig_model.specs.Readings.{Readings, reading_taken}
use Rattle.rig_model.specs.Replacement.{carried_ports}
use Rattle.rig_model.specs.Switches.{switch_taken, with_destinations}

-- installation: the new program in its start mode, with the values that are carried over
abbrev pub installed : GiottoProgram → Row → Row
installed new row = in_program (λ old row.
    recorded (happening.Replaced new.start)
    (record row {
      program = Some new;
      waiting = None;
      mode = new.start;
      mode_time = 0;
      active = [];
      ports = carried_ports row.ports old new;
    })) row

-- a waiting program is installed when the mode's period ends
abbrev pub replaced_if_due : Row → Row
replaced_if_due row = if row.mode_time == 0 then where_some installed row.waiting row else row

-- each sensor of the program takes its reading
abbrev pub sensed : Readings → Valuation → GiottoProgram → Row → Row
sensed readings granted p row = record row { ports = with_values row.ports (sensor_names p) (map (reading_taken readings granted) p.sensors) }

-- the time that is as far from the end of the target's period as tasks of these periods are from their next common deadline; 0 without
-- a task
abbrev pub time_before_end : ModeDeclaration → ModeDeclaration → ℕ → List ℕ → ℕ
time_before_end from target time [] = 0
time_before_end from target time (k ∷ ks) = let l = least_common_multiple from.period (k ∷ ks) in target.period - (l - time % l)

-- The mode time after a switch with these active tasks: 0 if there is none.
abbrev pub entry_time : ModeDeclaration → ModeDeclaration → ℕ → List ActiveTask → ℕ
entry_time from target time active = time_before_end from target time (filter_map (λ (a : ActiveTask). period_of_task from a.task) active)

-- a switch: its destinations take their values, and the target mode is entered
abbrev pub entered : ModeDeclaration → ModeSwitch → ModeDeclaration → Row → Row
entered m s target row =
    recorded (happening.Mode s.target)
    (record row {
      mode = s.target;
      mode_time = entry_time m target row.mode_time row.active;
      ports = with_destinations s row.ports;
    })

-- takes the first switch that is due and whose guard holds, if there is one
abbrev pub switched : GiottoProgram → ModeDeclaration → Row → Row
switched p m row = where_some (λ s. where_some (entered m s) (mode_named p s.target)) (switch_taken m row.mode_time row.ports) row

-- an invocation happens if it is due and its guard holds
abbrev pub is_invoked : ModeDeclaration → ℕ → TaskInvocation → Valuation → Bool
is_invoked m time i ports = is_due_at time m i.frequency && holds i.guard ports

-- the values of an invocation's arguments
abbrev pub values_given : TaskInvocation → Valuation → List ℤ
values_given i ports = map (λ e. value_of e ports) i.arguments

-- a release: the task becomes active with the driver's values and its states
abbrev pub released : ℕ → TaskInvocation → Valuation → TaskDeclaration → ActiveTask
released n i ports t = record { task = t.name; release = n; inputs = values_given i ports; states = values_of ports (own_ports t.name (names_of t.states)) }

-- and the task's inputs take the driver's values
abbrev pub with_inputs : TaskInvocation → Valuation → TaskDeclaration → Valuation
with_inputs i ports t = with_values ports (own_ports t.name t.inputs) (values_given i ports)

-- the ports after one invocation
abbrev pub invoked : GiottoProgram → ModeDeclaration → ℕ → TaskInvocation → Valuation → Valuation
invoked p m time i ports = if is_invoked m time i ports then option_map_or (with_inputs i ports) (task_named p i.task) ports else ports

-- the ports after these invocations, in text order
abbrev pub all_invoked : GiottoProgram → ModeDeclaration → ℕ → List TaskInvocation → Valuation → Valuation
all_invoked p m time [] ports = ports
all_invoked p m time (i ∷ is) ports = all_invoked p m time is (invoked p m time i ports)

-- the tasks that they release at instant n
abbrev pub all_released : GiottoProgram → ModeDeclaration → ℕ → ℕ → List TaskInvocation → Valuation → List ActiveTask
all_released p m time n [] ports = []
all_released p m time n (i ∷ is) ports =
    (if is_invoked m time i ports then option_to_list (option_map (released n i ports) (task_named p i.task)) else []) ++ all_released p m time n is (invoked p m time i ports)

-- the mode's invocations: their ports are written, and their tasks become active
abbrev pub invoked_in_mode : GiottoProgram → ModeDeclaration → Row → Row
invoked_in_mode p m row = record row {
  ports = all_invoked p m row.mode_time m.invocations row.ports;
  active = row.active ++ all_released p m row.mode_time row.next_tick m.invocations row.ports;
}

-- the mode time of the next instant
abbrev pub moved_on : ModeDeclaration → Row → Row
moved_on m row = record row { mode_time = (row.mode_time + 1) % m.period }

-- the instant is counted
abbrev pub counted : Row → Row
counted row = record row { next_tick = row.next_tick + 1 }

-- the steps of a running tenant: sensors and a switch in the current mode, invocations in the mode after the switch
abbrev pub second_half_running : Readings → Valuation → Row → Row
second_half_running readings granted row =
    in_mode (λ p m row. moved_on m (invoked_in_mode p m row))
    (in_mode (λ p m row. switched p m (sensed readings granted p row))
    (replaced_if_due row))

-- The second half: a running tenant goes through these steps, and every tenant counts the instant.
abbrev pub second_half_of : Readings → Valuation → Row → Row
second_half_of readings granted row = counted (if is_running row then second_half_running readings granted row else row)
