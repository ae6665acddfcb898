-- What the drivers of a mode may read, and to which ports a switch may give values.
use Rattle.std.specs.Prelude.{Bool, ◌&&◌, List, [], ◌++◌, Option, Some, None}
use Rattle.std.specs.List.{list_all}
use Rattle.giotto_tasks.specs.declared.names.Name.{Name}
use Rattle.giotto_tasks.specs.Sound.{all_different}
use Rattle.giotto_text.specs.Program.{ActuatorUpdate, ModeSwitch, TaskInvocation, ModeDeclaration, GiottoProgram}
use Rattle.giotto_rules.specs.Declarations.{sensor_names, mode_named, mode_ports, destinations_of}
use Rattle.giotto_rules.specs.Names.{are_among}
use Rattle.giotto_rules.specs.Reads.{names_in_update, names_in_switch, names_in_invocation}

-- what switches and invocations of a mode may read: the mode's ports, and the sensors
abbrev pub readable_ports : GiottoProgram → ModeDeclaration → List Name
readable_ports p m = mode_ports p m ++ sensor_names p

-- the mode ports of a switch's target; none if there is no such mode
abbrev pub ports_of_target : GiottoProgram → Option ModeDeclaration → List Name
ports_of_target p None = []
ports_of_target p (Some m) = mode_ports p m

-- The switch gives values only to ports of its target.
abbrev pub gives_to_target : GiottoProgram → ModeSwitch → Bool
gives_to_target p s = are_among (ports_of_target p (mode_named p s.target)) (destinations_of s)

-- The switch reads only these names, and its destinations are ports of its target, each once.
abbrev pub switch_fits : GiottoProgram → List Name → ModeSwitch → Bool
switch_fits p readable s = are_among readable (names_in_switch s)
    && gives_to_target p s && all_different (destinations_of s)

-- Each of these switches fits, given the names that it may read.
abbrev pub switches_fit : GiottoProgram → List Name → List ModeSwitch → Bool
switches_fit p readable ss = list_all (switch_fits p readable) ss

-- Updates read only these names.
abbrev pub updates_read : List Name → List ActuatorUpdate → Bool
updates_read names us = list_all (λ (u : ActuatorUpdate). are_among names (names_in_update u)) us

-- Invocations read only these names.
abbrev pub invocations_read : List Name → List TaskInvocation → Bool
invocations_read names is = list_all (λ (i : TaskInvocation). are_among names (names_in_invocation i)) is

-- Updates read only ports of their mode; switches and invocations may read sensors too.
abbrev pub drivers_fit : GiottoProgram → ModeDeclaration → Bool
drivers_fit p m = updates_read (mode_ports p m) m.updates && switches_fit p (readable_ports p m) m.switches
    && invocations_read (readable_ports p m) m.invocations
