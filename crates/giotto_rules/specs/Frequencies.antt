-- Periods and frequencies.
use Rattle.std.specs.Prelude.{ℕ, ◌%◌, nat_le, ◌==◌, Bool, ◌&&◌, List}
use Rattle.std.specs.List.{list_all}
use Rattle.giotto_text.specs.Program.{ActuatorUpdate, ModeSwitch, TaskInvocation, ModeDeclaration}

-- a frequency is at least 1, and divides the period
abbrev pub divides : ℕ → ℕ → Bool
divides w period = nat_le 1 w && period % w == 0

-- the frequencies of the updates divide the period
abbrev pub updates_divide : ℕ → List ActuatorUpdate → Bool
updates_divide period us = list_all (λ (u : ActuatorUpdate). divides u.frequency period) us

-- the frequencies of the switches divide the period
abbrev pub switches_divide : ℕ → List ModeSwitch → Bool
switches_divide period ss = list_all (λ (s : ModeSwitch). divides s.frequency period) ss

-- the frequencies of the invocations divide the period
abbrev pub invocations_divide : ℕ → List TaskInvocation → Bool
invocations_divide period is = list_all (λ (i : TaskInvocation). divides i.frequency period) is

-- the period is 1 to 1,000,000 ticks, and each frequency of the mode divides it
abbrev pub frequencies_divide_in : ModeDeclaration → Bool
frequencies_divide_in m = nat_le 1 m.period && nat_le m.period 1000000
    && updates_divide m.period m.updates && switches_divide m.period m.switches && invocations_divide m.period m.invocations
