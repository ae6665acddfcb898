-- Drivers of a well-formed program read and write only sensors, actuators and outputs.
use Rattle.std.proofs.Common.{◌≡◌, true, List, ◌++◌, sym, ◌∙◌}
use Rattle.std.specs.List.{list_all}
use Rattle.giotto_tasks.specs.declared.names.Name.{Name}
use Rattle.giotto_tasks.specs.Names.{is_among}
use Rattle.giotto_tasks.proofs.cited.NameLemmas.{among_first, among_passes, among_second, is_among-append, weaker_all}
use Rattle.giotto_tasks.proofs.cited.TestLemmas.{either}
use Rattle.giotto_rules.specs.text.Program.{ModeDeclaration, GiottoProgram}
use Rattle.giotto_rules.specs.Declarations.{sensor_names, actuator_names, output_names, driver_ports, mode_ports}
use Rattle.giotto_rules.specs.Drivers.{readable_ports}
use Rattle.giotto_check.specs.cited.Facts.{ModeFits}

pub actuator_is_port : (p : GiottoProgram) (x : Name) → is_among (actuator_names p) x ≡ true → is_among (driver_ports p) x ≡ true
actuator_is_port p x h = among_second (sensor_names p) (actuator_names p ++ output_names p) x (among_first (actuator_names p) (output_names p) x h)

pub output_is_port : (p : GiottoProgram) (x : Name) → is_among (output_names p) x ≡ true → is_among (driver_ports p) x ≡ true
output_is_port p x h = among_second (sensor_names p) (actuator_names p ++ output_names p) x (among_second (actuator_names p) (output_names p) x h)

mode_port_is_port : (p : GiottoProgram) (m : ModeDeclaration) (x : Name) → ModeFits p m → is_among (mode_ports p m) x ≡ true → is_among (driver_ports p) x ≡ true
mode_port_is_port p m x fits h = output_is_port p x (among_passes (is_among (output_names p)) (mode_ports p m) x fits.ports_are_outputs h)

pub mode_ports_are_ports : (p : GiottoProgram) (m : ModeDeclaration) → ModeFits p m → (xs : List Name) → list_all (is_among (mode_ports p m)) xs ≡ true → list_all (is_among (driver_ports p)) xs ≡ true
mode_ports_are_ports p m fits xs h = weaker_all (mode_ports p m) (driver_ports p) (λ x. mode_port_is_port p m x fits) xs h

pub readable_are_ports : (p : GiottoProgram) (m : ModeDeclaration) → ModeFits p m → (xs : List Name) → list_all (is_among (readable_ports p m)) xs ≡ true → list_all (is_among (driver_ports p)) xs ≡ true
readable_are_ports p m fits xs h = weaker_all (readable_ports p m) (driver_ports p) readable xs h
  where
    readable : (x : Name) → is_among (readable_ports p m) x ≡ true → is_among (driver_ports p) x ≡ true
    readable x t =
        either (is_among (mode_ports p m) x) (is_among (sensor_names p) x) (is_among (driver_ports p) x ≡ true) (sym (is_among-append (mode_ports p m) (sensor_names p) x) ∙ t)
        (mode_port_is_port p m x fits) (λ s. among_first (sensor_names p) (actuator_names p ++ output_names p) x s)
