use Rattle.std.proofs.Common.{◌≡◌, [], length, map, drop}
use Rattle.rig_model.specs.text.Program.{SensorDeclaration}
use Rattle.rig_model.specs.text.ProgramTrees.{sensor_of}
use Rattle.rig_model.specs.rules.Declarations.{sensor_names}
use Rattle.giotto_check.specs.cited.Slots.{slots_of}
use Rattle.giotto_check.specs.Slots.{valuation_of}
use Rattle.rig_model.specs.text.PortNames.{with_values}
use Rattle.rig_model.specs.Readings.{readings_within, reading_taken}
use Rattle.tenant_slots.proofs.sensors.sense.Given as goal

abbrev pub invariant-loop-i : goal.invariant-loop-i
invariant-loop-i l =
    let left = map sensor_of (drop l.i l.sensors) in
    let taken = reading_taken (readings_within l.budgets.reads l.frame) [] in
    record {
      long : length l.values ≡ slots_of l.checked;
      written : with_values (valuation_of l.checked l.values) (map (λ (s : SensorDeclaration). s.name) left) (map taken left)
          ≡ with_values (valuation_of l.checked l.initial.values) (sensor_names l.checked) (map taken l.checked.sensors);
    }
