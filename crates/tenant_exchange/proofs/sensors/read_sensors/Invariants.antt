use Rattle.std.proofs.Common.{◌≡◌, [], length}
use Rattle.giotto_tasks.specs.Names.{Valuation}
use Rattle.tenant_slots.specs.well_formed.cited.Slots.{slots_of}
use Rattle.tenant_slots.specs.well_formed.Slots.{valuation_of}
use Rattle.rig_model.specs.Readings.{readings_within}
use Rattle.tenant_slots.specs.cited.Readings.{with_readings}
use Rattle.tenant_exchange.proofs.GrantedAlong.{granted_before}
use Rattle.tenant_exchange.proofs.sensors.read_sensors.Given as goal

abbrev pub invariant-loop-i : goal.invariant-loop-i
invariant-loop-i l =
    let readings = readings_within l.budgets.reads l.frame in
    record {
      long : length l.values ≡ slots_of l.checked;
      same : l.granted ≡ l.initial.granted;
      taken : (ports : Valuation) → valuation_of l.checked l.initial.values ≡ with_readings l.checked readings [] ports
          → valuation_of l.checked l.values ≡ with_readings l.checked readings (granted_before l.i l.grants.binds l.initial.granted) ports;
    }
