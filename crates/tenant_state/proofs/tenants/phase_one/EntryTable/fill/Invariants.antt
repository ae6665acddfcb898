use Rattle.std.proofs.Common.{◌≡◌, false, length}
use Rattle.tenant_state.specs.inner.EntryTable.{IsTableOf}
use Rattle.tenant_state.proofs.tenants.phase_one.EntryTable.fill.Given as goal
use Rattle.tenant_slots.specs.declared.due.TheConstants.{TABLED_TASKS}

abbrev pub invariant-loop-i : goal.invariant-loop-i
invariant-loop-i l =
    record {
      long : length l.self.numbers ≡ TABLED_TASKS;
      table : IsTableOf l.i l.active l.self.numbers;
      partial : l.self.is_whole ≡ false;
    }
