-- What a stop leaves, by the tenant's fields.
use Rattle.std.proofs.Common.{◌≡◌, ℕ, ℤ, List, [], ◌∷◌, take, Option, Some, None, refl, sym, ap, ◌∙◌}
use Rattle.std.specs.Option.{option_map_or}
use Rattle.giotto_tasks.specs.Names.{Valuation}
use Rattle.rig_model.specs.text.Program.{GiottoProgram}
use Rattle.rig_model.specs.config.Roster.{no_budgets}
use Rattle.rig_model.specs.grants.Grants.{GrantRows}
use Rattle.rig_model.specs.Ports.{actuators_reset}
use Rattle.tenant_state.specs.declared.tenants.Active.{Active}
use Rattle.tenant_state.specs.declared.tenants.waiting.Waiting.{Waiting}
use Rattle.tenant_state.specs.declared.tenants.Reason.{Reason}
use Rattle.tenant_state.specs.declared.tenants.State as code
use Rattle.tenant_state.specs.declared.tenants.State.TheVariants as states
use Rattle.rig_model.specs.FirstHalf.{happening_of, stopped_with}
use Rattle.rig_model.specs.Row.{StopReason, stopped, Row, recorded}
use Rattle.tenant_state.specs.Standing.{with_last}
use Rattle.tenant_state.specs.Tenants.{ports_in, reason_of, standing_of, tasks_in}
use Rattle.tenant_state.proofs.Records.{last_noted}
use Rattle.rig_model.specs.trace.Trace.{LastRecords}
use Rattle.rig_model.specs.trace.cited.Noted.{noted}

-- the ports after a stop; unchanged if there is no program
abbrev pub reset_in : Option GiottoProgram → Valuation → Valuation
reset_in o ports = option_map_or (λ p. actuators_reset p ports) o ports

-- the row after a stop
abbrev stopped_row : StopReason → Row → Row
stopped_row reason row = recorded (happening_of reason) (record row { state = stopped reason; active = []; waiting = None; ports = reset_in row.program row.ports })

is_stopped : (reason : StopReason) (row : Row) → stopped_with reason row ≡ stopped_row reason row
is_stopped reason row = by row.program
  where
    by : (o : Option GiottoProgram) → stopped_with reason (record row { program = o }) ≡ stopped_row reason (record row { program = o })
    by None = refl
    by (Some p) = refl

-- without entries there is no active task
pub none_active : (o : Option GiottoProgram) → tasks_in o [] ≡ []
none_active None = refl
none_active (Some p) = refl

-- the row that a tenant's fields represent
abbrev pub row_of : GrantRows → code.State → Option GiottoProgram → ℕ → ℕ → List Active → List ℤ → Option Waiting → LastRecords → ℕ → Row
row_of grants state program mode time active values waiting trace count = (standing_of no_budgets grants state program mode time active [] 0 values [] waiting trace count).row

pub stands_stopped : (grants : GrantRows) (state : code.State) (program : Option GiottoProgram) (mode time : ℕ) (active : List Active) (values : List ℤ) (waiting : Option Waiting) (trace : LastRecords) (count most : ℕ) (row : Row) (reason : Reason) (new : List ℤ)
    → trace.most ≡ most → row_of grants state program mode time active values waiting trace count ≡ with_last most row → ports_in program new ≡ reset_in program (ports_in program values)
    → row_of grants (states.Stopped reason) program mode time [] new None (noted count (happening_of (reason_of reason) ∷ []) trace) count ≡ with_last most (stopped_with (reason_of reason) row)
stands_stopped grants state program mode time active values waiting trace count most row reason new same stands reset =
    (λ k. record {
      state = stopped (reason_of reason);
      program = (stands k).program;
      mode = (stands k).mode;
      mode_time = (stands k).mode_time;
      active = none_active program k;
      ports = (reset ∙ ap (λ (r : Row). reset_in r.program r.ports) stands) k;
      offers = (stands k).offers;
      binds = (stands k).binds;
      waiting = None;
      records = (last_noted most count (happening_of (reason_of reason) ∷ []) row.records trace same (ap (λ (r : Row). r.records) stands)
          ∙ ap (λ (r : Row). take most (record { tick = r.next_tick; happening = happening_of (reason_of reason) } ∷ row.records)) stands) k;
      next_tick = (stands k).next_tick;
    })
    ∙ ap (with_last most) (sym (is_stopped (reason_of reason) row))
