-- Whether a waiting program is installed, and the row after an installation.
use Rattle.std.proofs.Common.{◌≡◌, ℕ, ◌⊎◌, ◌<◌, arith, Bool, true, false, cond, ℤ, List, [], ◌∷◌, Option, Some, None, refl, ap, sym, ◌∙◌, ⊎_elim, inl, inr}
use Rattle.std.specs.Prelude.{◌==◌, is_some, slice_get}
use Rattle.std.proofs.lemmas.Bool.{eq-eqb, ne_eqb, false≢true}
use Rattle.giotto_tasks.specs.Names.{Valuation}
use Rattle.giotto_tasks.proofs.cited.TestLemmas.{cond-same}
use Rattle.rig_model.specs.text.Program.{GiottoProgram, ModeDeclaration}
use Rattle.rig_model.specs.Readings.{Readings}
use Rattle.rig_model.specs.Replacement.{carried_ports}
use Rattle.tenant_state.specs.declared.tenants.Active.{Active}
use Rattle.tenant_state.specs.declared.tenants.State.TheVariants.{Running}
use Rattle.tenant_state.specs.declared.tenants.waiting.Waiting.{Waiting}
use Rattle.rig_model.specs.grants.Grants.{GrantRows}
use Rattle.tenant_slots.specs.well_formed.Slots.{valuation_of}
use Rattle.tenant_slots.specs.Places.{name_of_mode}
use Rattle.rig_model.specs.declared.trace.records.Happening.TheVariants as happening
use Rattle.rig_model.specs.trace.Trace.{LastRecords}
use Rattle.rig_model.specs.trace.cited.Noted.{noted}
use Rattle.rig_model.specs.Row.{ActiveTask, Row, in_mode, is_running, recorded, where_some}
use Rattle.rig_model.specs.SecondHalf.{counted, installed, invoked_in_mode, moved_on, replaced_if_due, second_half_of, second_half_running, sensed, switched}
use Rattle.rig_model.specs.declared.trace.records.Record.{Record}
use Rattle.std.specs.Option.{option_map_or}
use Rattle.rig_model.specs.rules.Declarations.{mode_named}
use Rattle.tenant_slots.specs.well_formed.cited.Facts.{ProgramFits}
use Rattle.tenant_slots.proofs.cited.Numbered.{mode_here}
use Rattle.tenant_state.specs.Standing.{most_at, most_in_mode, most_released, with_last}
use Rattle.tenant_state.specs.cited.Standing.{IsSettled}
use Rattle.tenant_state.proofs.Records.{recorded_behind}
use Rattle.tenant_state.proofs.SecondHalfSteps.{none_waits}
use Rattle.tenant_state.proofs.Stops.{row_of}

-- the row with a new program installed in place of the old one
abbrev in_place : GiottoProgram → GiottoProgram → Row → Row
in_place old new row = recorded (happening.Replaced new.start) (record row {
  program = Some new;
  waiting = None;
  mode = new.start;
  mode_time = 0;
  active = [];
  ports = carried_ports row.ports old new;
})

pub installed_is : (old new : GiottoProgram) (row : Row) → row.program ≡ Some old → installed new row ≡ in_place old new row
installed_is old new row e = ap (λ o. where_some (λ old row. in_place old new row) o row) e

not_installed : (new : GiottoProgram) (row : Row) → row.program ≡ None → installed new row ≡ row
not_installed new row e = ap (λ o. where_some (λ old row. in_place old new row) o row) e

-- if an installation is due
pub due_is : (new : GiottoProgram) (row : Row) → row.mode_time ≡ 0 → row.waiting ≡ Some new → replaced_if_due row ≡ installed new row
due_is new row begins waits = ap (λ b. cond b (where_some installed row.waiting row) row) (eq-eqb row.mode_time 0 begins) ∙ ap (λ w. where_some installed w row) waits

-- no program is installed in mid-round, or if none waits, or if there is no program to replace
pub settled_later : (row : Row) → (row.mode_time ≡ 0 → ⊥) → IsSettled row
settled_later row later rs = ap (λ b. cond b (where_some installed row.waiting (record row { records = rs })) (record row { records = rs })) (ne_eqb row.mode_time 0 later)

pub settled_alone : (row : Row) → row.waiting ≡ None → IsSettled row
settled_alone row none rs = none_waits (record row { records = rs }) none

pub settled_unloaded : (row : Row) → row.program ≡ None → IsSettled row
settled_unloaded row none rs =
    let r : Row = record row { records = rs } in
    ap (λ s. cond (row.mode_time == 0) s r) (by row.waiting) ∙ cond-same (row.mode_time == 0) r
  where
    by : (w : Option GiottoProgram) → where_some installed w (record row { records = rs }) ≡ record row { records = rs }
    by None = refl
    by (Some new) = not_installed new (record row { records = rs }) none

-- a program is installed, or the row is unchanged
abbrev WasInstalled : Row → Type 0
WasInstalled row = (old : GiottoProgram) × (new : GiottoProgram) × (row.program ≡ Some old) × (replaced_if_due row ≡ installed new row)

either : (row : Row) → (replaced_if_due row ≡ row) ⊎ WasInstalled row
either row = by (row.mode_time == 0) refl row.waiting refl row.program refl
  where
    at : (b : Bool) → (row.mode_time == 0) ≡ b → (w : Option GiottoProgram) → row.waiting ≡ w → replaced_if_due row ≡ cond b (where_some installed w row) row
    at b e w f = (λ k. cond (e k) (where_some installed (f k) row) row)

    by : (b : Bool) → (row.mode_time == 0) ≡ b → (w : Option GiottoProgram) → row.waiting ≡ w → (o : Option GiottoProgram) → row.program ≡ o → (replaced_if_due row ≡ row) ⊎ WasInstalled row
    by false e w f o g = inl (at false e w f)
    by true e None f o g = inl (at true e None f)
    by true e (Some new) f None g = inl (at true e (Some new) f ∙ not_installed new row g)
    by true e (Some new) f (Some old) g = inr (old, new, g, at true e (Some new) f)

pub replaced_runs : (row : Row) → is_running (replaced_if_due row) ≡ is_running row
replaced_runs row = ⊎_elim (λ e. ap is_running e) (λ was. ap is_running (was.3 ∙ installed_is was.0 was.1 row was.2)) (either row)

-- after an installation there is none left to install
pub replaced_twice : (row : Row) → replaced_if_due (replaced_if_due row) ≡ replaced_if_due row
replaced_twice row = ⊎_elim (λ e. ap replaced_if_due e)
    (λ was.
    let here = was.3 ∙ installed_is was.0 was.1 row was.2 in
    ap replaced_if_due here ∙ none_waits (in_place was.0 was.1 row) refl ∙ sym here)
    (either row)

-- the second half goes on from the row after the installation
pub installed_first : (readings : Readings) (granted : Valuation) (row : Row) → is_running row ≡ true → second_half_of readings granted (replaced_if_due row) ≡ second_half_of readings granted row
installed_first readings granted row runs =
    goes_on (replaced_if_due row) (replaced_runs row ∙ runs)
    ∙ ap (λ r. counted (rest r)) (replaced_twice row)
    ∙ sym (goes_on row runs)
  where
    rest : Row → Row
    rest r = in_mode (λ p m row. moved_on m (invoked_in_mode p m row)) (in_mode (λ p m row. switched p m (sensed readings granted p row)) r)

    goes_on : (r : Row) → is_running r ≡ true → second_half_of readings granted r ≡ counted (rest (replaced_if_due r))
    goes_on r e = ap (λ b. counted (cond b (second_half_running readings granted r) r)) e

-- what can be released depends on the program, the mode, its time and the waiting program
most_kept : (row : Row) (active : List ActiveTask) (ports : Valuation) (records : List Record)
    → most_in_mode (replaced_if_due (record row { active = active; ports = ports; records = records })) ≡ most_in_mode (replaced_if_due row)
most_kept row active ports records = by (row.mode_time == 0) row.waiting row.program
  where
    by : (b : Bool) (w o : Option GiottoProgram)
        → most_in_mode (cond b (where_some installed w (record row { program = o; active = active; ports = ports; records = records })) (record row { program = o; active = active; ports = ports; records = records }))
        ≡ most_in_mode (cond b (where_some installed w (record row { program = o })) (record row { program = o }))
    by false w o = refl
    by true None o = refl
    by true (Some new) None = refl
    by true (Some new) (Some old) = refl

pub released_as_before : (row : Row) (active : List ActiveTask) (ports : Valuation) (records : List Record)
    → most_released (record row { active = active; ports = ports; records = records }) ≡ most_released row
released_as_before row active ports records = ap (λ n. cond (is_running row) n 0) (most_kept row active ports records)

-- the row after an installation can release exactly as much
pub released_behind : (row : Row) → is_running row ≡ true → most_released (replaced_if_due row) ≡ most_released row
released_behind row runs =
    ap (λ b. cond b (most_in_mode (replaced_if_due (replaced_if_due row))) 0) (replaced_runs row ∙ runs) ∙ ap most_in_mode (replaced_twice row)
    ∙ sym (ap (λ b. cond b (most_in_mode (replaced_if_due row)) 0) runs)

-- without a program nothing is released
pub released_is_loaded : (row : Row) → 0 < most_released row → is_some row.program ≡ true
released_is_loaded row some = by row.program refl
  where
    by : (o : Option GiottoProgram) → row.program ≡ o → is_some o ≡ true
    by (Some p) e = refl
    by None e =
        let none : most_in_mode row ≡ 0 = ap (λ o. option_map_or (λ p. option_map_or (λ m. most_at p m row.mode_time) (mode_named p row.mode) 0) o 0) e in
        let all = ap most_in_mode (settled_unloaded row e row.records) ∙ none in
        absurd (omega (arith, some, ap (λ n. cond (is_running row) n 0) all, cond-same {X = ℕ} (is_running row) 0))

-- the most tasks that can be released are those of the program that is installed
pub most_installed : (new : GiottoProgram) (fits : ProgramFits new) (row : Row) → is_running row ≡ true → is_some row.program ≡ true → row.mode_time ≡ 0 → row.waiting ≡ Some new
    → (start : ℕ) (m : ModeDeclaration) → slice_get new.modes start ≡ Some m → m.name ≡ new.start → most_at new m 0 ≡ most_released row
most_installed new fits row runs loaded begins waits start m at starts = sym (by row.program refl loaded)
  where
    named : mode_named new new.start ≡ Some m
    named = ap (mode_named new) (sym (ap (λ o. option_map_or (λ (m : ModeDeclaration). m.name) o []) at ∙ starts)) ∙ mode_here new fits start m at

    by : (o : Option GiottoProgram) → row.program ≡ o → is_some o ≡ true → most_released row ≡ most_at new m 0
    by None e some = absurd (false≢true some)
    by (Some old) e some =
        ap (λ b. cond b (most_in_mode (replaced_if_due row)) 0) runs ∙ ap most_in_mode (due_is new row begins waits ∙ installed_is old new row e)
        ∙ ap (λ o. option_map_or (λ m. most_at new m 0) o 0) named

-- the row that a tenant's fields represent after an installation
pub stands_installed : (grants : GrantRows) (old new : GiottoProgram) (mode time : ℕ) (active : List Active) (values : List ℤ) (waiting : Option Waiting) (trace : LastRecords) (count most : ℕ) (row : Row) (start : ℕ) (written : List ℤ) (told : LastRecords)
    → trace.most ≡ most → row_of grants Running (Some old) mode time active values waiting trace count ≡ with_last most row → name_of_mode new start ≡ new.start
    → valuation_of new written ≡ carried_ports (valuation_of old values) old new → told ≡ noted count (happening.Replaced new.start ∷ []) trace
    → row_of grants Running (Some new) start 0 [] written None told count ≡ with_last most (installed new row)
stands_installed grants old new mode time active values waiting trace count most row start written told same stands starts carried tells =
    (λ k. row_of grants Running (Some new) start 0 [] written None (tells k) count)
    ∙ recorded_behind most count (happening.Replaced new.start) (row_of grants Running (Some new) start 0 [] written None trace count)
    (record row { program = Some new; waiting = None; mode = new.start; mode_time = 0; active = []; ports = carried_ports row.ports old new }) trace same (ap (λ (r : Row). r.records) stands)
    (λ k. record (stands k) { program = Some new; waiting = None; mode = starts k; mode_time = 0; active = []; ports = (carried ∙ ap (λ (r : Row). carried_ports r.ports old new) stands) k })
    (ap (λ (r : Row). r.next_tick) stands)
    ∙ ap (with_last most) (sym (installed_is old new row (sym (ap (λ (r : Row). r.program) stands))))
