-- The records of its row that a tenant's trace keeps.
use Rattle.std.proofs.Common.{◌≡◌, ℕ, List, [], ◌∷◌, take, ap, sym, ◌∙◌, arith}
use Rattle.std.proofs.lemmas.List.{take-take}
use Rattle.rig_model.specs.declared.trace.records.Happening.{Happening}
use Rattle.rig_model.specs.declared.trace.records.Record.{Record}
use Rattle.rig_model.specs.trace.Trace.{LastRecords, with_happenings}
use Rattle.rig_model.specs.trace.cited.Noted.{noted, pushed}
use Rattle.rig_model.proofs.of_trace.Kept.{last_of_all}
use Rattle.rig_model.specs.Row.{Row, recorded}
use Rattle.tenant_state.specs.Standing.{with_last}
use Rattle.tenant_state.specs.inner.Tenants.{IsTraceOf}

-- if a trace has the last of these records, it has the last of all after more are noted
pub last_noted : (most n : ℕ) (hs : List Happening) (all : List Record) (t : LastRecords) → t.most ≡ most → t.records ≡ take most all
    → (noted n hs t).records ≡ take most (with_happenings n hs all)
last_noted most n hs all t same last =
    ap (λ (t : LastRecords). (noted n hs t).records) (λ k. record { most = same k; records = last k }) ∙ ap (λ (t : LastRecords). t.records) (last_of_all most n hs all)

-- what is known of a trace still holds
pub trace_noted : (most n : ℕ) (hs : List Happening) (t : LastRecords) → IsTraceOf most t → IsTraceOf most (noted n hs t)
trace_noted most n [] t is = is
trace_noted most n (h ∷ hs) t is =
    trace_noted most n hs (pushed (record { tick = n; happening = h }) t) (record {
      same_most = is.same_most;
      few = take-take most t.most (record { tick = n; happening = h } ∷ t.records) (omega (arith, is.same_most)) ∙ (λ k. take (sym is.same_most k) (record { tick = n; happening = h } ∷ t.records));
    })

-- a row with the last records, after one more record
pub recorded_behind : (most n : ℕ) (h : Happening) (base row : Row) (t : LastRecords) → t.most ≡ most → t.records ≡ take most row.records → base ≡ with_last most row → n ≡ row.next_tick
    → record base { records = (pushed (record { tick = n; happening = h }) t).records } ≡ with_last most (recorded h row)
recorded_behind most n h base row t same last stands count = λ k. record (stands k) {
  records = (last_noted most n (h ∷ []) row.records t same last ∙ ap (λ n. take most (record { tick = n; happening = h } ∷ row.records)) count) k;
}
