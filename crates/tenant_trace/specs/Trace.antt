-- Records of what happens to a tenant, and how many are kept.
use Rattle.std.specs.Prelude.{ℕ, List, [], ◌∷◌}
use Rattle.tenant_trace.specs.declared.records.Happening.{Happening}
use Rattle.tenant_trace.specs.declared.records.Record.{Record}

-- the last records, the newest first, and the most that are kept
pub record LastRecords : Type 0 where
  pub most : ℕ
  pub records : List Record

-- adds these happenings in their order as records of instant n; each new record goes to the front
abbrev pub with_happenings : ℕ → List Happening → List Record → List Record
with_happenings n [] records = records
with_happenings n (h ∷ hs) records = with_happenings n hs (record { tick = n; happening = h } ∷ records)
