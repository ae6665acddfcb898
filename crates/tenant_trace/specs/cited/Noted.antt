-- Which of all that happens to a tenant a trace keeps.
use Rattle.std.specs.Prelude.{ℕ, List, [], ◌∷◌, take}
use Rattle.tenant_trace.specs.declared.records.Happening.{Happening}
use Rattle.tenant_trace.specs.declared.records.Record.{Record}
use Rattle.tenant_trace.specs.Trace.{LastRecords}

-- adds a record; if there are more than may be kept, the oldest goes
abbrev pub pushed : Record → LastRecords → LastRecords
pushed r t = record t { records = take t.most (r ∷ t.records) }

-- what a trace keeps after these happenings of instant n
abbrev pub noted : ℕ → List Happening → LastRecords → LastRecords
noted n [] t = t
noted n (h ∷ hs) t = noted n hs (pushed (record { tick = n; happening = h }) t)
