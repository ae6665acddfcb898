-- What traces keep, step by step.
use Rattle.std.proofs.Common.{◌≡◌, ℕ, zero, suc, ◌-◌, ◌<◌, ◌≤◌, ⊎_elim, List, [], ◌∷◌, ◌++◌, length, take, drop, reverse, refl, ap, sym, ◌∙◌, arith}
use Rattle.std.proofs.Math.Seq.{take-append_seam}
use Rattle.std.proofs.lemmas.Bool.{cases_lt}
use Rattle.std.proofs.lemmas.List.{length-drop, length-reverse, reverse-append, take-append-drop, take-take, take_all}
use Rattle.tenant_trace.specs.declared.records.Happening.{Happening}
use Rattle.tenant_trace.specs.declared.records.Record.{Record}
use Rattle.tenant_trace.specs.Trace.{LastRecords, with_happenings}
use Rattle.tenant_trace.specs.cited.Noted.{noted, pushed}

-- the last n of a list, the last first, are the first n of the reversed list
pub last_first : {X : Type 0} (n : ℕ) (xs : List X) → reverse (drop (length xs - n) xs) ≡ take n (reverse xs)
last_first n xs = ⊎_elim some all (cases_lt n (length xs))
  where
    k : ℕ
    k = length xs - n

    all : length xs ≤ n → reverse (drop k xs) ≡ take n (reverse xs)
    all le =
        let none : k ≡ 0 = omega (arith, le) in
        (λ i. reverse (drop (none i) xs)) ∙ sym (take_all n (reverse xs) (omega (arith, le, length-reverse xs)))

    some : n < length xs → reverse (drop k xs) ≡ take n (reverse xs)
    some lt =
        let long : length (reverse (drop k xs)) ≡ n = omega (arith, lt, length-reverse (drop k xs), length-drop k xs) in
        sym (take-append_seam (reverse (drop k xs)) (reverse (take k xs)))
        ∙ (λ i. take (long i) (reverse (drop k xs) ++ reverse (take k xs)))
        ∙ ap (take n) (sym (reverse-append (take k xs) (drop k xs)) ∙ ap reverse (take-append-drop k xs))

-- only what was kept before matters
take_pushed : {X : Type 0} (n : ℕ) (x : X) (xs : List X) → take n (x ∷ take n xs) ≡ take n (x ∷ xs)
take_pushed zero x xs = refl
take_pushed (suc n) x xs = ap (λ ys. x ∷ ys) (take-take n (suc n) xs (omega arith))

-- a trace keeps the last of all records
pub last_of_all : (most n : ℕ) (hs : List Happening) (all : List Record)
    → noted n hs (record { most = most; records = take most all }) ≡ record { most = most; records = take most (with_happenings n hs all) }
last_of_all most n [] all = refl
last_of_all most n (h ∷ hs) all =
    let r : Record = record { tick = n; happening = h } in
    ap (λ rs. noted n hs (record { most = most; records = rs })) (take_pushed most r all) ∙ last_of_all most n hs (r ∷ all)

-- one list of happenings after another
pub noted_behind : (n : ℕ) (hs later : List Happening) (t : LastRecords) → noted n (hs ++ later) t ≡ noted n later (noted n hs t)
noted_behind n [] later t = refl
noted_behind n (h ∷ hs) later t = noted_behind n hs later (pushed (record { tick = n; happening = h }) t)
