-- The records of updates and of outputs in a trace, one after the other.
use Rattle.std.proofs.Common.{◌≡◌, ℕ, zero, suc, ◌+◌, ◌<◌, ◌≤◌, min, true, false, cond, ℤ, List, [], ◌∷◌, ◌++◌, length, drop, get_or, refl, sym, ap, ◌∙◌, arith}
use Rattle.std.proofs.lemmas.List.{drop_more}
use Rattle.giotto_tasks.specs.declared.names.Name.{Name}
use Rattle.giotto_tasks.specs.Meaning.{value_of}
use Rattle.giotto_tasks.specs.Names.{Valuation}
use Rattle.rig_model.specs.text.Program.{ActuatorUpdate, ModeDeclaration}
use Rattle.rig_model.specs.trace.Trace.{LastRecords}
use Rattle.rig_model.specs.trace.cited.Noted.{noted, pushed}
use Rattle.rig_model.specs.declared.trace.records.Happening.TheVariants as happening
use Rattle.rig_model.specs.FirstHalf.{outputs_happened}
use Rattle.rig_model.specs.Updates.{is_updated, updated, updates_happened}

module _ (m : ModeDeclaration) (time n : ℕ) (us : List ActuatorUpdate) (k : ℕ) (u : ActuatorUpdate) (ports after : Valuation) (t whole : LastRecords) (here : drop k us ≡ u ∷ drop (k + 1) us) (e : updated m time u ports ≡ after)
    (h : noted n (updates_happened m time (drop k us) ports) t ≡ whole) where
  -- an update that is made adds one record
  pub update_noted : (x : Name) (z : ℤ) → is_updated m time u ports ≡ true → x ≡ u.actuator → z ≡ value_of u.value ports
      → noted n (updates_happened m time (drop (k + 1) us) after) (pushed (record { tick = n; happening = happening.Act x z }) t) ≡ whole
  update_noted x z made name value =
      let rest = drop (k + 1) us in
      let one : noted n (updates_happened m time (u ∷ rest) ports) t ≡ noted n (updates_happened m time rest (updated m time u ports)) (pushed (record { tick = n; happening = happening.Act u.actuator (value_of u.value ports) }) t) =
      ap (λ b. noted n (cond b (happening.Act u.actuator (value_of u.value ports) ∷ []) [] ++ updates_happened m time rest (updated m time u ports)) t) made in
      rw (name, value, ← e) (sym one ∙ ap (λ l. noted n (updates_happened m time l ports) t) (sym here) ∙ h)

  -- an update that is left out adds none
  pub update_left_out : is_updated m time u ports ≡ false → noted n (updates_happened m time (drop (k + 1) us) after) t ≡ whole
  update_left_out waits =
      let rest = drop (k + 1) us in
      let none : noted n (updates_happened m time (u ∷ rest) ports) t ≡ noted n (updates_happened m time rest (updated m time u ports)) t =
      ap (λ b. noted n (cond b (happening.Act u.actuator (value_of u.value ports) ∷ []) [] ++ updates_happened m time rest (updated m time u ports)) t) waits in
      rw (← e) (sym none ∙ ap (λ l. noted n (updates_happened m time l ports) t) (sym here) ∙ h)

-- an output that is written adds one record
pub next_noted : (n : ℕ) (xs : List Name) (zs : List ℤ) (i : ℕ) (x : Name) (z : ℤ) (t whole : LastRecords) → i < length xs → i < length zs → get_or xs i x ≡ x → get_or zs i z ≡ z
    → noted n (outputs_happened (drop i xs) (drop i zs)) t ≡ whole
    → noted n (outputs_happened (drop (i + 1) xs) (drop (i + 1) zs)) (pushed (record { tick = n; happening = happening.Out x z }) t) ≡ whole
next_noted n xs zs i x z t whole left more name number h =
    let names : drop i xs ≡ x ∷ drop (i + 1) xs = drop_more xs i x left ∙ ap (λ y. y ∷ drop (i + 1) xs) name in
    let numbers : drop i zs ≡ z ∷ drop (i + 1) zs = drop_more zs i z more ∙ ap (λ y. y ∷ drop (i + 1) zs) number in
    sym (rw (names, numbers) refl) ∙ h

none_happened : (xs : List Name) → outputs_happened xs [] ≡ []
none_happened [] = refl
none_happened (x ∷ xs) = refl

-- all outputs are recorded
pub all_noted : (n : ℕ) (xs : List Name) (zs : List ℤ) (i : ℕ) (t : LastRecords) → min (length xs) (length zs) ≤ i → noted n (outputs_happened (drop i xs) (drop i zs)) t ≡ t
all_noted n [] zs zero t le = refl
all_noted n (x ∷ xs) [] zero t le = refl
all_noted n (x ∷ xs) (z ∷ zs) zero t le = absurd (omega (arith, le))
all_noted n [] zs (suc i) t le = refl
all_noted n (x ∷ xs) [] (suc i) t le = ap (λ hs. noted n hs t) (none_happened (drop i xs))
all_noted n (x ∷ xs) (z ∷ zs) (suc i) t le = all_noted n xs zs i t (omega (arith, le))
