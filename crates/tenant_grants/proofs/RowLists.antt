-- Lists of rows, as they grow.
use Rattle.std.proofs.Common.{◌≡◌, ℕ, ◌+◌, List, [], ◌∷◌, ◌++◌, map, take, slice_get, Some, refl, ap, ◌∙◌}
use Rattle.std.proofs.lemmas.List.{append_assoc, map-append, take_more}
use Rattle.std.proofs.lemmas.Option.{slice_get_within, get_or_from_slice_get}
use Rattle.tenant_grants.specs.Grants.{rows_of}
use Rattle.tenant_grants.specs.inner.Tables.{bind_of}
use Rattle.tenant_grants.specs.declared.rows.Offer.{Offer}
use Rattle.tenant_grants.specs.declared.rows.Row.{Row}
use Rattle.tenant_grants.specs.declared.rows.Row.TheVariants as row
use Rattle.tenant_grants.specs.declared.tables.Sensor.{Sensor}
use Rattle.tenant_grants.specs.declared.tables.Supplier.{Supplier}

-- after the rows of the first i comes the row of the next
pub row_pushed : {A : Type 0} (f : A → Row) (xs : List A) (i : ℕ) (x : A) (old before new : List Row) → slice_get xs i ≡ Some x
    → before ≡ old ++ map f (take i xs) → new ≡ before ++ f x ∷ [] → new ≡ old ++ map f (take (i + 1) xs)
row_pushed f xs i x old before new at h p =
    let more : take (i + 1) xs ≡ take i xs ++ x ∷ [] =
    take_more xs i x (slice_get_within xs i x at) ∙ ap (λ y. take i xs ++ y ∷ []) (get_or_from_slice_get xs i x x at) in
    rw (p, h, more, map-append f (take i xs) (x ∷ [])) (append_assoc old (map f (take i xs)) (f x ∷ []))

-- the offers' rows, then those of the entries, are all rows
pub listed : (os : List Offer) (es : List (Sensor × Supplier)) → map (λ o. row.Offer o) os ++ map (λ e. row.Bind (bind_of e)) es ≡ rows_of os (map bind_of es)
listed os es = ap (λ bs. map (λ o. row.Offer o) os ++ bs) (twice es)
  where
    twice : (es : List (Sensor × Supplier)) → map (λ e. row.Bind (bind_of e)) es ≡ map (λ b. row.Bind b) (map bind_of es)
    twice [] = refl
    twice (e ∷ es) = ap (λ bs. row.Bind (bind_of e) ∷ bs) (twice es)
