-- Archived calls, and the passes that are released when they have exactly these.
use Rattle.std.proofs.Common.{◌≡◌, ◌≢◌, ◌⊎◌, ◌<◌, ◌++◌, ◌∷◌, ◌==◌, ◌+◌, ℕ, List, [], Bool, true, false, cond, inl, inr, ⊎_elim, append_assoc, drop, length, slice_index_or, refl, sym, ap, ◌∙◌, subst, zero, suc, arith}
use Rattle.std.specs.List.{Contains, remove}
use Rattle.std.proofs.lemmas.Bool.{cases_eq}
use Rattle.std.proofs.lemmas.List.{drop_more, get_or_default}
use Rattle.locked_book.specs.Books.{PassValue}
use Rattle.rig_model.specs.Logs.{calls_of_seat}
use Rattle.rig_model.specs.declared.logged.Call.{Call}
use Rattle.rig_model.specs.declared.logged.Logged.{Logged}
use Rattle.rig_model.specs.declared.logged.Logged.TheVariants as logged
use Rattle.rig_server.specs.inner.Archived.{IsReleased, archived_of}

-- the calls of a log are those of its first entry, and then those of the rest
pub calls_from : (seat : ℕ) (e : Logged) (log : List Logged) → calls_of_seat seat (e ∷ log) ≡ calls_of_seat seat (e ∷ []) ++ calls_of_seat seat log
calls_from seat (logged.Call s c) log = by (s == seat) where
  by : (b : Bool) → cond b (c ∷ calls_of_seat seat log) (calls_of_seat seat log) ≡ cond b (c ∷ []) [] ++ calls_of_seat seat log
  by true = refl
  by false = refl
calls_from seat (logged.Tick frame) log = refl
calls_from seat (logged.Done j) log = refl

-- the calls of a log are those of its beginning, and then those of the rest
pub calls_both : (seat : ℕ) (log rest : List Logged) → calls_of_seat seat (log ++ rest) ≡ calls_of_seat seat log ++ calls_of_seat seat rest
calls_both seat [] rest = refl
calls_both seat (e ∷ log) rest =
    calls_from seat e (log ++ rest) ∙ ap (λ cs. calls_of_seat seat (e ∷ []) ++ cs) (calls_both seat log rest)
    ∙ sym (append_assoc (calls_of_seat seat (e ∷ [])) (calls_of_seat seat log) (calls_of_seat seat rest))
    ∙ ap (λ cs. cs ++ calls_of_seat seat rest) (sym (calls_from seat e log))

-- one more entry of a log is noted
pub one_noted : (log : List Logged) (i : ℕ) (entry : Logged) (old new : List Call) (seat : ℕ)
    → i < length log
    → entry ≡ slice_index_or log i entry
    → new ≡ old ++ calls_of_seat seat (entry ∷ [])
    → new ++ calls_of_seat seat (drop (i + 1) log) ≡ old ++ calls_of_seat seat (drop i log)
one_noted log i entry old new seat lt is added =
    let rest = calls_of_seat seat (drop (i + 1) log) in
    let first = sym (calls_from seat entry (drop (i + 1) log)) ∙ ap (calls_of_seat seat) (ap (λ e. e ∷ drop (i + 1) log) is ∙ sym (drop_more log i entry lt)) in
    ap (λ l. l ++ rest) added ∙ (append_assoc old (calls_of_seat seat (entry ∷ [])) rest ∙ ap (λ l. old ++ l) first)

-- an element of a list is one after the removal of a place, or is at that place
pub kept : {X : Type 0} (xs : List X) (i : ℕ) (y : X) → Contains xs y → Contains (remove xs i) y ⊎ (slice_index_or xs i y ≡ y)
kept [] i y (k, lt, is) = absurd (omega (arith, lt))
kept (x ∷ xs) zero y (zero, lt, is) = inr is
kept (x ∷ xs) zero y (suc k, lt, is) = inl (k, omega (arith, lt), is)
kept (x ∷ xs) (suc i) y (zero, lt, is) = inl (zero, omega arith, is)
kept (x ∷ xs) (suc i) y (suc k, lt, is) = ⊎_elim (λ (c : Contains (remove xs i) y). inl (suc c.0, omega (arith, c.1), c.2)) (λ e. inr e) (kept xs i y (k, omega (arith, lt), is))

-- an element after the removal of a place was one before
pub was : {X : Type 0} (xs : List X) (i : ℕ) (y : X) → Contains (remove xs i) y → Contains xs y
was [] zero y (k, lt, is) = absurd (omega (arith, lt))
was [] (suc i) y (k, lt, is) = absurd (omega (arith, lt))
was (x ∷ xs) zero y (k, lt, is) = (suc k, omega (arith, lt), is)
was (x ∷ xs) (suc i) y (zero, lt, is) = (zero, omega arith, is)
was (x ∷ xs) (suc i) y (suc k, lt, is) = let c = was xs i y (k, omega (arith, lt), is) in (suc c.0, omega (arith, c.1), c.2)

-- at first nothing is released
pub released_none : (rows : List (List Call)) (passes : List PassValue) → IsReleased rows rows passes passes
released_none rows passes = record { compared = λ p c. inl c; none_added = λ p c. c; forgotten = λ seat. inl refl }

-- one more pass is released, if its calls are the archived ones of its seat, and only these are forgotten
pub released_one : (rows_before rows rows_after : List (List Call)) (before passes : List PassValue) (at : ℕ) (pass : PassValue)
    → IsReleased rows_before rows before passes
    → at < length passes
    → slice_index_or passes at pass ≡ pass
    → pass.calls ≡ archived_of rows pass.seat
    → archived_of rows_after pass.seat ≡ []
    → ((s : ℕ) → s ≢ pass.seat → archived_of rows_after s ≡ archived_of rows s)
    → IsReleased rows_before rows_after before (remove passes at)
released_one rows_before rows rows_after before passes at pass released lt is calls none others = record {
  compared = λ p c. ⊎_elim (λ (there : Contains passes p). ⊎_elim inl (λ (at_it : slice_index_or passes at p ≡ p). inr (its p (sym at_it ∙ (get_or_default passes at p pass lt ∙ is)))) (kept passes at p there)) inr
      (released.compared p c);
  none_added = λ p c. released.none_added p (was passes at p c);
  forgotten = λ seat. ⊎_elim (λ (same : seat ≡ pass.seat). inr (forgotten_at seat same (released.forgotten seat)))
      (λ (other : seat ≡ pass.seat → ⊥). ⊎_elim (λ e. inl (others seat other ∙ e)) (λ w. inr (others seat other ∙ w.0, w.1, w.2, w.3, w.4)) (released.forgotten seat)) (cases_eq seat pass.seat);
} where
  its : (p : PassValue) → p ≡ pass → (p.calls ≡ []) ⊎ (p.calls ≡ archived_of rows_before p.seat)
  its p same = subst (λ (q : PassValue). (q.calls ≡ []) ⊎ (q.calls ≡ archived_of rows_before q.seat)) (sym same)
      (⊎_elim (λ e. inr (calls ∙ e)) (λ w. inl (calls ∙ w.0)) (released.forgotten pass.seat))

  forgotten_at : (seat : ℕ) → seat ≡ pass.seat → archived_of rows seat ≡ archived_of rows_before seat
      ⊎ ((archived_of rows seat ≡ []) × (p : PassValue) × Contains before p × (p.seat ≡ seat) × (p.calls ≡ archived_of rows_before seat))
      → (archived_of rows_after seat ≡ []) × (p : PassValue) × Contains before p × (p.seat ≡ seat) × (p.calls ≡ archived_of rows_before seat)
  forgotten_at seat same (inl e) = (
    ap (archived_of rows_after) same ∙ none,
    pass,
    released.none_added pass (at, lt, is),
    sym same,
    calls ∙ (ap (archived_of rows) (sym same) ∙ e),
  )
  forgotten_at seat same (inr w) = (ap (archived_of rows_after) same ∙ none, w.1, w.2, w.3, w.4)
