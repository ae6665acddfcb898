-- Passes that have the first calls of their seat.
use Rattle.std.proofs.Common.{◌≡◌, ℕ, ◌+◌, ◌<◌, ◌≤◌, Bool, cond, Option, Some, None, IfSome, List, [], ◌∷◌, ◌++◌, length, drop, refl, sym, ap, ◌∙◌, subst, arith}
use Rattle.std.proofs.lemmas.Bool.{eq-eqb}
use Rattle.std.proofs.lemmas.List.{append-nil, length-append}
use mathlib.Core.List.{IsPrefix}
use Rattle.rig_model.specs.config.Roster.{Rig}
use Rattle.rig_model.specs.declared.logged.Call.{Call}
use Rattle.rig_model.specs.declared.logged.Logged.{Logged}
use Rattle.rig_model.specs.declared.logged.Logged.TheVariants as logged
use Rattle.rig_model.specs.Logs.{calls_of_seat}
use Rattle.locked_book.specs.Books.{BookValue, PassValue, SeatValue, Knows, calls_before, length_of}
use Rattle.locked_book.specs.inner.Books.{HasFirstCalls, IsBook, seat_at}
use Rattle.locked_book.proofs.Places.{calls_append, calls_on}
use Rattle.locked_book.proofs.Steps.{as_many_calls}

-- a pass with the calls of its seat in a beginning of the log has the first calls of its seat
pub first_calls : (book : BookValue) (pass : PassValue) (front : List Logged) → pass.calls ≡ calls_of_seat pass.seat front → IsPrefix front book.log → HasFirstCalls book pass
first_calls book pass front calls p =
    (calls_of_seat pass.seat p.0, ap (calls_of_seat pass.seat) (sym p.1) ∙ calls_append pass.seat front p.0 ∙ ap (λ cs. cs ++ calls_of_seat pass.seat p.0) (sym calls))

-- if a pass has all calls of its seat in the log, it has those in a front that is the log
pub front_of_log : (E : Type 0) (front kept : Option (List Logged)) (log : List Logged) (calls : List Call) (seat : ℕ) → front ≡ kept → IfSome kept (λ f. f ≡ log) → IfSome kept (λ f. E) → (E → calls ≡ calls_of_seat seat log)
    → IfSome front (λ f. calls ≡ calls_of_seat seat f)
front_of_log E front kept log calls seat same is first all = subst (λ o. IfSome o (λ f. calls ≡ calls_of_seat seat f)) (sym same) (by kept is first)
  where
    by : (o : Option (List Logged)) → IfSome o (λ f. f ≡ log) → IfSome o (λ f. E) → IfSome o (λ f. calls ≡ calls_of_seat seat f)
    by (Some f) e none = all none ∙ ap (calls_of_seat seat) (sym e)
    by None e none = e

no_others : (cs others : List Call) → length (cs ++ others) ≡ length cs → cs ++ others ≡ cs
no_others cs [] e = append-nil cs
no_others cs (c ∷ others) e = absurd (let l = length-append cs (c ∷ others) in omega (arith, l, e))

module _ (rig : Rig) (first : ℕ) (book : BookValue) (seats : List SeatValue) (pass : PassValue) (is : IsBook rig first book seats) where
  -- if the log begins with nothing of the seat, a known pass has the calls of its seat, also after one more call
  pub all_calls : calls_before book.base pass.seat ≡ 0 → Knows book pass → pass.calls ≡ calls_of_seat pass.seat book.log
  all_calls none k = sym (ap (λ n. drop n pass.calls) none) ∙ k.calls

  pub calls_with : (c : Call) → calls_before book.base pass.seat ≡ 0 → Knows book pass → pass.calls ++ c ∷ [] ≡ calls_of_seat pass.seat (book.log ++ logged.Call pass.seat c ∷ [])
  calls_with c none k =
      ap (λ cs. cs ++ c ∷ []) (all_calls none k)
      ∙ sym (calls_on pass.seat book.log (logged.Call pass.seat c) ∙ ap (λ (b : Bool). calls_of_seat pass.seat book.log ++ cond b (c ∷ []) []) (eq-eqb pass.seat pass.seat refl))

  -- a pass that has the first calls of its seat in the log, and as many calls as the seat has in all, is known if its seat was given and it hasn't
  -- seen a longer log: then the seat has no calls before the log
  pub known_by_number : HasFirstCalls book pass → pass.seat < book.seats → (seat_at seats pass.seat).calls ≡ length pass.calls → pass.seen ≤ length_of book → Knows book pass
  known_by_number front given number seen = record {
    given = given;
    before = omega (arith, none);
    calls = ap (λ n. drop n pass.calls) none ∙ sym (front.1 ∙ no_others pass.calls front.0 as_many);
    seen = seen;
  }
    where
      many : length (calls_of_seat pass.seat book.log) ≡ length pass.calls + length front.0
      many = ap length front.1 ∙ length-append pass.calls front.0

      none : calls_before book.base pass.seat ≡ 0
      none = let n = is.counts pass.seat in let m = many in omega (arith, n, m, number)

      as_many : length (pass.calls ++ front.0) ≡ length pass.calls
      as_many = let n = is.counts pass.seat in let m = many in let l = length-append pass.calls front.0 in omega (arith, n, m, l, number)

  pub number_of_known : Knows book pass → (seat_at seats pass.seat).calls ≡ length pass.calls
  number_of_known k = as_many_calls rig first book seats pass is k
