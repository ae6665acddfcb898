-- Calls that were made on a book, one after the other.
use Rattle.std.proofs.Common.{◌≡◌, ◌≢◌, ℕ, ◌+◌, List, [], ◌∷◌, ◌++◌, length, map, take, Ok, refl, sym, ap, ◌∙◌, subst, append_assoc, append-nil, arith}
use Rattle.std.proofs.lemmas.List.{append_cancel_left, length-append, length-map, map-append, take_all}
use Rattle.rig_model.specs.Logs.{calls_of_seat}
use Rattle.rig_model.specs.declared.logged.Call.{Call}
use Rattle.rig_model.specs.declared.logged.Logged.{Logged}
use Rattle.rig_model.specs.declared.logged.Logged.TheVariants as logged
use Rattle.rig_model.specs.config.Roster.{Rig}
use Rattle.rig_model.specs.declared.lines.commands.Command.{Command}
use Rattle.locked_book.specs.Books.{AreCalled, BookValue, EndLegalLog, IsAnswered, IsLegalFrom, Knows, PassValue, asked_by, asking}
use Rattle.locked_book.specs.inner.Books.{AreMade}

pub whole : {A : Type 0} (xs : List A) → take (length xs) xs ≡ xs
whole xs = take_all (length xs) xs (omega arith)

abbrev pub called_none : (t : ℕ) (old : PassValue) → AreCalled t [] (Ok tt) old old
called_none t old = record { made = []; calls = sym (append-nil old.calls); asked = refl; all = refl; fewer = tt }

-- all of these were called, and one more after them
abbrev pub called_more : (t : ℕ) (commands : List Command) (c : Command) (old mid new : PassValue) (call : Call) → AreCalled t commands (Ok tt) old mid → asked_by call ≡ asking t c → new.calls ≡ mid.calls ++ call ∷ []
    → AreCalled t (commands ++ c ∷ []) (Ok tt) old new
called_more t commands c old mid new call so_far asked added =
    let all : length (so_far.made ++ call ∷ []) ≡ length (commands ++ c ∷ []) =
    length-append so_far.made (call ∷ []) ∙ ap (λ n. n + 1) so_far.all ∙ sym (length-append commands (c ∷ [])) in
    let before : map asked_by so_far.made ≡ map (asking t) commands =
    so_far.asked ∙ ap (λ n. map (asking t) (take n commands)) so_far.all ∙ ap (map (asking t)) (whole commands) in
    record {
      made = so_far.made ++ call ∷ [];
      calls = added ∙ ap (λ l. l ++ call ∷ []) so_far.calls ∙ append_assoc old.calls so_far.made (call ∷ []);
      asked =
          map-append asked_by so_far.made (call ∷ []) ∙ ap (λ l. l ++ asked_by call ∷ []) before ∙ ap (λ x. map (asking t) commands ++ x ∷ []) asked
          ∙ sym (map-append (asking t) commands (c ∷ [])) ∙ sym (ap (map (asking t)) (ap (λ n. take n (commands ++ c ∷ [])) all ∙ whole (commands ++ c ∷ [])));
      all = all;
      fewer = tt;
    }

abbrev pub made_none : (book : BookValue) (pass : PassValue) → AreMade [] book book pass pass
made_none book pass = record {
  log = sym (append-nil book.log);
  calls = sym (append-nil pass.calls);
  seat = refl;
  none = λ is. refl;
  known = λ some. absurd (some refl);
}

some_more : {A : Type 0} (xs : List A) (x : A) → xs ++ x ∷ [] ≡ [] → ⊥
some_more [] x is = cc
some_more (y ∷ ys) x is = cc

-- one more call
pub made_more : (made : List Call) (old mid new : BookValue) (before between after : PassValue) (call : Call) → AreMade made old mid before between → IsAnswered mid new between after call → Knows new after
    → AreMade (made ++ call ∷ []) old new before after
made_more made old mid new before between after call so_far answered knows =
    let entry : ℕ → List Call → List Logged = λ seat calls. map (logged.Call seat) calls in
    record {
      log =
          answered.log ∙ ap (λ l. l ++ logged.Call between.seat call ∷ []) so_far.log ∙ append_assoc old.log (entry before.seat made) (logged.Call between.seat call ∷ [])
          ∙ ap (λ s. old.log ++ (entry before.seat made ++ logged.Call s call ∷ [])) so_far.seat ∙ ap (λ l. old.log ++ l) (sym (map-append (logged.Call before.seat) made (call ∷ [])));
      calls = ap (λ (p : PassValue). p.calls) answered.pass ∙ ap (λ l. l ++ call ∷ []) so_far.calls ∙ append_assoc before.calls made (call ∷ []);
      seat = ap (λ (p : PassValue). p.seat) answered.pass ∙ so_far.seat;
      none = λ is. absurd (some_more made call is);
      known = λ some. (ap (λ (p : PassValue). p.seen) answered.pass, knows);
    }

-- the calls that were made are determined by the calls of the pass
pub made_same : (made others : List Call) (old new : BookValue) (before after : PassValue) → AreMade made old new before after → after.calls ≡ before.calls ++ others → AreMade others old new before after
made_same made others old new before after so_far is =
    subst (λ m. AreMade m old new before after) (append_cancel_left before.calls made others (sym so_far.calls ∙ is)) so_far

-- the calls that were made end a log that is legal from its base
pub made_ends : (rig : Rig) (first : ℕ) (made : List Call) (old new : BookValue) (before after : PassValue) → AreMade made old new before after → made ≢ [] → IsLegalFrom rig first new.base new.log new.host
    → EndLegalLog rig first after made
made_ends rig first made old new before after so_far some legal =
    let known = so_far.known some in
    let log : new.log ≡ old.log ++ map (logged.Call after.seat) made = so_far.log ∙ ap (λ s. old.log ++ map (logged.Call s) made) (sym so_far.seat) in
    let many : length new.log ≡ length old.log + length made = ap (λ (l : List Logged). length l) log ∙ length-append old.log (map (logged.Call after.seat) made) ∙ ap (λ n. length old.log + n) (length-map made (logged.Call after.seat)) in
    let seen = known.0 in
    record {
      base = new.base;
      before = old.log;
      host = new.host;
      legal = subst (λ (l : List Logged). IsLegalFrom rig first new.base l new.host) log legal;
      earlier = known.1.before;
      calls = sym (ap (calls_of_seat after.seat) log) ∙ sym known.1.calls;
      seen = omega (arith, seen, many);
    }

-- so does one call
pub call_ends : (rig : Rig) (first : ℕ) (old new : BookValue) (before after : PassValue) (call : Call) → IsAnswered old new before after call → Knows new after → IsLegalFrom rig first new.base new.log new.host
    → EndLegalLog rig first after (call ∷ [])
call_ends rig first old new before after call answered knows legal =
    made_ends rig first (call ∷ []) old new before after (made_more [] old old new before before after call (made_none old before) answered knows) (λ none. absurd (some_more [] call none)) legal
