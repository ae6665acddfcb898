-- The places of a seat's calls.
use Rattle.std.proofs.Common.{◌≡◌, ℕ, ◌+◌, ◌<◌, Bool, true, false, cond, eqb, List, [], ◌∷◌, ◌++◌, length, map, refl, sym, ap, ◌∙◌, subst, Some, arith, zero, suc}
use Rattle.std.proofs.lemmas.List.{append-nil, append_assoc, length-append}
use Rattle.std.proofs.Math.ListN.{get_or}
use Rattle.rig_model.specs.declared.logged.Call.{Call}
use Rattle.rig_model.specs.declared.logged.Logged.{Logged}
use Rattle.rig_model.specs.declared.logged.Logged.TheVariants as logged
use Rattle.rig_model.specs.Logs.{calls_of_seat}
use Rattle.locked_book.specs.inner.Books.{call_at, places_from}

-- what an entry adds to the places and calls of a seat
abbrev pub place_in : ℕ → ℕ → Logged → List ℕ
place_in seat i (logged.Call s c) = cond (eqb s seat) (i ∷ []) []
place_in seat i (logged.Tick frame) = []
place_in seat i (logged.Done j) = []

abbrev pub call_in : ℕ → Logged → List Call
call_in seat (logged.Call s c) = cond (eqb s seat) (c ∷ []) []
call_in seat (logged.Tick frame) = []
call_in seat (logged.Done j) = []

head_place : (seat i : ℕ) (e : Logged) (log : List Logged) → places_from seat i (e ∷ log) ≡ place_in seat i e ++ places_from seat (i + 1) log
head_place seat i (logged.Call s c) log = by (eqb s seat)
  where
    by : (b : Bool) → cond b (i ∷ places_from seat (i + 1) log) (places_from seat (i + 1) log) ≡ cond b (i ∷ []) [] ++ places_from seat (i + 1) log
    by true = refl
    by false = refl
head_place seat i (logged.Tick frame) log = refl
head_place seat i (logged.Done j) log = refl

head_call : (seat : ℕ) (e : Logged) (log : List Logged) → calls_of_seat seat (e ∷ log) ≡ call_in seat e ++ calls_of_seat seat log
head_call seat (logged.Call s c) log = by (eqb s seat)
  where
    by : (b : Bool) → cond b (c ∷ calls_of_seat seat log) (calls_of_seat seat log) ≡ cond b (c ∷ []) [] ++ calls_of_seat seat log
    by true = refl
    by false = refl
head_call seat (logged.Tick frame) log = refl
head_call seat (logged.Done j) log = refl

pub places_on : (seat i : ℕ) (log : List Logged) (e : Logged) → places_from seat i (log ++ e ∷ []) ≡ places_from seat i log ++ place_in seat (i + length log) e
places_on seat i [] e = head_place seat i e [] ∙ append-nil (place_in seat i e) ∙ ap (λ n. place_in seat n e) (omega arith)
places_on seat i (x ∷ log) e =
    head_place seat i x (log ++ e ∷ []) ∙ ap (λ ps. place_in seat i x ++ ps) (places_on seat (i + 1) log e)
    ∙ sym (append_assoc (place_in seat i x) (places_from seat (i + 1) log) (place_in seat (i + 1 + length log) e))
    ∙ ap (λ ps. ps ++ place_in seat (i + 1 + length log) e) (sym (head_place seat i x log))
    ∙ ap (λ n. places_from seat i (x ∷ log) ++ place_in seat n e) (omega arith)

pub calls_append : (seat : ℕ) (xs ys : List Logged) → calls_of_seat seat (xs ++ ys) ≡ calls_of_seat seat xs ++ calls_of_seat seat ys
calls_append seat [] ys = refl
calls_append seat (x ∷ xs) ys =
    head_call seat x (xs ++ ys) ∙ ap (λ cs. call_in seat x ++ cs) (calls_append seat xs ys)
    ∙ sym (append_assoc (call_in seat x) (calls_of_seat seat xs) (calls_of_seat seat ys))
    ∙ ap (λ cs. cs ++ calls_of_seat seat ys) (sym (head_call seat x xs))

pub calls_on : (seat : ℕ) (log : List Logged) (e : Logged) → calls_of_seat seat (log ++ e ∷ []) ≡ calls_of_seat seat log ++ call_in seat e
calls_on seat log e = calls_append seat log (e ∷ []) ∙ ap (λ cs. calls_of_seat seat log ++ cs) (head_call seat e [] ∙ append-nil (call_in seat e))

pub as_many : (seat i : ℕ) (log : List Logged) → length (places_from seat i log) ≡ length (calls_of_seat seat log)
as_many seat i [] = refl
as_many seat i (e ∷ log) =
    ap length (head_place seat i e log) ∙ length-append (place_in seat i e) (places_from seat (i + 1) log)
    ∙ (let one = one_each seat i e in let rest = as_many seat (i + 1) log in omega (arith, one, rest))
    ∙ sym (ap length (head_call seat e log) ∙ length-append (call_in seat e) (calls_of_seat seat log))
  where
    one_each : (seat i : ℕ) (e : Logged) → length (place_in seat i e) ≡ length (call_in seat e)
    one_each seat i (logged.Call s c) = by (eqb s seat)
      where
        by : (b : Bool) → length (cond b (i ∷ []) []) ≡ length (cond b (c ∷ []) [])
        by true = refl
        by false = refl
    one_each seat i (logged.Tick frame) = refl
    one_each seat i (logged.Done j) = refl

-- the calls at the places of a seat, if some entries come before
at_end : (front log : List Logged) (s : ℕ) (c : Call) → call_at (front ++ logged.Call s c ∷ log) (length front) ≡ Some c
at_end [] log s c = refl
at_end (x ∷ front) log s c = at_end front log s c

mapped : (front : List Logged) (seat : ℕ) (e : Logged) (log : List Logged) → map (call_at (front ++ e ∷ log)) (places_from seat (length front + 1) log) ≡ map Some (calls_of_seat seat log)
    → map (call_at (front ++ e ∷ log)) (place_in seat (length front) e ++ places_from seat (length front + 1) log) ≡ map Some (call_in seat e ++ calls_of_seat seat log)
mapped front seat (logged.Call s c) log rest = by (eqb s seat)
  where
    by : (b : Bool) → map (call_at (front ++ logged.Call s c ∷ log)) (cond b (length front ∷ []) [] ++ places_from seat (length front + 1) log) ≡ map Some (cond b (c ∷ []) [] ++ calls_of_seat seat log)
    by true = let here = at_end front log s c in cc
    by false = rest
mapped front seat (logged.Tick frame) log rest = rest
mapped front seat (logged.Done j) log rest = rest

map_at : (front : List Logged) (seat : ℕ) (log : List Logged) → map (call_at (front ++ log)) (places_from seat (length front) log) ≡ map Some (calls_of_seat seat log)
map_at front seat [] = refl
map_at front seat (e ∷ log) =
    let there = map_at (front ++ e ∷ []) seat log in
    let rest : map (call_at (front ++ e ∷ log)) (places_from seat (length front + 1) log) ≡ map Some (calls_of_seat seat log) =
    ap (λ n. map (call_at (front ++ e ∷ log)) (places_from seat n log)) (sym (length-append front (e ∷ [])))
    ∙ ap (λ l. map (call_at l) (places_from seat (length (front ++ e ∷ [])) log)) (sym (append_assoc front (e ∷ []) log))
    ∙ there in
    ap (map (call_at (front ++ e ∷ log))) (head_place seat (length front) e log)
    ∙ mapped front seat e log rest
    ∙ sym (ap (map Some) (head_call seat e log))

pub calls_at_places : (seat : ℕ) (log : List Logged) → map (call_at log) (places_from seat 0 log) ≡ map Some (calls_of_seat seat log)
calls_at_places seat log = map_at [] seat log

abbrev pub AllBelow : List ℕ → ℕ → Type 0
AllBelow ps n = (k : ℕ) → k < length ps → get_or ps k 0 < n

below_cons : (p : ℕ) (ps : List ℕ) (n : ℕ) → p < n → AllBelow ps n → AllBelow (p ∷ ps) n
below_cons p ps n lt all zero in_ = lt
below_cons p ps n lt all (suc k) in_ = all k (omega (arith, in_))

below_in : (seat i : ℕ) (e : Logged) (ps : List ℕ) (n : ℕ) → i < n → AllBelow ps n → AllBelow (place_in seat i e ++ ps) n
below_in seat i (logged.Call s c) ps n lt all = by (eqb s seat)
  where
    by : (b : Bool) → AllBelow (cond b (i ∷ []) [] ++ ps) n
    by true = below_cons i ps n lt all
    by false = all
below_in seat i (logged.Tick frame) ps n lt all = all
below_in seat i (logged.Done j) ps n lt all = all

-- each place is in the log
pub within : (seat i : ℕ) (log : List Logged) → AllBelow (places_from seat i log) (i + length log)
within seat i [] = λ k lt. absurd (omega (arith, lt))
within seat i (e ∷ log) =
    subst (λ (ps : List ℕ). AllBelow ps (i + suc (length log))) (sym (head_place seat i e log))
    (below_in seat i e (places_from seat (i + 1) log) (i + suc (length log)) (omega arith)
    (λ k lt. let w = within seat (i + 1) log k lt in omega (arith, w)))

-- a seat has no call exactly if it has no place
pub no_calls : (seat : ℕ) (log : List Logged) → places_from seat 0 log ≡ [] → calls_of_seat seat log ≡ []
no_calls seat log e = by (calls_of_seat seat log) refl
  where
    by : (cs : List Call) → calls_of_seat seat log ≡ cs → cs ≡ []
    by [] is = refl
    by (c ∷ cs) is = absurd (let n = ap length e in let m = ap length is in let both = as_many seat 0 log in omega (arith, n, m, both))

pub no_places : (seat : ℕ) (log : List Logged) → calls_of_seat seat log ≡ [] → places_from seat 0 log ≡ []
no_places seat log e = by (places_from seat 0 log) refl
  where
    by : (ps : List ℕ) → places_from seat 0 log ≡ ps → ps ≡ []
    by [] is = refl
    by (p ∷ ps) is = absurd (let n = ap length e in let m = ap length is in let both = as_many seat 0 log in omega (arith, n, m, both))
