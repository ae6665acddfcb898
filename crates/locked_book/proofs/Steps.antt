-- What each step does to a book.
use Rattle.std.proofs.Common.{◌≡◌, ◌≢◌, ◌↔◌, ℕ, ◌+◌, ◌*◌, ◌-◌, ◌^◌, ◌<◌, ◌≤◌, ⊎_elim, Bool, true, false, cond, eqb, List, [], ◌∷◌, ◌++◌, length, map, drop, take, reverse, slice_index_or, slice_set, sum_by, refl, sym, ap, ◌∙◌, subst, arith, Some, IfSome, zero, suc}
use Rattle.std.specs.List.{All, enumerate_from}
use Rattle.std.proofs.Math.ListN.{get_or}
use Rattle.std.proofs.Math.Seq.{take-suc}
use Rattle.std.proofs.lemmas.Bool.Decides.{nat_tests}
use Rattle.std.proofs.lemmas.Bool.{eqb-true, eq-eqb, cases_eq}
use Rattle.std.proofs.lemmas.List.{get_or-map, get_or-set_same, get_or-set_other, length-append, length-map, append-nil, length-set, length-drop, map-append, nil_from_length}
use Rattle.std.proofs.lemmas.List.Elements.{All-set}
use Rattle.std.proofs.lemmas.List.Sums.{sum_by-cons, sum_by-set, sum_by-le}
use Rattle.rig_model.specs.config.Roster.{Rig, is_tenant}
use Rattle.rig_model.specs.declared.config.TenantConfig.{TenantConfig}
use Rattle.rig_model.specs.Base.{Setting, new_base}
use Rattle.rig_model.specs.Host.{host_after, after_event}
use Rattle.rig_model.specs.HostState.{HostState, is_awaited}
use Rattle.host_core.specs.HostStanding.{HostStanding, Stands, IsOwn, awaited_in, new_host, new_tenant, outstanding_count, outstanding_from}
use Rattle.host_core.specs.declared.hosts.Counted.{Counted}
use Rattle.host_core.specs.declared.hosts.Counted.TheVariants.{Late}
use Rattle.host_core.specs.declared.hosts.Counted.TheVariants as counted
use Rattle.host_core.specs.job_table.Finished.{TableEntry}
use Rattle.host_core.specs.job_table.Jobs.{JobValue}
use Rattle.host_core.specs.state.Standing.{at_rest}
use Rattle.rig_model.specs.declared.logged.Call.{Call}
use Rattle.rig_model.specs.declared.logged.Logged.{Logged}
use Rattle.rig_model.specs.declared.logged.Logged.TheVariants as logged
use Rattle.rig_model.specs.Logs.{calls_of_seat, event_of, events_of, Gives, IsReplay}
use Rattle.locked_book.specs.Books.{BaseValue, EndsIn, IsLegalFrom, IsNextBase, beginning, calls_before, BookValue, PassValue, Knows, length_of, new_setting, setting_from}
use Rattle.locked_book.specs.Books.{SeatValue}
use Rattle.locked_book.specs.inner.Books.{ArePlaces, seat_at, IsArchive, IsBook, call_at, places_from, without_places}
use Rattle.host_core.proofs.of_laws.LaterBase.{new_is_base}
use Rattle.host_core.proofs.of_laws.Replays.{replay_legal}
use Rattle.locked_book.proofs.Continued.{calls_both, goes_on, length_both}
use Rattle.locked_book.proofs.Kept.{GoesOn, kept_on, kept_none}
use Rattle.locked_book.proofs.Places.{calls_at_places, within, place_in, call_in, places_on, calls_on}

abbrev pub no_seat : SeatValue
no_seat = record { places = []; calls = 0 }

-- the lengths and clocks of a book fit their types
pub fits : (rig : Rig) (first : ℕ) (book : BookValue) (seats : List SeatValue) → IsBook rig first book seats → book.base.entries_before + length book.log + outstanding_count book.host + 1 < 2 ^ 128
fits rig first book seats is =
    let most = sum_by-le (λ (s : SeatValue). s.calls) 4096 seats is.small in
    let few = is.few in
    let bound = is.bound in
    let clock = is.clock in
    let all : length seats * 4096 ≤ 268435456 = omega (arith, few) in
    omega (arith, most, all, bound, clock)

-- a tenant of the host is one of the roster
pub of_roster : (setting : Setting) (host : HostStanding) (state : HostState) (t : ℕ) → Stands setting host state → t < length host.config.tenants → is_tenant setting.config t ≡ true
of_roster setting host state t stands lt = let same = ap (λ (rig : Rig). length rig.tenants) stands.same_config in grind (arith, nat_tests)

-- how many instants an entry is
abbrev pub ticks_of : Logged → ℕ
ticks_of (logged.Call seat c) = 0
ticks_of (logged.Tick frame) = 1
ticks_of (logged.Done j) = 0

clock_behind : (setting : Setting) (state : HostState) (e : Logged) → (after_event setting state (event_of e)).clock ≡ state.clock + ticks_of e
clock_behind setting state (logged.Call seat c) = omega arith
clock_behind setting state (logged.Tick frame) = refl
clock_behind setting state (logged.Done j) = by (is_awaited state j)
  where
    by : (b : Bool) → (cond b (record state { counted = j ∷ state.counted }) state).clock ≡ state.clock + 0
    by true = omega arith
    by false = omega arith

clock_fits : (setting : Setting) (state : HostState) (e : Logged) → Gives setting state e → state.clock < 2 ^ 64 → state.clock + ticks_of e < 2 ^ 64
clock_fits setting state (logged.Call seat c) g k = omega (arith, k)
clock_fits setting state (logged.Tick frame) g k = let below = g.1 in omega (arith, below)
clock_fits setting state (logged.Done j) g k = omega (arith, k)

module _ (rig : Rig) (first : ℕ) (book : BookValue) (seats : List SeatValue) (is : IsBook rig first book seats) where
  -- all that was logged, the newest entry first
  abbrev pub whole_log : List Logged
  whole_log = reverse book.log ++ is.reached.0

  -- the state after the log, which the host represents
  abbrev now : HostState
  now = host_after (new_setting rig first) (events_of whole_log)

  pub whole_now : Stands (new_setting rig first) book.host now × IsReplay (new_setting rig first) whole_log
  whole_now = goes_on (new_setting rig first) is.reached.0 book.log book.base.host book.host is.kept is.reached.1.host is.reached.1.replay

  pub stands_now : Stands (new_setting rig first) book.host now
  stands_now = whole_now.0

  -- the log is legal from its base
  pub legal_now : IsLegalFrom rig first book.base book.log book.host
  legal_now = record {
    past = is.reached.0;
    reached = is.reached.1;
    whole = replay_legal (new_setting rig first) (new_is_base rig first) whole_log whole_now.1;
    after = stands_now;
    from_base = λ state is_base st. replay_legal (setting_from rig state) is_base (reverse book.log) (is.kept (setting_from rig state) st).1;
  }

  module _ (next : HostStanding) (e : Logged) (step : GoesOn book.host next e) where
    taken : Stands (new_setting rig first) next (after_event (new_setting rig first) now (event_of e)) × Gives (new_setting rig first) now e
    taken = step (new_setting rig first) now stands_now

    pub clock_on : next.clock ≡ book.host.clock + ticks_of e
    clock_on = taken.0.same_clock ∙ clock_behind (new_setting rig first) now e ∙ ap (λ n. n + ticks_of e) (sym stands_now.same_clock)

    pub clock_below : next.clock < 2 ^ 64
    clock_below =
        let same = stands_now.same_clock in
        let k = is.clock in
        let f = clock_fits (new_setting rig first) now e taken.1 (omega (arith, same, k)) in
        let c = clock_on in
        omega (arith, same, f, c)

-- the book after an entry
abbrev pub with_entry : BookValue → HostStanding → Logged → BookValue
with_entry book host e = record { base = book.base; host = host; log = book.log ++ e ∷ []; seats = book.seats }

-- an entry that is no call
pub plain_on : (rig : Rig) (first : ℕ) (book : BookValue) (seats : List SeatValue) (next : HostStanding) (e : Logged) → IsBook rig first book seats
    → ((i : ℕ) (seat : ℕ) → place_in seat i e ≡ []) → ((seat : ℕ) → call_in seat e ≡ [])
    → GoesOn book.host next e → 1 + outstanding_count next ≤ outstanding_count book.host + 18446744073709551616 * ticks_of e
    → IsBook rig first (with_entry book next e) seats
plain_on rig first book seats next e is no_place no_call step less = record {
  reached = is.reached;
  kept = kept_on book.base.host book.host next book.log e is.kept step;
  places = λ seat. is.places seat ∙ sym (places_on seat 0 book.log e ∙ ap (λ ps. places_from seat 0 book.log ++ ps) (no_place _ seat) ∙ append-nil _);
  counts = λ seat. is.counts seat ∙ ap (λ (cs : List Call). calls_before book.base seat + length cs) (sym (calls_on seat book.log e ∙ ap (λ cs. calls_of_seat seat book.log ++ cs) (no_call seat) ∙ append-nil _));
  small = is.small;
  few = is.few;
  begun = (let b = is.begun in let later = clock_on rig first book seats is next e step in omega (arith, b, later));
  clock = clock_below rig first book seats is next e step;
  bound =
      (let b = is.bound in let f = is.begun in let l = length-append book.log (e ∷ []) in let later = clock_on rig first book seats is next e step in
      omega (arith, b, f, l, later, less));
}

abbrev pub seat_on : SeatValue → ℕ → SeatValue
seat_on s place = record { places = s.places ++ place ∷ []; calls = s.calls + 1 }

-- a call of a seat
pub call_on : (rig : Rig) (first : ℕ) (book : BookValue) (seats : List SeatValue) (next : HostStanding) (seat : ℕ) (c : Call) → IsBook rig first book seats
    → seat < length seats → (seat_at seats seat).calls < 4096
    → GoesOn book.host next (logged.Call seat c) → outstanding_count next ≤ outstanding_count book.host
    → IsBook rig first (with_entry book next (logged.Call seat c)) (slice_set seats seat (seat_on (seat_at seats seat) (length book.log)))
call_on rig first book seats next seat c is given room step less = record {
  reached = is.reached;
  kept = kept_on book.base.host book.host next book.log e is.kept step;
  places = λ t. ⊎_elim (same_places t) (other_places t) (cases_eq t seat);
  counts = λ t. ⊎_elim (same_counts t) (other_counts t) (cases_eq t seat);
  small = All-set (λ (s : SeatValue). s.calls ≤ 4096) seats seat new (let r = room in omega (arith, r)) is.small;
  few = (let f = is.few in let l = length-set seats seat new in omega (arith, f, l));
  begun = (let b = is.begun in let later = clock_on rig first book seats is next e step in omega (arith, b, later));
  clock = clock_below rig first book seats is next e step;
  bound =
      (let b = is.bound in let l = length-append book.log (e ∷ []) in let later = clock_on rig first book seats is next e step in
      let s = sum_by-set (λ (x : SeatValue). x.calls) seats seat new no_seat given in
      let same : next.clock - first ≡ book.host.clock - first = omega (arith, later) in
      omega (arith, b, l, s, less, same));
}
  where
    e : Logged
    e = logged.Call seat c

    old : SeatValue
    old = seat_at seats seat

    new : SeatValue
    new = seat_on old (length book.log)

    here : seat_at (slice_set seats seat new) seat ≡ new
    here = get_or-set_same seats seat new no_seat given

    there : (t : ℕ) → t ≢ seat → seat_at (slice_set seats seat new) t ≡ seat_at seats t
    there t ne = get_or-set_other seats seat t new no_seat ne

    test : (t : ℕ) → t ≡ seat → eqb seat t ≡ true
    test t eq = eq-eqb seat t (sym eq)

    same_places : (t : ℕ) → t ≡ seat → (seat_at (slice_set seats seat new) t).places ≡ places_from t 0 (book.log ++ e ∷ [])
    same_places t eq =
        ap (λ n. (seat_at (slice_set seats seat new) n).places) eq ∙ ap (λ (x : SeatValue). x.places) here
        ∙ ap (λ ps. ps ++ length book.log ∷ []) (is.places seat)
        ∙ ap (λ n. places_from n 0 book.log ++ length book.log ∷ []) (sym eq)
        ∙ ap (λ (n : ℕ). places_from t 0 book.log ++ n ∷ []) (let z : length book.log ≡ 0 + length book.log = omega arith in z)
        ∙ sym (places_on t 0 book.log e ∙ ap (λ (b : Bool). places_from t 0 book.log ++ cond b ((0 + length book.log) ∷ []) []) (test t eq))

    same_counts : (t : ℕ) → t ≡ seat → (seat_at (slice_set seats seat new) t).calls ≡ calls_before book.base t + length (calls_of_seat t (book.log ++ e ∷ []))
    same_counts t eq =
        let more : length (calls_of_seat t (book.log ++ e ∷ [])) ≡ length (calls_of_seat t book.log) + 1 =
        ap length (calls_on t book.log e) ∙ ap (λ (b : Bool). length (calls_of_seat t book.log ++ cond b (c ∷ []) [])) (test t eq) ∙ length-append (calls_of_seat t book.log) (c ∷ []) in
        let now_ = is.counts t in
        let old_is : (seat_at seats t).calls ≡ (seat_at seats seat).calls = ap (λ n. (seat_at seats n).calls) eq in
        ap (λ n. (seat_at (slice_set seats seat new) n).calls) eq ∙ ap (λ (x : SeatValue). x.calls) here
        ∙ omega (arith, more, now_, old_is)

    not_test : (t : ℕ) → t ≢ seat → eqb seat t ≡ false
    not_test t ne = by (eqb seat t) refl
      where
        by : (b : Bool) → eqb seat t ≡ b → eqb seat t ≡ false
        by true is_ = absurd (ne (sym (eqb-true seat t is_)))
        by false is_ = is_

    other_places : (t : ℕ) → t ≢ seat → (seat_at (slice_set seats seat new) t).places ≡ places_from t 0 (book.log ++ e ∷ [])
    other_places t ne =
        ap (λ (x : SeatValue). x.places) (there t ne) ∙ is.places t
        ∙ sym (places_on t 0 book.log e ∙ ap (λ (b : Bool). places_from t 0 book.log ++ cond b ((0 + length book.log) ∷ []) []) (not_test t ne) ∙ append-nil _)

    other_counts : (t : ℕ) → t ≢ seat → (seat_at (slice_set seats seat new) t).calls ≡ calls_before book.base t + length (calls_of_seat t (book.log ++ e ∷ []))
    other_counts t ne =
        ap (λ (x : SeatValue). x.calls) (there t ne) ∙ is.counts t
        ∙ ap (λ (cs : List Call). calls_before book.base t + length cs) (sym (calls_on t book.log e ∙ ap (λ (b : Bool). calls_of_seat t book.log ++ cond b (c ∷ []) []) (not_test t ne) ∙ append-nil _))

none_outstanding : (rig : Rig) (first : ℕ) (entries : List TableEntry) (from at : ℕ) (tenants : List TenantConfig)
    → outstanding_from entries from (map (λ (place : ℕ × TenantConfig). at_rest (new_tenant rig first place.0)) (enumerate_from at tenants)) ≡ []
none_outstanding rig first entries from at [] = refl
none_outstanding rig first entries from at (x ∷ xs) = none_outstanding rig first entries (from + 1) (at + 1) xs

-- a new host has no outstanding job
pub new_host_rests : (rig : Rig) (first : ℕ) → outstanding_count (new_host rig first) ≡ 0
new_host_rests rig first = ap length (none_outstanding rig first [] 0 0 rig.tenants)

no_seats : (seat : ℕ) → seat_at [] seat ≡ no_seat
no_seats zero = refl
no_seats (suc seat) = refl

pub none_before : (base : BaseValue) (seat : ℕ) → base.calls ≡ [] → calls_before base seat ≡ 0
none_before base seat e = ap (λ (cs : List ℕ). slice_index_or cs seat 0) e ∙ by seat
  where
    by : (n : ℕ) → calls_before (record { host = base.host; entries_before = 0; calls = [] }) n ≡ 0
    by zero = refl
    by (suc n) = refl

-- the base of a new host is reached by nothing
pub new_reached : (rig : Rig) (first : ℕ) (base : BaseValue) → base ≡ beginning rig first → Stands (new_setting rig first) base.host (new_base rig first) → EndsIn rig first [] base
new_reached rig first base base_is begins = record {
  replay = tt;
  host = begins;
  entries = ap (λ (b : BaseValue). b.entries_before) base_is;
  calls = λ seat. none_before base seat (ap (λ (b : BaseValue). b.calls) base_is);
}

-- if nothing was logged before, no seat had a call
pub no_earlier : (rig : Rig) (first : ℕ) (book : BookValue) (seats : List SeatValue) → IsBook rig first book seats → book.base.entries_before ≡ 0 → (seat : ℕ) → calls_before book.base seat ≡ 0
no_earlier rig first book seats is none seat =
    let nothing : is.reached.0 ≡ [] = nil_from_length is.reached.0 (sym is.reached.1.entries ∙ none) in
    is.reached.1.calls seat ∙ ap (λ (past : List Logged). length (calls_of_seat seat past)) nothing

-- a new book
pub new_book : (rig : Rig) (first : ℕ) (base : BaseValue) (host : HostStanding) → base ≡ beginning rig first → host ≡ new_host rig first
    → Stands (new_setting rig first) base.host (new_base rig first) → first < 2 ^ 64
    → IsBook rig first (record { base = base; host = host; log = []; seats = 0 }) []
new_book rig first base host base_is host_is begins fit = record {
  reached = ([], new_reached rig first base base_is begins);
  kept = kept_none base.host host (λ setting state st. subst (λ h. Stands setting h state) (ap (λ (b : BaseValue). b.host) base_is ∙ sym host_is) st);
  places = λ seat. ap (λ (s : SeatValue). s.places) (no_seats seat);
  counts = λ seat. ap (λ (s : SeatValue). s.calls) (no_seats seat) ∙ sym (ap (λ n. n + 0) (none_before base seat (ap (λ (b : BaseValue). b.calls) base_is)));
  small = λ k d lt. absurd (omega (arith, lt));
  few = omega arith;
  begun = (let c = ap (λ (h : HostStanding). h.clock) host_is in omega (arith, c));
  clock = (let c = ap (λ (h : HostStanding). h.clock) host_is in omega (arith, c, fit));
  bound =
      (let b = ap (λ (b : BaseValue). b.entries_before) base_is in
      let rests = ap outstanding_count host_is ∙ new_host_rests rig first in
      omega (arith, b, rests));
}

seat_emptied : (seats : List SeatValue) (seat : ℕ) → seat_at (map without_places seats) seat ≡ without_places (seat_at seats seat)
seat_emptied [] zero = refl
seat_emptied [] (suc seat) = refl
seat_emptied (s ∷ seats) zero = refl
seat_emptied (s ∷ seats) (suc seat) = seat_emptied seats seat

pub all_emptied : (seats : List SeatValue) → sum_by (λ (s : SeatValue). s.calls) (map without_places seats) ≡ sum_by (λ (s : SeatValue). s.calls) seats
all_emptied [] = refl
all_emptied (s ∷ seats) =
    let later = all_emptied seats in
    let one = sum_by-cons (λ (x : SeatValue). x.calls) (without_places s) (map without_places seats) in
    let other = sum_by-cons (λ (x : SeatValue). x.calls) s seats in
    omega (arith, later, one, other)

small_emptied : (seats : List SeatValue) → All (λ (s : SeatValue). s.calls ≤ 4096) seats → All (λ (s : SeatValue). s.calls ≤ 4096) (map without_places seats)
small_emptied seats small k d lt =
    let many = length-map seats without_places in
    let at : get_or (map without_places seats) k d ≡ without_places (get_or seats k d) = get_or-map without_places seats k d d (omega (arith, lt, many)) in
    let calls = ap (λ (s : SeatValue). s.calls) at in
    let few = small k d (omega (arith, lt, many)) in
    omega (arith, calls, few)

-- the calls of each seat, as a base counts them
pub calls_at : (seats : List SeatValue) (seat : ℕ) → slice_index_or (map (λ (s : SeatValue). s.calls) seats) seat 0 ≡ (seat_at seats seat).calls
calls_at [] zero = refl
calls_at [] (suc seat) = refl
calls_at (s ∷ seats) zero = refl
calls_at (s ∷ seats) (suc seat) = calls_at seats seat

-- the base that a book hands on
abbrev pub base_of : BookValue → List SeatValue → BaseValue
base_of book seats = record { host = book.host; entries_before = length_of book; calls = map (λ (s : SeatValue). s.calls) seats }

module _ (rig : Rig) (first : ℕ) (book : BookValue) (seats : List SeatValue) (is : IsBook rig first book seats) where
  -- what the book hands on is the next base
  pub next_base : IsNextBase book (base_of book seats)
  next_base = record { host = refl; entries = refl; calls = λ seat. calls_at seats seat ∙ is.counts seat }

  -- all that was logged ends in it
  pub next_reached : EndsIn rig first (whole_log rig first book seats is) (base_of book seats)
  next_reached = record {
    replay = (whole_now rig first book seats is).1;
    host = (whole_now rig first book seats is).0;
    entries = (let e = is.reached.1.entries in let l = length_both is.reached.0 book.log in omega (arith, e, l));
    calls = λ seat.
        let now = next_base.calls seat in
        let before = is.reached.1.calls seat in
        let both = calls_both seat is.reached.0 book.log in
        omega (arith, now, before, both);
  }

  -- what was logged is an archive
  pub book_archive : IsArchive rig first (record { base = book.base; log = book.log; next = base_of book seats })
  book_archive = record { past = is.reached.0; reached = is.reached.1; kept = is.kept; next = next_reached }

  -- the book that goes on from there
  pub book_archived : IsBook rig first (record { base = base_of book seats; host = book.host; log = []; seats = book.seats }) (map without_places seats)
  book_archived = record {
    reached = (whole_log rig first book seats is, next_reached);
    kept = kept_none book.host book.host (λ setting state st. st);
    places = λ seat. ap (λ (s : SeatValue). s.places) (seat_emptied seats seat);
    counts = λ seat. let at = ap (λ (s : SeatValue). s.calls) (seat_emptied seats seat) in let now = calls_at seats seat in omega (arith, at, now);
    small = small_emptied seats is.small;
    few = (let f = is.few in let many = length-map seats without_places in omega (arith, f, many));
    begun = is.begun;
    clock = is.clock;
    bound = (let b = is.bound in let same = all_emptied seats in omega (arith, b, same));
  }

map_some : (xs ys : List Call) → map Some xs ≡ map Some ys → xs ≡ ys
map_some [] [] e = refl
map_some [] (y ∷ ys) e = absurd (cc)
map_some (x ∷ xs) [] e = absurd (cc)
map_some (x ∷ xs) (y ∷ ys) e = let rest = map_some xs ys cc in let first : x ≡ y = cc in cc

pub knows_iff : (book : BookValue) (seats : List SeatValue) (pass : PassValue) (r : Bool) → ArePlaces seats book.log
    → pass.seat < book.seats → calls_before book.base pass.seat ≤ length pass.calls → pass.seen ≤ length_of book
    → ((r ≡ true) ↔ map (call_at book.log) (seat_at seats pass.seat).places ≡ map Some (drop (calls_before book.base pass.seat) pass.calls))
    → ((r ≡ true) ↔ Knows book pass)
knows_iff book seats pass r places given before seen same = (
  (λ e. record {
    given = given;
    before = before;
    calls = map_some _ _ (sym (same.0 e) ∙ there);
    seen = seen;
  }),
  (λ k. same.1 (there ∙ ap (map Some) (sym k.calls))),
)
  where
    there : map (call_at book.log) (seat_at seats pass.seat).places ≡ map Some (calls_of_seat pass.seat book.log)
    there = ap (map (call_at book.log)) (places pass.seat) ∙ calls_at_places pass.seat book.log

pub places_within : (log : List Logged) (seats : List SeatValue) (seat : ℕ) → ArePlaces seats log
    → (k : ℕ) → k < length (seat_at seats seat).places → get_or (seat_at seats seat).places k 0 < length log
places_within log seats seat places =
    subst (λ (ps : List ℕ). (k : ℕ) → k < length ps → get_or ps k 0 < length log) (sym (places seat))
    (λ k lt. let w = within seat 0 log k lt in omega (arith, w))

pub one_call_more : (log : List Logged) (ps : List ℕ) (cs : List Call) (k : ℕ) (d : Call) → k < length ps → k < length cs
    → map (call_at log) (take k ps) ≡ map Some (take k cs) → call_at log (get_or ps k 0) ≡ Some (get_or cs k d)
    → map (call_at log) (take (k + 1) ps) ≡ map Some (take (k + 1) cs)
one_call_more log ps cs k d in_ps in_cs same next =
    ap (λ n. map (call_at log) (take n ps)) one ∙ ap (map (call_at log)) (take-suc ps k 0 in_ps) ∙ map-append (call_at log) (take k ps) (get_or ps k 0 ∷ [])
    ∙ both same next
    ∙ sym (ap (λ n. map Some (take n cs)) one ∙ ap (map Some) (take-suc cs k d in_cs) ∙ map-append Some (take k cs) (get_or cs k d ∷ []))
  where
    one : k + 1 ≡ suc k
    one = omega arith

    both : map (call_at log) (take k ps) ≡ map Some (take k cs) → call_at log (get_or ps k 0) ≡ Some (get_or cs k d)
        → map (call_at log) (take k ps) ++ (call_at log (get_or ps k 0) ∷ []) ≡ map Some (take k cs) ++ (Some (get_or cs k d) ∷ [])
    both e f = cc

pub at_one : (log : List Logged) (ps : List ℕ) (cs : List Call) (k : ℕ) (d : Call) → k < length ps → k < length cs → map (call_at log) ps ≡ map Some cs → call_at log (get_or ps k 0) ≡ Some (get_or cs k d)
at_one log [] cs k d a b e = absurd (omega (arith, a))
at_one log (p ∷ ps) [] k d a b e = absurd (omega (arith, b))
at_one log (p ∷ ps) (x ∷ cs) zero d a b e = cc
at_one log (p ∷ ps) (x ∷ cs) (suc k) d a b e = at_one log ps cs k d (omega (arith, a)) (omega (arith, b)) cc

-- a pass stays known after its own call
pub knows_on : (book next : BookValue) (pass : PassValue) (c : Call) (seen : ℕ) → Knows book pass → next.base ≡ book.base → next.seats ≡ book.seats → next.log ≡ book.log ++ logged.Call pass.seat c ∷ []
    → seen ≡ length_of book + 1 → Knows next (record { seat = pass.seat; calls = pass.calls ++ c ∷ []; seen = seen })
knows_on book next pass c seen k base seats log at = record {
  given = subst (λ n. pass.seat < n) (sym seats) k.given;
  before = (let b = k.before in let l = length-append pass.calls (c ∷ []) in let e = ap (λ (x : BaseValue). calls_before x pass.seat) base in omega (arith, b, l, e));
  calls =
      ap (λ (x : BaseValue). drop (calls_before x pass.seat) (pass.calls ++ c ∷ [])) base
      ∙ drop_front (calls_before book.base pass.seat) pass.calls c k.before
      ∙ ap (λ cs. cs ++ c ∷ []) k.calls
      ∙ sym (ap (calls_of_seat pass.seat) log ∙ calls_on pass.seat book.log (logged.Call pass.seat c) ∙ ap (λ (b : Bool). calls_of_seat pass.seat book.log ++ cond b (c ∷ []) []) (eq-eqb pass.seat pass.seat refl));
  seen =
      (let l = ap length log ∙ length-append book.log (logged.Call pass.seat c ∷ []) in
      let b = ap (λ (x : BaseValue). x.entries_before) base in
      omega (arith, l, b, at));
}
  where
    drop_front : (n : ℕ) (xs : List Call) (c : Call) → n ≤ length xs → drop n (xs ++ c ∷ []) ≡ drop n xs ++ c ∷ []
    drop_front zero xs c le = refl
    drop_front (suc n) [] c le = absurd (omega (arith, le))
    drop_front (suc n) (x ∷ xs) c le = drop_front n xs c (omega (arith, le))

-- a pass that the book knows has as many calls as its seat
pub as_many_calls : (rig : Rig) (first : ℕ) (book : BookValue) (seats : List SeatValue) (pass : PassValue) → IsBook rig first book seats → Knows book pass → (seat_at seats pass.seat).calls ≡ length pass.calls
as_many_calls rig first book seats pass is k =
    let n = is.counts pass.seat in
    let l = ap length k.calls in
    let d = length-drop (calls_before book.base pass.seat) pass.calls in
    let b = k.before in
    omega (arith, n, l, d, b)

-- a completion that counts is the host's own
pub own_counted : (host : HostStanding) (done : JobValue) → awaited_in host done.id ≡ Some done → IsOwn host done
own_counted host done e = subst (λ found. IfSome found (λ job. job ≡ done)) (sym e) refl

-- a completion that counts is awaited
pub given_counted : (awaited : Bool) (answer : Counted) → answer ≡ cond awaited counted.Counted Late → answer ≡ counted.Counted → awaited ≡ true
given_counted true answer e is = refl
given_counted false answer e is = absurd (cc)
