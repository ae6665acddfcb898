-- The flows of a host: its tenants' binds, which lead from the sources after an instant to those before it.
use Rattle.std.proofs.Common.{Bor, ◌≡◌, ℕ, ◌+◌, ◌<◌, ◌≤◌, ◌⊎◌, inl, inr, ⊎_elim, Bool, true, false, ◌||◌, ◌&&◌, eqb, ℤ, List, [], ◌∷◌, ◌++◌, length, take, get_or, add-one, ◌≢◌, Option, Some, None, refl, sym, ap, ◌∙◌, arith}
use Rattle.std.specs.Prelude.{nat_lt}
use Rattle.std.specs.List.{cons_option, list_any, filter_map}
use Rattle.std.proofs.Math.Seq.{take-suc}
use Rattle.std.proofs.lemmas.Option.{slice_get-get_or}
use Rattle.std.specs.Option.{option_and_then, option_map, option_map_or}
use Rattle.std.proofs.Math.ListN.{get_or-eq_default}
use Rattle.std.proofs.lemmas.Bool.{cases_eq, cases_lt}
use Rattle.std.proofs.lemmas.Bool.Decides.{nat_tests}
use Rattle.std.proofs.lemmas.List.Folds.{list_any-append}
use Rattle.giotto_tasks.proofs.cited.TestLemmas.{and_false, or_assoc, or_true, or_turned}
use Rattle.giotto_tasks.specs.declared.names.Name.{Name}
use Rattle.rig_model.specs.grants.Grants.{bind_at, place_in, with_place}
use Rattle.rig_model.specs.declared.grants.rows.Bind.{Bind}
use Rattle.rig_model.specs.config.Roster.{Rig}
use Rattle.rig_model.specs.declared.jobs.JobId.{JobId}
use Rattle.rig_model.specs.Row.{empty_row}
use Rattle.rig_model.specs.Host.{host_after}
use Rattle.rig_model.specs.HostState.{HostState, row_at}
use Rattle.host_core.specs.HostStanding.{HostStanding, Stands}
use Rattle.rig_model.specs.Base.{Setting}
use Rattle.rig_model.specs.Sources.{is_source, suppliers_of}
use Rattle.rig_model.specs.Views.{row_of}
use Rattle.rig_model.specs.declared.events.Event.{Event}
use Rattle.rig_model.specs.declared.events.Event.TheVariants.{Own, Tick, Done}
use Rattle.host_core.specs.declared.trials.Flow.{Flow}
use Rattle.host_core.specs.inner.Playing.{IsPlayed}
use Rattle.host_core.specs.inner.Trials.{AreFlows, AreFlowsBefore, LeadBack, has_flow, is_reached}
use Rattle.instant_engine.proofs.of_laws.AloneAlong.{same_rows}
use Rattle.instant_engine.proofs.of_laws.Releases.{is_within, row_outside}
use Rattle.instant_engine.proofs.of_laws.SourceSets.{before_tick}

-- the suppliers that these binds name
abbrev pub named : List Name → List Bind → List ℕ
named roster bs = filter_map (λ (b : Bind). place_in roster b.tenant) bs

named_end : (roster : List Name) (bs : List Bind) (b : Bind) (u : ℕ)
    → is_source (named roster (bs ++ b ∷ [])) u ≡ (is_source (named roster bs) u || option_map_or (λ v. eqb v u) (place_in roster b.tenant) false)
named_end roster [] b u = by (place_in roster b.tenant)
  where
    by : (p : Option ℕ) → is_source (cons_option p []) u ≡ option_map_or (λ v. eqb v u) p false
    by None = refl
    by (Some v) = or_turned (eqb v u) false
named_end roster (x ∷ bs) b u = by (place_in roster x.tenant) (named_end roster bs b u)
  where
    is_b : Bool
    is_b = option_map_or (λ v. eqb v u) (place_in roster b.tenant) false

    by : (p : Option ℕ) → is_source (named roster (bs ++ b ∷ [])) u ≡ (is_source (named roster bs) u || is_b)
        → is_source (cons_option p (named roster (bs ++ b ∷ []))) u ≡ (is_source (cons_option p (named roster bs)) u || is_b)
    by None same = same
    by (Some v) same = ap (λ c. eqb v u || c) same ∙ or_assoc (eqb v u) (is_source (named roster bs) u) is_b

abbrev no_bind : Bind
no_bind = record { sensor = []; tenant = []; actuator = [] }

-- a borrowed bind
abbrev pub lent : Bor Name × ℕ × Bor Name → Name × ℕ × Name
lent b = (b.0.now, b.1, b.2.now)

-- one more bind
pub one_bind_more : (roster : List Name) (bs : List Bind) (i u : ℕ) (o : Option (Name × ℕ × Name)) → i < length bs → o ≡ bind_at roster bs i
    → is_source (named roster (take (i + 1) bs)) u ≡ (is_source (named roster (take i bs)) u || option_map_or (λ (b : Name × ℕ × Name). eqb b.1 u) o false)
one_bind_more roster bs i u o lt is =
    ap (λ xs. is_source (named roster xs) u) (ap (λ n. take n bs) (add-one i) ∙ take-suc bs i no_bind lt)
    ∙ (named_end roster (take i bs) b u
    ∙ ap (λ c. is_source (named roster (take i bs)) u || c) (by (place_in roster b.tenant) ∙ ap (λ p. option_map_or (λ (b : Name × ℕ × Name). eqb b.1 u) p false) (sym here)))
  where
    b : Bind
    b = get_or bs i no_bind

    here : o ≡ with_place roster b
    here = is ∙ ap (option_and_then (with_place roster)) (slice_get-get_or bs i no_bind lt)

    by : (p : Option ℕ) → option_map_or (λ v. eqb v u) p false ≡ option_map_or (λ (b : Name × ℕ × Name). eqb b.1 u) (option_map (λ v. (b.sensor, v, b.actuator)) p) false
    by None = refl
    by (Some v) = refl

-- one more flow
one_flow_more : (flows : List Flow) (f : Flow) (t u : ℕ) → has_flow (flows ++ f ∷ []) t u ≡ (has_flow flows t u || (eqb t f.consumer && eqb f.supplier u))
one_flow_more flows f t u =
    list_any-append (λ (f : Flow). eqb t f.consumer && eqb f.supplier u) flows (f ∷ [])
    ∙ ap (λ b. has_flow flows t u || b) (or_turned (eqb t f.consumer && eqb f.supplier u) false)

within_both : (before is_it some other : Bool) → ((before || (is_it && some)) || (is_it && other)) ≡ (before || (is_it && (some || other)))
within_both true is_it some other = refl
within_both false true some other = refl
within_both false false some other = refl

-- the flows of one tenant's first binds, and that of one more bind
pub flow_of_bind : (flows before : List Flow) (consumer supplier : ℕ) (roster : List Name) (bs : List Bind) (i : ℕ) (o : Option (Name × ℕ × Name)) (s a : Name)
    → i < length bs → o ≡ bind_at roster bs i → o ≡ Some (s, supplier, a)
    → ((t u : ℕ) → has_flow flows t u ≡ (has_flow before t u || (eqb t consumer && is_source (named roster (take i bs)) u)))
    → (t u : ℕ) → has_flow (flows ++ record { consumer = consumer; supplier = supplier } ∷ []) t u ≡ (has_flow before t u || (eqb t consumer && is_source (named roster (take (i + 1) bs)) u))
flow_of_bind flows before consumer supplier roster bs i o s a lt is some are t u =
    one_flow_more flows (record { consumer = consumer; supplier = supplier }) t u
    ∙ (ap (λ b. b || (eqb t consumer && eqb supplier u)) (are t u)
    ∙ (within_both (has_flow before t u) (eqb t consumer) (is_source (named roster (take i bs)) u) (eqb supplier u)
    ∙ ap (λ b. has_flow before t u || (eqb t consumer && b))
    (ap (λ p. is_source (named roster (take i bs)) u || option_map_or (λ (b : Name × ℕ × Name). eqb b.1 u) p false) (sym some) ∙ sym (one_bind_more roster bs i u o lt is))))

-- a bind that names no tenant of the roster gives no flow
pub no_flow_of_bind : (flows before : List Flow) (consumer : ℕ) (roster : List Name) (bs : List Bind) (i : ℕ) (o : Option (Name × ℕ × Name))
    → i < length bs → o ≡ bind_at roster bs i → o ≡ None
    → ((t u : ℕ) → has_flow flows t u ≡ (has_flow before t u || (eqb t consumer && is_source (named roster (take i bs)) u)))
    → (t u : ℕ) → has_flow flows t u ≡ (has_flow before t u || (eqb t consumer && is_source (named roster (take (i + 1) bs)) u))
no_flow_of_bind flows before consumer roster bs i o lt is none are t u =
    are t u
    ∙ ap (λ b. has_flow before t u || (eqb t consumer && b))
    (or_turned false (is_source (named roster (take i bs)) u)
    ∙ (ap (λ p. is_source (named roster (take i bs)) u || option_map_or (λ (b : Name × ℕ × Name). eqb b.1 u) p false) (sym none) ∙ sym (one_bind_more roster bs i u o lt is)))

-- the flows of one more tenant
pub one_tenant_more : (some : ℕ → Bool) (t n : ℕ) → ((nat_lt t n && some t) || (eqb t n && some n)) ≡ (nat_lt t (n + 1) && some t)
one_tenant_more some t n = ⊎_elim
    (λ (same : t ≡ n).
    let is : eqb t n ≡ true = grind (arith, nat_tests) in
    let not_below : nat_lt t n ≡ false = grind (arith, nat_tests) in
    let below : nat_lt t (n + 1) ≡ true = grind (arith, nat_tests) in
    ap (λ b. (b && some t) || (eqb t n && some n)) not_below ∙ (ap (λ b. b && some n) is ∙ (ap some (sym same) ∙ ap (λ b. b && some t) (sym below))))
    (λ (differ : t ≢ n).
    let is : eqb t n ≡ false = grind (arith, nat_tests) in
    let below : nat_lt t n ≡ nat_lt t (n + 1) = grind (arith, nat_tests) in
    ap (λ b. (nat_lt t n && some t) || (b && some n)) is ∙ (or_turned (nat_lt t n && some t) false ∙ ap (λ b. b && some t) below))
    (cases_eq t n)

-- the flows of all tenants
pub flows_of_all : (setting : Setting) (host : HostStanding) (state : HostState) (flows : List Flow) (n : ℕ) → Stands setting host state → n ≡ length host.config.tenants
    → ((t u : ℕ) → has_flow flows t u ≡ (nat_lt t n && is_source (suppliers_of setting (row_at state t)) u)) → AreFlows setting (row_at state) flows
flows_of_all setting host state flows n stands all are t u = are t u ∙ by (cases_lt t n)
  where
    by : (t < n) ⊎ (n ≤ t) → (nat_lt t n && is_source (suppliers_of setting (row_at state t)) u) ≡ is_source (suppliers_of setting (row_at state t)) u
    by (inl lt) = let below : nat_lt t n ≡ true = grind (arith, nat_tests) in ap (λ b. b && is_source (suppliers_of setting (row_at state t)) u) below
    by (inr le) =
        let outside : length state.rows ≤ t = omega (arith, stands.all_rows, ap (λ (k : Rig). length k.tenants) stands.same_config, all) in
        let none : is_source (suppliers_of setting (row_at state t)) u ≡ false = ap (λ row. is_source (suppliers_of setting row) u) (get_or-eq_default state.rows (empty_row state.clock) outside) in
        let above : nat_lt t n ≡ false = grind (arith, nat_tests) in
        ap (λ b. b && is_source (suppliers_of setting (row_at state t)) u) above ∙ sym none

any_same : {X : Type 0} (p q : X → Bool) → ((x : X) → p x ≡ q x) → (xs : List X) → list_any p xs ≡ list_any q xs
any_same p q same [] = refl
any_same p q same (x ∷ xs) = ap (λ b. b || list_any p xs) (same x) ∙ ap (λ b. q x || b) (any_same p q same xs)

any_of_none : {X : Type 0} (xs : List X) → list_any (λ x. false) xs ≡ false
any_of_none [] = refl
any_of_none (x ∷ xs) = any_of_none xs

any_or : {X : Type 0} (p q : X → Bool) (xs : List X) → list_any (λ x. p x || q x) xs ≡ (list_any p xs || list_any q xs)
any_or p q [] = refl
any_or p q (x ∷ xs) = ap (λ b. (p x || q x) || b) (any_or p q xs) ∙ turned (p x) (q x) (list_any p xs) (list_any q xs)
  where
    turned : (a b c d : Bool) → ((a || b) || (c || d)) ≡ ((a || c) || (b || d))
    turned true b c d = refl
    turned false true c d = sym (or_true c)
    turned false false c d = refl

any_and : {X : Type 0} (p : X → Bool) (b : Bool) (xs : List X) → list_any (λ x. p x && b) xs ≡ (list_any p xs && b)
any_and p b [] = refl
any_and p b (x ∷ xs) = ap (λ c. (p x && b) || c) (any_and p b xs) ∙ both (p x) (list_any p xs) b
  where
    both : (a c d : Bool) → ((a && d) || (c && d)) ≡ ((a || c) && d)
    both true c true = refl
    both true c false = and_false c
    both false c d = refl

-- whether there is a flow to one of these sources, asked flow by flow and source by source
turned_round : (flows : List Flow) (sources : List ℕ) (u : ℕ)
    → list_any (λ (f : Flow). is_source sources f.consumer && eqb f.supplier u) flows ≡ list_any (λ t. has_flow flows t u) sources
turned_round [] sources u = sym (any_of_none sources)
turned_round (f ∷ flows) sources u =
    ap (λ b. (is_source sources f.consumer && eqb f.supplier u) || b) (turned_round flows sources u)
    ∙ (ap (λ b. b || list_any (λ t. has_flow flows t u) sources) (sym (any_and (λ t. eqb t f.consumer) (eqb f.supplier u) sources))
    ∙ sym (any_or (λ t. eqb t f.consumer && eqb f.supplier u) (λ t. has_flow flows t u) sources))

module _ (setting : Setting) where
  -- the flows before an instant lead from the sources after it to those before it
  lead_by_rows : (past : List Event) (frame : List ℤ) (flows : List Flow) → AreFlows setting (row_of setting past) flows → LeadBack setting (Tick frame) past flows
  lead_by_rows past frame flows are sources u =
      ap (λ b. is_source sources u || b)
      (turned_round flows sources u ∙ any_same (λ t. has_flow flows t u) (λ t. is_source (suppliers_of setting (row_of setting past t)) u) (λ t. are t u) sources)
      ∙ sym (before_tick setting past sources u)

  no_flows : (flows : List Flow) (sources : List ℕ) (u : ℕ) → flows ≡ [] → is_reached sources flows u ≡ is_source sources u
  no_flows flows sources u none = ap (λ fs. is_reached sources fs u) none ∙ or_turned (is_source sources u) false

  pub lead_back : (past : List Event) (e : Event) (host : HostStanding) (texts : List (List ℕ)) (released : List JobId) (flows : List Flow)
      → IsPlayed setting past host texts released → AreFlowsBefore e host flows → LeadBack setting e past flows
  lead_back past (Own t c) host texts released flows played none = λ sources u. no_flows flows sources u none
  lead_back past (Done j) host texts released flows played none = λ sources u. no_flows flows sources u none
  lead_back past (Tick frame) host texts released flows played are = lead_by_rows past frame flows (λ t u.
      are setting (host_after setting past) played.stands t u ∙ by t u (cases_lt t (length setting.config.tenants)))
    where
      state : HostState
      state = host_after setting past

      by : (t u : ℕ) → (t < length setting.config.tenants) ⊎ (length setting.config.tenants ≤ t)
          → is_source (suppliers_of setting (row_at state t)) u ≡ is_source (suppliers_of setting (row_of setting past t)) u
      by t u (inl lt) = ap (λ row. is_source (suppliers_of setting row) u) (same_rows setting played.base past t played.legal (is_within setting played.base t lt))
      by t u (inr le) =
          let outside : length state.rows ≤ t = omega (arith, played.stands.all_rows) in
          ap (λ row. is_source (suppliers_of setting row) u) (get_or-eq_default state.rows (empty_row state.clock) outside)
          ∙ ap (λ row. is_source (suppliers_of setting row) u) (sym (row_outside setting played.base past t played.legal le))
