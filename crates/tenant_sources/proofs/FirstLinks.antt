-- There is a first link from a tenant to each other tenant that is its source. Its supplier is the source, or has a first link to the
-- source at an earlier tick.
use Rattle.std.proofs.Common.{◌≡◌, ◌⊎◌, ◌<◌, ◌+◌, ◌-◌, ◌^◌, ℕ, Bool, true, false, cond, ◌||◌, ◌==◌, nat_lt, ℤ, List, [], ◌∷◌, ◌++◌, length, take, drop, slice_get, find, filter_map, Option, Some, None, is_some, option_map, inl, inr, refl, sym, ap, subst, ◌∙◌, arith}
use Rattle.std.specs.List.{list_any, cons_option}
use Rattle.std.specs.Option.{option_and_then, option_or}
use Rattle.std.proofs.lemmas.Bool.{and_parts, or_left, or_parts, or_right}
use Rattle.std.proofs.lemmas.Bool.Decides.{nat_tests}
use Rattle.std.proofs.lemmas.List.{length-map, take-append-drop, take_more}
use Rattle.std.proofs.lemmas.List.Elements.{filter_map-append}
use Rattle.std.proofs.lemmas.List.Folds.{find-append}
use Rattle.std.proofs.lemmas.Option.{get_or_from_slice_get}
use Rattle.std.proofs.lemmas.List.Quantifiers.{position-Some}
use Rattle.giotto_tasks.proofs.cited.ListLemmas.{find_is_any, is_some-option_map, some_same}
use Rattle.giotto_tasks.proofs.cited.TestLemmas.{either}
use Rattle.giotto_tasks.specs.declared.names.Name.{Name}
use Rattle.giotto_tasks.specs.Names.{same_name}
use Rattle.rig_model.specs.declared.events.Event.{Event}
use Rattle.rig_model.specs.declared.events.Event.TheVariants.{Own, Tick, Done}
use Rattle.tenant_sources.specs.declared.tables.Link.{Link}
use Rattle.rig_model.specs.Legal.{is_legal, may_follow, next_tick}
use Rattle.tenant_sources.specs.Links.{first_link, is_source_of, link_at, placed_binds}
use Rattle.rig_model.specs.Base.{Setting}
use Rattle.rig_model.specs.Sources.{suppliers_of}
use Rattle.rig_model.specs.Tenancies.{roster_of}
use Rattle.rig_model.specs.Views.{row_of}
use Rattle.rig_model.specs.declared.config.TenantConfig.{TenantConfig}
use Rattle.rig_model.specs.declared.grants.rows.Bind.{Bind}
use Rattle.rig_model.specs.grants.Grants.{bind_at, place_in, with_place}
use Rattle.tenant_sources.proofs.ForwardSources.{behind_tick}

abbrev pub Placed : Type 0
Placed = Name × ℕ × Name

module _ (roster : List Name) where
  -- a test holds of some supplier exactly if it holds of the supplier of some bind
  any_placed : (q : ℕ → Bool) (bs : List Bind) → list_any q (filter_map (λ (b : Bind). place_in roster b.tenant) bs) ≡ list_any (λ (b : Placed). q b.1) (filter_map (with_place roster) bs)
  any_placed q [] = refl
  any_placed q (b ∷ bs) = by (place_in roster b.tenant) (any_placed q bs)
    where
      by : (o : Option ℕ) → list_any q (filter_map (λ (b : Bind). place_in roster b.tenant) bs) ≡ list_any (λ (b : Placed). q b.1) (filter_map (with_place roster) bs)
          → list_any q (cons_option o (filter_map (λ (b : Bind). place_in roster b.tenant) bs))
          ≡ list_any (λ (b : Placed). q b.1) (cons_option (option_map {U = Placed} (λ u. (b.sensor, u, b.actuator)) o) (filter_map (with_place roster) bs))
      by None ih = ih
      by (Some u) ih = ap (λ x. q u || x) ih

  -- the bind that is found passes the test, and its supplier is in the roster
  pub found_placed : (q : ℕ → Bool) (bs : List Bind) (x : Placed) → find (λ (b : Placed). q b.1) (filter_map (with_place roster) bs) ≡ Some x → (q x.1 ≡ true) × (x.1 < length roster)
  found_placed q [] x e = absurd (cc)
  found_placed q (b ∷ bs) x e = by (place_in roster b.tenant) refl (found_placed q bs x) e
    where
      by : (o : Option ℕ) → place_in roster b.tenant ≡ o → (find (λ (b : Placed). q b.1) (filter_map (with_place roster) bs) ≡ Some x → (q x.1 ≡ true) × (x.1 < length roster))
          → find (λ (b : Placed). q b.1) (cons_option (option_map {U = Placed} (λ u. (b.sensor, u, b.actuator)) o) (filter_map (with_place roster) bs)) ≡ Some x → (q x.1 ≡ true) × (x.1 < length roster)
      by None at rest e = rest e
      by (Some v) at rest e = test (q v) refl e
        where
          test : (c : Bool) → q v ≡ c → cond c (Some (b.sensor, v, b.actuator)) (find (λ (b : Placed). q b.1) (filter_map (with_place roster) bs)) ≡ Some x → (q x.1 ≡ true) × (x.1 < length roster)
          test true s e =
              let same : v ≡ x.1 = ap (λ (y : Placed). y.1) (some_same (b.sensor, v, b.actuator) x e) in
              (ap q (sym same) ∙ s, subst (λ n. n < length roster) same (position-Some (λ n. same_name n b.tenant) roster v [] at).0)
          test false s e = rest e

  -- two tests that agree on the roster find the same bind
  pub same_found : (p q : ℕ → Bool) → ((v : ℕ) → v < length roster → p v ≡ q v) → (bs : List Bind)
      → find (λ (b : Placed). p b.1) (filter_map (with_place roster) bs) ≡ find (λ (b : Placed). q b.1) (filter_map (with_place roster) bs)
  same_found p q same [] = refl
  same_found p q same (b ∷ bs) = by (place_in roster b.tenant) refl (same_found p q same bs)
    where
      by : (o : Option ℕ) → place_in roster b.tenant ≡ o → find (λ (b : Placed). p b.1) (filter_map (with_place roster) bs) ≡ find (λ (b : Placed). q b.1) (filter_map (with_place roster) bs)
          → find (λ (b : Placed). p b.1) (cons_option (option_map {U = Placed} (λ u. (b.sensor, u, b.actuator)) o) (filter_map (with_place roster) bs))
          ≡ find (λ (b : Placed). q b.1) (cons_option (option_map {U = Placed} (λ u. (b.sensor, u, b.actuator)) o) (filter_map (with_place roster) bs))
      by None at rest = rest
      by (Some v) at rest =
          ap (λ c. cond c (Some (b.sensor, v, b.actuator)) (find (λ (b : Placed). p b.1) (filter_map (with_place roster) bs))) (same v (position-Some (λ n. same_name n b.tenant) roster v [] at).0)
          ∙ ap (λ (o : Option Placed). cond (q v) (Some (b.sensor, v, b.actuator)) o) rest

  -- a search among the first binds, with one more bind
  pub found_next : (q : ℕ → Bool) (bs : List Bind) (i : ℕ) (x : Placed) → find (λ (b : Placed). q b.1) (filter_map (with_place roster) (take i bs)) ≡ None → i < length bs → bind_at roster bs i ≡ Some x
      → find (λ (b : Placed). q b.1) (filter_map (with_place roster) (take (i + 1) bs)) ≡ cond (q x.1) (Some x) None
  found_next q bs i x none lt e = by (slice_get bs i) refl e
    where
      by : (o : Option Bind) → slice_get bs i ≡ o → option_and_then (with_place roster) o ≡ Some x
          → find (λ (b : Placed). q b.1) (filter_map (with_place roster) (take (i + 1) bs)) ≡ cond (q x.1) (Some x) None
      by None at placed = absurd (cc)
      by (Some b) at placed =
          ap (λ (cs : List Bind). find (λ (b : Placed). q b.1) (filter_map (with_place roster) cs)) (take_more bs i b lt ∙ ap (λ (c : Bind). take i bs ++ c ∷ []) (get_or_from_slice_get bs i b b at))
          ∙ (ap (λ (cs : List Placed). find (λ (b : Placed). q b.1) cs) (filter_map-append (with_place roster) (take i bs) (b ∷ []))
          ∙ (find-append (λ (b : Placed). q b.1) (filter_map (with_place roster) (take i bs)) (filter_map (with_place roster) (b ∷ []))
          ∙ (ap (λ (o : Option Placed). option_or o (find (λ (b : Placed). q b.1) (filter_map (with_place roster) (b ∷ [])))) none
          ∙ ap (λ (o : Option Placed). find (λ (b : Placed). q b.1) (cons_option o [])) placed)))

  -- a bind that is found among the first binds is found among all
  pub found_before : (q : ℕ → Bool) (bs : List Bind) (i : ℕ) (x : Placed) → find (λ (b : Placed). q b.1) (filter_map (with_place roster) (take i bs)) ≡ Some x
      → find (λ (b : Placed). q b.1) (filter_map (with_place roster) bs) ≡ Some x
  found_before q bs i x e =
      ap (λ (cs : List Bind). find (λ (b : Placed). q b.1) (filter_map (with_place roster) cs)) (sym (take-append-drop i bs))
      ∙ (ap (λ (cs : List Placed). find (λ (b : Placed). q b.1) cs) (filter_map-append (with_place roster) (take i bs) (drop i bs))
      ∙ (find-append (λ (b : Placed). q b.1) (filter_map (with_place roster) (take i bs)) (filter_map (with_place roster) (drop i bs))
      ∙ ap (λ (o : Option Placed). option_or o (find (λ (b : Placed). q b.1) (filter_map (with_place roster) (drop i bs)))) e))

module _ (setting : Setting) where
  -- the first of t's binds just before a tick whose supplier had u as a source
  abbrev pub found : List Event → ℕ → ℕ → Option Placed
  found past t u = find (λ (b : Placed). is_source_of setting past b.1 u) (placed_binds setting (row_of setting past t))

  -- the sources of a tenant are those that it is linked to, and the tenant itself
  pub source_is_linked : (past : List Event) (t u : ℕ) → is_source_of setting past t u ≡ (t == u || is_some (first_link setting past t u))
  source_is_linked [] t u = refl
  source_is_linked (Own v c ∷ past) t u = source_is_linked past t u
  source_is_linked (Done j ∷ past) t u = source_is_linked past t u
  source_is_linked (Tick frame ∷ past) t u = behind_tick setting past frame t u ∙ by (is_source_of setting past t u) refl (source_is_linked past t u)
    where
      brought : Bool
      brought = list_any (λ v. is_source_of setting past v u) (suppliers_of setting (row_of setting past t))

      new : brought ≡ is_some (option_map (link_at (next_tick setting past)) (found past t u))
      new =
          any_placed (roster_of setting.config) (λ v. is_source_of setting past v u) (row_of setting past t).binds
          ∙ (sym (find_is_any (λ (b : Placed). is_source_of setting past b.1 u) (placed_binds setting (row_of setting past t)))
          ∙ sym (is_some-option_map (link_at (next_tick setting past)) (found past t u)))

      by : (b : Bool) → is_source_of setting past t u ≡ b → is_source_of setting past t u ≡ (t == u || is_some (first_link setting past t u))
          → (b || brought) ≡ (t == u || is_some (cond b (first_link setting past t u) (option_map (link_at (next_tick setting past)) (found past t u))))
      by true e ih = sym e ∙ ih
      by false e ih =
          let other : (t == u) ≡ false = (or_parts (t == u) (is_some (first_link setting past t u)) (sym ih ∙ e)).0 in
          new ∙ ap (λ b. b || is_some (option_map (link_at (next_tick setting past)) (found past t u))) (sym other)

  pub own_source : (past : List Event) (t : ℕ) → is_source_of setting past t t ≡ true
  own_source past t = source_is_linked past t t ∙ or_left (t == t) (is_some (first_link setting past t t)) (grind (arith, nat_tests))

  -- no link is from a tenant to itself
  pub none_to_itself : (past : List Event) (t : ℕ) → first_link setting past t t ≡ None
  none_to_itself [] t = refl
  none_to_itself (Own v c ∷ past) t = none_to_itself past t
  none_to_itself (Done j ∷ past) t = none_to_itself past t
  none_to_itself (Tick frame ∷ past) t =
      ap (λ b. cond b (first_link setting past t t) (option_map (link_at (next_tick setting past)) (found past t t))) (own_source past t) ∙ none_to_itself past t

  -- a link stays in its place
  pub still_linked : (past : List Event) (frame : List ℤ) (t u : ℕ) (link : Link) → first_link setting past t u ≡ Some link → first_link setting (Tick frame ∷ past) t u ≡ Some link
  still_linked past frame t u link e =
      let is : is_source_of setting past t u ≡ true = source_is_linked past t u ∙ or_right (t == u) (is_some (first_link setting past t u)) (ap (λ (o : Option Link). is_some o) e) in
      ap (λ b. cond b (first_link setting past t u) (option_map (link_at (next_tick setting past)) (found past t u))) is ∙ e

  -- the first link from t to u: its supplier is u, or has a first link to u at an earlier tick
  pub record Leads (past : List Event) (u : ℕ) (link : Link) : Type 0 where
    pub within : link.supplier < length setting.config.tenants
    pub early : link.tick < next_tick setting past
    pub on : (link.supplier ≡ u) ⊎ ((next : Link) × (first_link setting past link.supplier u ≡ Some next) × (next.tick < link.tick))

  behind : (past : List Event) (frame : List ℤ) (u : ℕ) (link : Link) → Leads past u link → Leads (Tick frame ∷ past) u link
  behind past frame u link l = record {
    within = l.within;
    early = omega (arith, l.early);
    on = on l.on;
  }
    where
      on : ((link.supplier ≡ u) ⊎ ((next : Link) × (first_link setting past link.supplier u ≡ Some next) × (next.tick < link.tick)))
          → (link.supplier ≡ u) ⊎ ((next : Link) × (first_link setting (Tick frame ∷ past) link.supplier u ≡ Some next) × (next.tick < link.tick))
      on (inl e) = inl e
      on (inr n) = inr (n.0, still_linked past frame link.supplier u n.0 n.1, n.2)

  -- the supplier of a new link has the source already
  new_leads : (past : List Event) (frame : List ℤ) (u : ℕ) (x : Placed) → x.1 < length setting.config.tenants → is_source_of setting past x.1 u ≡ true
      → ((next : Link) → first_link setting past x.1 u ≡ Some next → next.tick < next_tick setting past) → Leads (Tick frame ∷ past) u (link_at (next_tick setting past) x)
  new_leads past frame u x lt is earlier = record {
    within = lt;
    early = omega arith;
    on = either (x.1 == u) (is_some (first_link setting past x.1 u)) _ (sym (source_is_linked past x.1 u) ∙ is) (λ e. inl (grind (arith, nat_tests))) (linked (first_link setting past x.1 u) refl);
  }
    where
      linked : (o : Option Link) → first_link setting past x.1 u ≡ o → is_some o ≡ true
          → (x.1 ≡ u) ⊎ ((next : Link) × (first_link setting (Tick frame ∷ past) x.1 u ≡ Some next) × (next.tick < next_tick setting past))
      linked None e h = absurd (cc)
      linked (Some next) e h = inr (next, still_linked past frame x.1 u next e, earlier next e)

  pub leads : (past : List Event) (t u : ℕ) (link : Link) → first_link setting past t u ≡ Some link → Leads past u link
  leads [] t u link e = absurd (cc)
  leads (Own v c ∷ past) t u link e = let l = leads past t u link e in record { within = l.within; early = l.early; on = l.on }
  leads (Done j ∷ past) t u link e = let l = leads past t u link e in record { within = l.within; early = l.early; on = l.on }
  leads (Tick frame ∷ past) t u link e = by (is_source_of setting past t u) (λ h. behind past frame u link (leads past t u link h)) (λ v next h. (leads past v u next h).early) e
    where
      new : (o : Option Placed) → found past t u ≡ o → ((v : ℕ) (next : Link) → first_link setting past v u ≡ Some next → next.tick < next_tick setting past)
          → option_map (link_at (next_tick setting past)) o ≡ Some link → Leads (Tick frame ∷ past) u link
      new None f earlier e = absurd (cc)
      new (Some x) f earlier e =
          let given = found_placed (roster_of setting.config) (λ v. is_source_of setting past v u) (row_of setting past t).binds x f in
          let within : x.1 < length setting.config.tenants = omega (arith, given.1, length-map setting.config.tenants (λ (tenant : TenantConfig). tenant.name)) in
          subst (Leads (Tick frame ∷ past) u) (some_same (link_at (next_tick setting past) x) link e) (new_leads past frame u x within given.0 (earlier x.1))

      by : (b : Bool) → (first_link setting past t u ≡ Some link → Leads (Tick frame ∷ past) u link) → ((v : ℕ) (next : Link) → first_link setting past v u ≡ Some next → next.tick < next_tick setting past)
          → cond b (first_link setting past t u) (option_map (link_at (next_tick setting past)) (found past t u)) ≡ Some link → Leads (Tick frame ∷ past) u link
      by true still earlier e = still e
      by false still earlier e = new (found past t u) refl earlier e

  -- in a legal list each link's tick is below the greatest tick
  pub tick_fits : (past : List Event) (t u : ℕ) (link : Link) → is_legal setting past ≡ true → first_link setting past t u ≡ Some link → link.tick < 2 ^ 64 - 1
  tick_fits [] t u link legal e = absurd (cc)
  tick_fits (Own v c ∷ past) t u link legal e = tick_fits past t u link (and_parts (may_follow setting past (Own v c)) (is_legal setting past) legal).1 e
  tick_fits (Done j ∷ past) t u link legal e = tick_fits past t u link (and_parts (may_follow setting past (Done j)) (is_legal setting past) legal).1 e
  tick_fits (Tick frame ∷ past) t u link legal e =
      let parts = and_parts (may_follow setting past (Tick frame)) (is_legal setting past) legal in
      let early = (leads (Tick frame ∷ past) t u link e).early in
      let last = (and_parts (length frame == setting.config.lines) (nat_lt (next_tick setting past) (2 ^ 64 - 1)) parts.0).1 in
      grind (arith, nat_tests)
