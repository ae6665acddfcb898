-- Two lists whose frames a plant makes, and that differ only in what tenants outside a closed set do: the members see the same frames, since what they
-- read depends only on what members drive.
use Rattle.std.proofs.Common.{◌≡◌, ℕ, zero, suc, ◌+◌, ◌<◌, Bool, true, false, cond, ◌&&◌, ◌||◌, nat_lt, nat_eq, ℤ, pos, List, [], ◌∷◌, length, map, get_or, Option, Some, None, unwrap_or, refl, sym, ap, ◌∙◌, subst, arith}
use Rattle.std.specs.List.{enumerate_from, list_any, position, range_with_len}
use Rattle.std.specs.Option.{option_and_then, option_map_or}
use Rattle.std.specs.Prelude.{slice_get}
use Rattle.std.proofs.lemmas.Bool.{and_parts, eqb-true, false≢true}
use Rattle.std.proofs.lemmas.List.Quantifiers.{position-Some}
use Rattle.std.proofs.lemmas.Option.{slice_get-get_or}
use Rattle.giotto_tasks.proofs.cited.TestLemmas.{either, or_true}
use Rattle.plant_couplings.specs.Couplings.{can_change, is_coupled}
use Rattle.plant_couplings.specs.declared.couplings.Plant.{Plant}
use Rattle.plant_laws.proofs.SeenViews.{AreMembers, earlier, same_answers, same_views, seen}
use Rattle.plant_laws.specs.Closed.{IsClosed, is_driven_by}
use Rattle.plant_laws.specs.ClosedLoop.{Dynamics, IsLoop, KeepsTo, LoopsDifferOutside, done_of, driven_after, driven_along}
use Rattle.plant_laws.specs.Seen.{is_seen, seen_frame}
use Rattle.rig_laws.proofs.cited.Places.{nobody}
use Rattle.rig_model.specs.Answers.{answers_of}
use Rattle.rig_model.specs.Base.{Setting}
use Rattle.rig_model.specs.LineValues.{line_value, value_of_line, writer_of}
use Rattle.rig_model.specs.Row.{Row}
use Rattle.rig_model.specs.Sources.{suppliers_of}
use Rattle.rig_model.specs.Views.{row_of, run_of}
use Rattle.rig_model.specs.config.Roster.{Rig, may_use}
use Rattle.rig_model.specs.declared.config.TenantConfig.{TenantConfig}
use Rattle.rig_model.specs.declared.events.Event.{Event}
use Rattle.rig_model.specs.declared.events.Event.TheVariants.{Own, Tick, Done}
use Rattle.rig_model.specs.declared.jobs.JobId.{JobId}
use Rattle.rig_model.specs.declared.lines.commands.Command.{Command}
use Rattle.tenant_sources.specs.Links.{is_source_of}

-- frames with the same values on the lines that are seen are seen as the same
same_blanked : (q : ℕ → Bool) (f g : ℕ → ℤ) → ((k : ℕ) → q k ≡ true → f k ≡ g k) → (n m : ℕ)
    → map (λ (r : ℕ × ℤ). cond (q r.0) r.1 (pos 0)) (enumerate_from n (map f (range_with_len n m))) ≡ map (λ (r : ℕ × ℤ). cond (q r.0) r.1 (pos 0)) (enumerate_from n (map g (range_with_len n m)))
same_blanked q f g same n zero = refl
same_blanked q f g same n (suc m) =
    ap (λ (z : ℤ). z ∷ map (λ (r : ℕ × ℤ). cond (q r.0) r.1 (pos 0)) (enumerate_from (n + 1) (map f (range_with_len (n + 1) m)))) (by (q n) refl)
    ∙ ap (λ (zs : List ℤ). cond (q n) (g n) (pos 0) ∷ zs) (same_blanked q f g same (n + 1) m)
  where
    by : (b : Bool) → q n ≡ b → cond (q n) (f n) (pos 0) ≡ cond (q n) (g n) (pos 0)
    by true is = ap (λ (z : ℤ). cond (q n) z (pos 0)) (same n is)
    by false is = ap (λ b. cond b (f n) (pos 0)) is ∙ sym (ap (λ b. cond b (g n) (pos 0)) is)

-- an element with a number's test passes
some_line : (p : ℕ → Bool) (ks : List ℕ) (k : ℕ) → may_use ks k ≡ true → p k ≡ true → list_any p ks ≡ true
some_line p [] k among is = absurd (false≢true among)
some_line p (x ∷ ks) k among is =
    either (nat_eq k x) (list_any (nat_eq k) ks) (list_any p (x ∷ ks) ≡ true) among
    (λ h. ap (λ b. b || list_any p ks) (ap p (sym (eqb-true k x h)) ∙ is))
    (λ h. ap (λ b. p x || b) (some_line p ks k h is) ∙ or_true (p x))

-- the reader of a line that is seen
abbrev Reader : (ℕ → Bool) → ℕ → ℕ → List TenantConfig → Type 0
Reader members k n ts = (i : ℕ) × (reader : TenantConfig) × (members (n + i) ≡ true) × (slice_get ts i ≡ Some reader) × (may_use reader.budgets.reads k ≡ true)

reader_from : (members : ℕ → Bool) (k n : ℕ) (ts : List TenantConfig) → list_any (λ (place : ℕ × TenantConfig). members place.0 && may_use place.1.budgets.reads k) (enumerate_from n ts) ≡ true
    → Reader members k n ts
reader_from members k n [] e = absurd (false≢true e)
reader_from members k n (tenant ∷ ts) e =
    either (members n && may_use tenant.budgets.reads k) (list_any (λ (place : ℕ × TenantConfig). members place.0 && may_use place.1.budgets.reads k) (enumerate_from (n + 1) ts))
    (Reader members k n (tenant ∷ ts)) e
    (λ h. let parts = and_parts (members n) (may_use tenant.budgets.reads k) h in let at : n + 0 ≡ n = omega arith in (0, tenant, ap members at ∙ parts.0, refl, parts.1))
    (λ h.
    let rest = reader_from members k (n + 1) ts h in
    let at : n + suc rest.0 ≡ n + 1 + rest.0 = omega arith in
    (suc rest.0, rest.1, ap members at ∙ rest.2, rest.3, rest.4))

-- the tenant that may drive a line
writer_at : (config : Rig) (j t : ℕ) → writer_of config j ≡ Some t → (writer : TenantConfig) × (slice_get config.tenants t ≡ Some writer) × (may_use writer.budgets.writes j ≡ true)
writer_at config j t e =
    let place = position-Some (λ (tenant : TenantConfig). may_use tenant.budgets.writes j) config.tenants t nobody e in
    (get_or config.tenants t nobody, slice_get-get_or config.tenants t nobody place.0, place.1)

-- the members see the event
abbrev is_done : (ℕ → Bool) → Event → Bool
is_done members (Own t c) = members t
is_done members (Done j) = members j.tenant
is_done members (Tick frame) = true

-- an event without its frame
abbrev blank : Event → Event
blank (Own t c) = Own t c
blank (Done j) = Done j
blank (Tick frame) = Tick []

done_is : (members : ℕ → Bool) (e : Event) (past : List Event) → done_of members (e ∷ past) ≡ cond (is_done members e) (blank e ∷ done_of members past) (done_of members past)
done_is members (Own t c) past = refl
done_is members (Done j) past = refl
done_is members (Tick frame) past = refl

module _ (setting : Setting) (plant : Plant) (dynamics : Dynamics) (members : ℕ → Bool)
    (itself : (past : List Event) (t : ℕ) → is_source_of setting past t t ≡ true)
    (forward : (past : List Event) (frame : List ℤ) (t u : ℕ)
    → is_source_of setting (Tick frame ∷ past) t u ≡ (is_source_of setting past t u || list_any (λ v. is_source_of setting past v u) (suppliers_of setting (row_of setting past t)))) where
  abbrev AreClosed : List Event → Type 0
  AreClosed past = (t : ℕ) → members t ≡ true → AreMembers setting members past t

  -- only a member may drive the line
  abbrev IsOwn : ℕ → Type 0
  IsOwn j = (t : ℕ) → writer_of setting.config j ≡ Some t → members t ≡ true

  -- the members see the same of both lists, of equally many instants, before which their lines were driven with the same values
  abbrev Agree : List Event → List Event → Type 0
  Agree past others =
      (seen setting members past ≡ seen setting members others) × (length (driven_along setting past) ≡ length (driven_along setting others))
      × ((j : ℕ) → IsOwn j → map (λ (driven : ℕ → ℤ). driven j) (driven_along setting past) ≡ map (λ (driven : ℕ → ℤ). driven j) (driven_along setting others))

  same_driven : (past others : List Event) → seen setting members past ≡ seen setting members others → AreClosed past → (j : ℕ) → IsOwn j → driven_after setting past j ≡ driven_after setting others j
  same_driven past others same closed j own = by (writer_of setting.config j) own
    where
      value : List Event → Option ℕ → ℤ
      value events o = unwrap_or (option_and_then (λ t. line_value (row_of setting events t) j) o) (pos 0)

      by : (o : Option ℕ) → ((t : ℕ) → o ≡ Some t → members t ≡ true) → value past o ≡ value others o
      by None is = refl
      by (Some t) is =
          let row = ap (run_of setting t) (same_views setting members itself forward past others t same (closed t (is t refl))) in
          ap (λ (r : Row). unwrap_or (line_value r j) (pos 0)) row

  -- a line that is coupled to one that is seen is only driven by members
  coupled_is_own : (past : List Event) → IsClosed setting plant past members → (k j : ℕ) → is_seen setting.config members k ≡ true → is_coupled plant j k ≡ true → IsOwn j
  coupled_is_own past closed k j seen_k coupled t writes =
      let reader = reader_from members k 0 setting.config.tenants seen_k in
      let at : 0 + reader.0 ≡ reader.0 = omega arith in
      let writer = writer_at setting.config j t writes in
      let changes : can_change plant writer.0 reader.1 ≡ true =
      some_line (λ i. list_any (is_coupled plant i) reader.1.budgets.reads) writer.0.budgets.writes j writer.2 (some_line (is_coupled plant j) reader.1.budgets.reads k reader.4 coupled) in
      let driven : is_driven_by setting.config plant reader.0 t ≡ true =
      ap (λ (o : Option TenantConfig). option_map_or (λ (driver : TenantConfig). option_map_or (can_change plant driver) (slice_get setting.config.tenants reader.0) false) o false) writer.1
      ∙ (ap (λ (o : Option TenantConfig). option_map_or (can_change plant writer.0) o false) reader.3 ∙ changes) in
      closed reader.0 t (ap members (sym at) ∙ reader.2) (ap (λ b. is_source_of setting past reader.0 t || b) driven ∙ or_true (is_source_of setting past reader.0 t))

  module _ (whole : List Event) (closed : IsClosed setting plant whole members) (keeps : KeepsTo plant dynamics) where
    -- one more instant
    tick : (f g : List ℤ) (past others : List Event) → AreClosed past → Agree past others → IsLoop setting dynamics (Tick f ∷ past) → IsLoop setting dynamics (Tick g ∷ others)
        → Agree (Tick f ∷ past) (Tick g ∷ others)
    tick f g past others sources agree first second = (
      ap (λ (frame : List ℤ). Tick frame ∷ seen setting members past) frames ∙ ap (λ (events : List Event). Tick (seen_frame setting.config members g) ∷ events) agree.0,
      ap suc agree.1,
      λ j own. ap (λ (z : ℤ). z ∷ map (λ (driven : ℕ → ℤ). driven j) (driven_along setting past)) (same_driven past others agree.0 sources j own)
          ∙ ap (λ (zs : List ℤ). driven_after setting others j ∷ zs) (agree.2 j own),
    )
      where
        before : List (ℕ → ℤ)
        before = driven_after setting past ∷ driven_along setting past

        after : List (ℕ → ℤ)
        after = driven_after setting others ∷ driven_along setting others

        inputs : (k : ℕ) → is_seen setting.config members k ≡ true → dynamics before k ≡ dynamics after k
        inputs k seen_k = keeps k before after (ap suc agree.1) (λ j coupled.
            let own = coupled_is_own whole closed k j seen_k coupled in
            ap (λ (z : ℤ). z ∷ map (λ (driven : ℕ → ℤ). driven j) (driven_along setting past)) (same_driven past others agree.0 sources j own)
            ∙ ap (λ (zs : List ℤ). driven_after setting others j ∷ zs) (agree.2 j own))

        frames : seen_frame setting.config members f ≡ seen_frame setting.config members g
        frames =
            ap (seen_frame setting.config members) first.0
            ∙ (same_blanked (is_seen setting.config members) (dynamics before) (dynamics after) inputs 0 setting.config.lines ∙ sym (ap (seen_frame setting.config members) second.0))

    -- one more event of both lists, the same to the members
    kept : (e d : Event) (past others : List Event) → blank e ≡ blank d → AreClosed past → IsLoop setting dynamics (e ∷ past) → IsLoop setting dynamics (d ∷ others)
        → Agree past others → Agree (e ∷ past) (d ∷ others)
    kept (Own t c) (Own u d) past others same sources first second agree =
        subst (λ (x : Event). Agree (Own t c ∷ past) (x ∷ others)) same (ap (λ (es : List Event). cond (members t) (Own t c ∷ es) es) agree.0, agree.1, agree.2)
    kept (Own t c) (Done j) past others same sources first second agree = absurd (cc same)
    kept (Own t c) (Tick g) past others same sources first second agree = absurd (cc same)
    kept (Done i) (Own u d) past others same sources first second agree = absurd (cc same)
    kept (Done i) (Done j) past others same sources first second agree =
        subst (λ (x : Event). Agree (Done i ∷ past) (x ∷ others)) same (ap (λ (es : List Event). cond (members i.tenant) (Done i ∷ es) es) agree.0, agree.1, agree.2)
    kept (Done i) (Tick g) past others same sources first second agree = absurd (cc same)
    kept (Tick f) (Own u d) past others same sources first second agree = absurd (cc same)
    kept (Tick f) (Done j) past others same sources first second agree = absurd (cc same)
    kept (Tick f) (Tick g) past others same sources first second agree = tick f g past others sources agree first second

    -- an event of another tenant in one of them
    in_first : (e : Event) (past others : List Event) → is_done members e ≡ false → Agree past others → Agree (e ∷ past) others
    in_first (Own t c) past others is agree = (ap (λ b. cond b (Own t c ∷ seen setting members past) (seen setting members past)) is ∙ agree.0, agree.1, agree.2)
    in_first (Done j) past others is agree = (ap (λ b. cond b (Done j ∷ seen setting members past) (seen setting members past)) is ∙ agree.0, agree.1, agree.2)
    in_first (Tick f) past others is agree = absurd (cc is)

    in_second : (d : Event) (past others : List Event) → is_done members d ≡ false → Agree past others → Agree past (d ∷ others)
    in_second (Own t c) past others is agree = (agree.0 ∙ sym (ap (λ b. cond b (Own t c ∷ seen setting members others) (seen setting members others)) is), agree.1, agree.2)
    in_second (Done j) past others is agree = (agree.0 ∙ sym (ap (λ b. cond b (Done j ∷ seen setting members others) (seen setting members others)) is), agree.1, agree.2)
    in_second (Tick f) past others is agree = absurd (cc is)

    earlier_loop : (e : Event) (past : List Event) → IsLoop setting dynamics (e ∷ past) → IsLoop setting dynamics past
    earlier_loop (Own t c) past loop = loop
    earlier_loop (Done j) past loop = loop
    earlier_loop (Tick frame) past loop = loop.1

    closed_before : (e : Event) (past : List Event) → AreClosed (e ∷ past) → AreClosed past
    closed_before (Own u c) past sources t is = sources t is
    closed_before (Done j) past sources t is = sources t is
    closed_before (Tick frame) past sources t is = earlier setting members itself forward frame past t (sources t is)

    -- what the members do, with or without the first event
    with_first : (e : Event) (past : List Event) → is_done members e ≡ true → done_of members (e ∷ past) ≡ blank e ∷ done_of members past
    with_first e past is = done_is members e past ∙ ap (λ b. cond b (blank e ∷ done_of members past) (done_of members past)) is

    without_first : (e : Event) (past : List Event) → is_done members e ≡ false → done_of members (e ∷ past) ≡ done_of members past
    without_first e past is = done_is members e past ∙ ap (λ b. cond b (blank e ∷ done_of members past) (done_of members past)) is

    same_first : (e d : Event) (es ds : List Event) → e ∷ es ≡ d ∷ ds → e ≡ d
    same_first e d es ds same = cc same

    same_rest : (e d : Event) (es ds : List Event) → e ∷ es ≡ d ∷ ds → es ≡ ds
    same_rest e d es ds same = cc same

    -- a first list without events
    none_left : (others : List Event) → [] ≡ done_of members others → Agree [] others
    none_left [] same = (refl, refl, λ j own. refl)
    none_left (d ∷ others) same = by (is_done members d) refl (none_left others)
      where
        by : (b : Bool) → is_done members d ≡ b → ([] ≡ done_of members others → Agree [] others) → Agree [] (d ∷ others)
        by true is further = let more : [] ≡ blank d ∷ done_of members others = same ∙ with_first d others is in absurd (cc more)
        by false is further = in_second d [] others is (further (same ∙ without_first d others is))

    -- a first list with one more event that the members see
    next : (e : Event) (past : List Event) → AreClosed past → IsLoop setting dynamics (e ∷ past)
        → ((others : List Event) → IsLoop setting dynamics others → done_of members past ≡ done_of members others → Agree past others)
        → (others : List Event) → IsLoop setting dynamics others → blank e ∷ done_of members past ≡ done_of members others → Agree (e ∷ past) others
    next e past sources first before [] second same = absurd (cc same)
    next e past sources first before (d ∷ others) second same = by (is_done members d) refl (next e past sources first before others (earlier_loop d others second))
      where
        by : (b : Bool) → is_done members d ≡ b → (blank e ∷ done_of members past ≡ done_of members others → Agree (e ∷ past) others) → Agree (e ∷ past) (d ∷ others)
        by true is further =
            let both = same ∙ with_first d others is in
            kept e d past others (same_first (blank e) (blank d) (done_of members past) (done_of members others) both) sources first second
            (before others (earlier_loop d others second) (same_rest (blank e) (blank d) (done_of members past) (done_of members others) both))
        by false is further = in_second d (e ∷ past) others is (further (same ∙ without_first d others is))

    agree : (past others : List Event) → AreClosed past → IsLoop setting dynamics past → IsLoop setting dynamics others → done_of members past ≡ done_of members others → Agree past others
    agree [] others sources first second same = none_left others same
    agree (e ∷ past) others sources first second same = by (is_done members e) refl (λ q. agree past q (closed_before e past sources) (earlier_loop e past first))
      where
        by : (b : Bool) → is_done members e ≡ b
            → ((q : List Event) → IsLoop setting dynamics q → done_of members past ≡ done_of members q → Agree past q) → Agree (e ∷ past) others
        by true is before = next e past (closed_before e past sources) first before others second (sym (with_first e past is) ∙ same)
        by false is before = in_first e past others is (before others second (sym (without_first e past is) ∙ same))

  module _ (past others : List Event) (differ : LoopsDifferOutside setting plant dynamics members past others) where
    abbrev sources_of_members : AreClosed past
    sources_of_members t is u h = differ.closed t u is (ap (λ b. b || is_driven_by setting.config plant t u) h)

    pub same_loops : seen setting members past ≡ seen setting members others
    same_loops = (agree past differ.closed differ.keeps past others sources_of_members differ.first differ.second differ.same).0

    pub members_answers : (t : ℕ) → members t ≡ true → answers_of setting past t ≡ answers_of setting others t
    members_answers t is = same_answers setting members itself forward past others t same_loops (sources_of_members t is)
