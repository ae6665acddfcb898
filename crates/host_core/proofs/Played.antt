-- One more event is played: the texts, and the names of the released jobs.
use Rattle.std.proofs.Common.{◌≡◌, ℕ, zero, suc, ◌+◌, ◌<◌, ◌≤◌, ◌≢◌, ◌⊎◌, inl, inr, ⊎_elim, Bool, true, false, cond, ◌&&◌, ◌||◌, eqb, ℤ, List, [], ◌∷◌, ◌++◌, length, take, reverse, map, filter, get_or, set, Option, Some, None, Result, Err, refl, sym, ap, ◌∙◌, subst, length-set, zero-add, arith}
use Rattle.std.specs.Prelude.{nat_lt, ◌-◌, ◌^◌}
use Rattle.std.specs.List.{list_any, All}
use Rattle.std.specs.Option.{option_map_or}
use Rattle.std.specs.Result.{IsErr, IsErrAnd}
use Rattle.std.proofs.lemmas.Result.{err_from_is_err_and}
use Rattle.std.proofs.lemmas.Bool.{cases_eq, cases_lt, and_from, eq-eqb}
use Rattle.std.proofs.lemmas.Bool.Decides.{nat_tests}
use Rattle.std.proofs.lemmas.List.{get_or-set_same, get_or-set_other}
use Rattle.std.proofs.lemmas.List.Folds.{list_any-append}
use Rattle.rig_model.specs.text.Program.{GiottoProgram}
use Rattle.rig_model.specs.declared.events.Event.{Event}
use Rattle.rig_model.specs.declared.events.Event.TheVariants.{Own, Tick, Done}
use Rattle.rig_model.specs.declared.lines.commands.Command.{Command}
use Rattle.rig_model.specs.declared.jobs.JobId.{JobId}
use Rattle.rig_model.specs.declared.lines.replies.Reply.{Reply}
use Rattle.rig_model.specs.Answers.{answers_along, answers_of}
use Rattle.rig_model.specs.Base.{IsBase, new_base, Setting}
use Rattle.rig_model.specs.Host.{host_after}
use Rattle.rig_model.specs.HostState.{HostState, row_at}
use Rattle.host_core.specs.HostStanding.{HostStanding, Stands}
use Rattle.instant_engine.specs.Tenants.{tenant_at, released_from}
use Rattle.rig_model.specs.Legal.{next_tick, was_released, may_follow, is_legal}
use Rattle.host_core.specs.inner.Playing.{IsPlayed}
use Rattle.rig_model.specs.Plays.{IsLeastIllegal, IsSettingOf}
use Rattle.host_core.specs.declared.plays.PlayFault.{PlayFault}
use Rattle.rig_model.specs.Views.{after_command, run_of, view_of, row_of}
use Rattle.rig_model.specs.config.Roster.{Rig}
use Rattle.instant_engine.specs.job_table.Jobs.{JobValue}
use Rattle.rig_model.specs.Jobs.{same_job, job_of, is_active}
use Rattle.instant_engine.specs.state.Jobs.{job_in, released_at}
use Rattle.rig_model.specs.lines.Replies.{text_of_reply}
use Rattle.rig_model.specs.Row.{ActiveTask, Row}
use Rattle.instant_engine.specs.state.Standing.{Standing, no_tenant, IsKnown}
use Rattle.instant_engine.proofs.of_laws.AloneAlong.{same_rows}
use Rattle.instant_engine.proofs.of_laws.AloneAlong.{same_clock}
use Rattle.instant_engine.proofs.of_laws.LaterBase.{new_is_base, new_row}
use Rattle.rig_model.proofs.cited.JobNames.{same_job_is}
use Rattle.giotto_tasks.proofs.cited.TestLemmas.{either, or_true, same_answers}
use Rattle.giotto_tasks.proofs.cited.ListLemmas.{reverse_more}
use Rattle.instant_engine.proofs.of_laws.Releases.{within, is_within, row_outside, released_own, released_done, active_behind}

-- the jobs of one name among those that an instant released
module _ (j : JobId) where
  abbrev is_it : JobValue → Bool
  is_it k = same_job k.id j

  -- the jobs of one tenant
  sound_along : (t n : ℕ) (p : GiottoProgram) (xs : List ActiveTask) → list_any is_it (map (job_in p t) (filter (λ (a : ActiveTask). eqb a.release n) xs)) ≡ true
      → (t ≡ j.tenant) × (list_any (λ (a : ActiveTask). same_job (job_of j.tenant a) j) xs ≡ true)
  sound_along t n p [] e = absurd (cc)
  sound_along t n p (x ∷ xs) e = by (eqb x.release n) e (sound_along t n p xs)
    where
      jobs : List JobValue
      jobs = map (job_in p t) (filter (λ (a : ActiveTask). eqb a.release n) xs)

      IsThere : Type 0
      IsThere = (t ≡ j.tenant) × (list_any (λ (a : ActiveTask). same_job (job_of j.tenant a) j) (x ∷ xs) ≡ true)

      behind : (t ≡ j.tenant) × (list_any (λ (a : ActiveTask). same_job (job_of j.tenant a) j) xs ≡ true) → IsThere
      behind rest = (rest.0, ap (λ b. same_job (job_of j.tenant x) j || b) rest.1 ∙ or_true (same_job (job_of j.tenant x) j))

      here : same_job (job_of t x) j ≡ true → IsThere
      here h =
          let same : t ≡ j.tenant = ap (λ (k : JobId). k.tenant) (same_job_is (job_of t x) j h) in
          (same, ap (λ b. b || list_any (λ (a : ActiveTask). same_job (job_of j.tenant a) j) xs) (ap (λ k. same_job (job_of k x) j) (sym same) ∙ h))

      by : (b : Bool) → list_any is_it (map (job_in p t) (cond b (x ∷ filter (λ (a : ActiveTask). eqb a.release n) xs) (filter (λ (a : ActiveTask). eqb a.release n) xs))) ≡ true
          → (list_any is_it jobs ≡ true → (t ≡ j.tenant) × (list_any (λ (a : ActiveTask). same_job (job_of j.tenant a) j) xs ≡ true)) → IsThere
      by true f rest = either (same_job (job_of t x) j) (list_any is_it jobs) IsThere f here (λ h. behind (rest h))
      by false f rest = behind (rest f)

  sound_at : (t n : ℕ) (row : Row) → list_any is_it (released_at t n row) ≡ true → (t ≡ j.tenant) × (is_active row j ≡ true)
  sound_at t n row e = by row.program e
    where
      by : (o : Option GiottoProgram) → list_any is_it (option_map_or (λ p. map (job_in p t) (filter (λ (a : ActiveTask). eqb a.release n) row.active)) o []) ≡ true
          → (t ≡ j.tenant) × (is_active row j ≡ true)
      by None f = absurd (cc)
      by (Some p) f = sound_along t n p row.active f

  complete_along : (n : ℕ) (p : GiottoProgram) (xs : List ActiveTask) → j.tick ≡ n → list_any (λ (a : ActiveTask). same_job (job_of j.tenant a) j) xs ≡ true
      → list_any is_it (map (job_in p j.tenant) (filter (λ (a : ActiveTask). eqb a.release n) xs)) ≡ true
  complete_along n p [] tick e = absurd (cc)
  complete_along n p (x ∷ xs) tick e =
      either (same_job (job_of j.tenant x) j) (list_any (λ (a : ActiveTask). same_job (job_of j.tenant a) j) xs) _ e
      (λ h. at_it h (eqb x.release n) refl) (λ h. behind (eqb x.release n) (complete_along n p xs tick h))
    where
      jobs : List ActiveTask → List JobValue
      jobs = map (job_in p j.tenant)

      left : List ActiveTask
      left = filter (λ (a : ActiveTask). eqb a.release n) xs

      at_it : same_job (job_of j.tenant x) j ≡ true → (b : Bool) → eqb x.release n ≡ b → list_any is_it (jobs (cond b (x ∷ left) left)) ≡ true
      at_it h true is = ap (λ b. b || list_any is_it (jobs left)) h
      at_it h false is =
          let release : x.release ≡ n = ap (λ (k : JobId). k.tick) (same_job_is (job_of j.tenant x) j h) ∙ tick in
          let bad : true ≡ false = sym (eq-eqb n n refl) ∙ (ap (λ k. eqb k n) (sym release) ∙ is) in
          absurd (cc)

      behind : (b : Bool) → list_any is_it (jobs left) ≡ true → list_any is_it (jobs (cond b (x ∷ left) left)) ≡ true
      behind true h = ap (λ b. same_job (job_of j.tenant x) j || b) h ∙ or_true (same_job (job_of j.tenant x) j)
      behind false h = h

  complete_at : (n : ℕ) (row : Row) → (row.program ≡ None → row.active ≡ []) → j.tick ≡ n → is_active row j ≡ true → list_any is_it (released_at j.tenant n row) ≡ true
  complete_at n row has tick e = by row.program refl
    where
      by : (o : Option GiottoProgram) → row.program ≡ o
          → list_any is_it (option_map_or (λ p. map (job_in p j.tenant) (filter (λ (a : ActiveTask). eqb a.release n) row.active)) o []) ≡ true
      by None none =
          let bad : true ≡ false = sym e ∙ ap (list_any (λ (a : ActiveTask). same_job (job_of j.tenant a) j)) (has none) in
          absurd (cc)
      by (Some p) is = complete_along n p row.active tick e

  -- the jobs of all tenants, from a place on
  found_from : (C : Type 0) (n from : ℕ) (xs : List Standing) → ((k : ℕ) → k < length xs → list_any is_it (released_at (from + k) n (get_or xs k no_tenant).row) ≡ true → C)
      → list_any is_it (released_from n from xs) ≡ true → C
  found_from C n from [] each e = absurd (cc)
  found_from C n from (x ∷ xs) each e =
      either (list_any is_it (released_at from n x.row)) (list_any is_it (released_from n (from + 1) xs)) C
      (sym (list_any-append is_it (released_at from n x.row) (released_from n (from + 1) xs)) ∙ e)
      (λ h. each 0 (omega arith) (ap (λ k. list_any is_it (released_at k n x.row)) (let zero_more : from + 0 ≡ from = omega arith in zero_more) ∙ h))
      (found_from C n (from + 1) xs (λ k lt h. each (suc k) (omega arith)
      (ap (λ i. list_any is_it (released_at i n (get_or xs k no_tenant).row)) (let one_more : from + suc k ≡ from + 1 + k = omega arith in one_more) ∙ h)))

  found_at : (n from : ℕ) (xs : List Standing) (k : ℕ) → k < length xs → list_any is_it (released_at (from + k) n (get_or xs k no_tenant).row) ≡ true
      → list_any is_it (released_from n from xs) ≡ true
  found_at n from [] k lt e = absurd (omega arith)
  found_at n from (x ∷ xs) zero lt e =
      list_any-append is_it (released_at from n x.row) (released_from n (from + 1) xs)
      ∙ ap (λ b. b || list_any is_it (released_from n (from + 1) xs)) (ap (λ k. list_any is_it (released_at k n x.row)) (let zero_more : from ≡ from + 0 = omega arith in zero_more) ∙ e)
  found_at n from (x ∷ xs) (suc k) lt e =
      list_any-append is_it (released_at from n x.row) (released_from n (from + 1) xs)
      ∙ (ap (λ b. list_any is_it (released_at from n x.row) || b)
      (found_at n (from + 1) xs k (omega arith) (ap (λ i. list_any is_it (released_at i n (get_or xs k no_tenant).row)) (let one_more : from + 1 + k ≡ from + suc k = omega arith in one_more) ∙ e))
      ∙ or_true (list_any is_it (released_at from n x.row)))

module _ (setting : Setting) (base : IsBase setting.config setting.base) where
  same_active : (past : List Event) (host : HostStanding) (t : ℕ) (j : JobId) → is_legal setting past ≡ true → Stands setting host (host_after setting past) → t < length setting.config.tenants
      → is_active (tenant_at host.tenants t).row j ≡ is_active (row_of setting past t) j
  same_active past host t j legal stands lt =
      ap (λ (row : Row). is_active row j) (stands.each t lt) ∙ ap (λ row. is_active row j) (same_rows setting base past t legal (is_within setting base t lt))

  released_tick : (past : List Event) (frame : List ℤ) (host : HostStanding) (j : JobId) → is_legal setting (Tick frame ∷ past) ≡ true → Stands setting host (host_after setting (Tick frame ∷ past))
      → All (λ (s : Standing). IsKnown s.tenancy s.row) host.tenants
      → (was_released setting past j || list_any (is_it j) (released_from (next_tick setting past) 0 host.tenants)) ≡ was_released setting (Tick frame ∷ past) j
  released_tick past frame host j legal stands has =
      same_answers (before || among) (active || before)
      (λ e. either before among ((active || before) ≡ true) e (λ h. ap (λ b. active || b) h ∙ or_true active) (λ h. ap (λ b. b || before) (active_if_among h)))
      (λ e. either active before ((before || among) ≡ true) e among_if_active (λ h. ap (λ b. b || among) h))
    where
      before : Bool
      before = was_released setting past j

      among : Bool
      among = list_any (is_it j) (released_from (next_tick setting past) 0 host.tenants)

      active : Bool
      active = is_active (row_of setting (Tick frame ∷ past) j.tenant) j

      active_if_among : among ≡ true → active ≡ true
      active_if_among = found_from j (active ≡ true) (next_tick setting past) 0 host.tenants (λ k lt h.
          let found = sound_at j (0 + k) (next_tick setting past) (get_or host.tenants k no_tenant).row h in
          let place : k ≡ j.tenant = omega (arith, found.0) in
          sym (same_active (Tick frame ∷ past) host j.tenant j legal stands (omega (arith, stands.as_many)))
          ∙ (ap (λ i. is_active (tenant_at host.tenants i).row j) (sym place) ∙ found.1))

      new : j.tick ≡ next_tick setting past → active ≡ true → (j.tenant < length setting.config.tenants) ⊎ (length setting.config.tenants ≤ j.tenant) → among ≡ true
      new tick e (inl lt) =
          let inside : j.tenant < length host.tenants = omega (arith, stands.as_many) in
          found_at j (next_tick setting past) 0 host.tenants j.tenant inside
          (ap (λ k. list_any (is_it j) (released_at k (next_tick setting past) (tenant_at host.tenants j.tenant).row)) (zero-add j.tenant)
          ∙ complete_at j (next_tick setting past) (tenant_at host.tenants j.tenant).row (has j.tenant no_tenant inside).tasks tick
          (same_active (Tick frame ∷ past) host j.tenant j legal stands lt ∙ e))
      new tick e (inr le) =
          let bad : true ≡ false = sym e ∙ ap (λ row. is_active row j) (row_outside setting base (Tick frame ∷ past) j.tenant legal le) in
          absurd (cc)

      among_if_active : active ≡ true → (before || among) ≡ true
      among_if_active e = ⊎_elim
          (λ tick. ap (λ b. before || b) (new tick e (cases_lt j.tenant (length setting.config.tenants))) ∙ or_true before)
          (λ h. ap (λ b. b || among) h)
          (active_behind setting base past frame j e)

  -- one more event
  pub step_done : (past : List Event) (i : JobId) (host host_new : HostStanding) (texts : List (List ℕ)) (released : List JobId) → may_follow setting past (Done i) ≡ true
      → Stands setting host_new (host_after setting (Done i ∷ past)) → IsPlayed setting past host texts released → IsPlayed setting (Done i ∷ past) host_new texts released
  step_done past i host host_new texts released may stands played = record {
    base = base;
    legal = and_from (may_follow setting past (Done i)) (is_legal setting past) may played.legal;
    stands = stands;
    as_many = played.as_many;
    each = played.each;
    names = λ j. played.names j ∙ sym (released_done setting base past i j);
  }

  pub step_tick : (past : List Event) (frame : List ℤ) (host host_new : HostStanding) (texts : List (List ℕ)) (released released_new : List JobId) (jobs : List JobValue)
      → may_follow setting past (Tick frame) ≡ true → Stands setting host_new (host_after setting (Tick frame ∷ past)) → All (λ (s : Standing). IsKnown s.tenancy s.row) host_new.tenants
      → jobs ≡ released_from host.clock 0 host_new.tenants → ((j : JobId) → list_any (λ r. same_job r j) released_new ≡ (list_any (λ r. same_job r j) released || list_any (is_it j) jobs))
      → IsPlayed setting past host texts released → IsPlayed setting (Tick frame ∷ past) host_new texts released_new
  step_tick past frame host host_new texts released released_new jobs may stands has are more played =
      let legal : is_legal setting (Tick frame ∷ past) ≡ true = and_from (may_follow setting past (Tick frame)) (is_legal setting past) may played.legal in
      let clock : host.clock ≡ next_tick setting past = played.stands.same_clock ∙ same_clock setting past in
      record {
        base = base;
        legal = legal;
        stands = stands;
        as_many = played.as_many;
        each = played.each;
        names = λ j.
            more j
            ∙ (ap (λ b. b || list_any (is_it j) jobs) (played.names j)
            ∙ (ap (λ b. was_released setting past j || b) (ap (list_any (is_it j)) (are ∙ ap (λ n. released_from n 0 host_new.tenants) clock))
            ∙ released_tick past frame host_new j legal stands has));
      }

  pub step_own : (past : List Event) (u : ℕ) (c : Command) (host host_new : HostStanding) (texts : List (List ℕ)) (released : List JobId) (reply : Reply) (text : List ℕ)
      → may_follow setting past (Own u c) ≡ true → Stands setting host_new (host_after setting (Own u c ∷ past))
      → reply ≡ (after_command setting u c (row_at (host_after setting past) u)).reply
      → text ≡ get_or texts u [] ++ (text_of_reply reply ++ 10 ∷ [])
      → IsPlayed setting past host texts released → IsPlayed setting (Own u c ∷ past) host_new (set texts u text) released
  step_own past u c host host_new texts released reply text may stands replied printed played = record {
    base = base;
    legal = and_from (may_follow setting past (Own u c)) (is_legal setting past) may played.legal;
    stands = stands;
    as_many = length-set texts u text ∙ played.as_many;
    each = λ t lt. ⊎_elim
        (λ (same : u ≡ t).
        let is : eqb u t ≡ true = grind (arith, nat_tests) in
        ap (λ k. get_or (set texts u text) k []) (sym same)
        ∙ (get_or-set_same texts u text [] (omega (arith, played.as_many))
        ∙ (own_text ∙ (ap (λ k. answers_along setting k (Rattle.rig_model.specs.Views.command c ∷ view_of setting past k)) same
        ∙ sym (ap (λ b. answers_along setting t (cond b (Rattle.rig_model.specs.Views.command c ∷ view_of setting past t) (view_of setting past t))) is)))))
        (λ (differ : u ≢ t).
        let is : eqb u t ≡ false = grind (arith, nat_tests) in
        get_or-set_other texts u t text [] (λ e. differ (sym e))
        ∙ (played.each t lt
        ∙ sym (ap (λ b. answers_along setting t (cond b (Rattle.rig_model.specs.Views.command c ∷ view_of setting past t) (view_of setting past t))) is)))
        (cases_eq u t);
    names = λ j. played.names j ∙ sym (released_own setting base past u c j);
  }
    where
      own_text : text ≡ answers_along setting u (Rattle.rig_model.specs.Views.command c ∷ view_of setting past u)
      own_text =
          printed
          ∙ (ap (λ before. before ++ (text_of_reply reply ++ 10 ∷ [])) (played.each u (within setting base u may))
          ∙ ap (λ r. answers_of setting past u ++ (text_of_reply r ++ 10 ∷ []))
          (replied ∙ ap (λ row. (after_command setting u c row).reply) (same_rows setting base past u played.legal may)))

  -- an instant may come, by the clock
  pub tick_legal : (past : List Event) (frame : List ℤ) (host : HostStanding) (texts : List (List ℕ)) (released : List JobId) (clock lines : ℕ) → clock ≡ host.clock
      → lines ≡ length frame → lines ≡ host.config.lines → IsPlayed setting past host texts released → nat_lt clock (2 ^ 64 - 1) ≡ may_follow setting past (Tick frame)
  tick_legal past frame host texts released clock lines now as_many same played =
      let next : clock ≡ next_tick setting past = now ∙ (played.stands.same_clock ∙ same_clock setting past) in
      let lines_are : length frame ≡ setting.config.lines = sym as_many ∙ (same ∙ ap (λ (k : Rig). k.lines) played.stands.same_config) in
      let is : eqb (length frame) setting.config.lines ≡ true = ap (λ n. eqb (length frame) n) (sym lines_are) ∙ eq-eqb (length frame) (length frame) refl in
      ap (λ n. nat_lt n (2 ^ 64 - 1)) next ∙ sym (ap (λ b. b && nat_lt (next_tick setting past) (2 ^ 64 - 1)) is)

-- no event yet
pub nothing_played : (setting : Setting) (config : Rig) (host : HostStanding) (texts : List (List ℕ)) → IsSettingOf config setting → Stands setting host (new_base config 0) → length texts ≡ length config.tenants
    → All (λ text. text ≡ []) texts → IsPlayed setting [] host texts []
nothing_played setting config host texts is new as_many blank = record {
  base = subst (IsBase setting.config) (sym is.new) (subst (λ (k : Rig). IsBase k (new_base config 0)) (sym is.same_config) (new_is_base config 0));
  legal = refl;
  stands = subst (Stands setting host) (sym is.new) new;
  as_many = as_many ∙ ap (λ (k : Rig). length k.tenants) (sym is.same_config);
  each = λ t lt. blank t [] (omega (arith, as_many, ap (λ (k : Rig). length k.tenants) is.same_config));
  names = λ j. sym (ap (λ (host : HostState). is_active (row_at host j.tenant) j) is.new ∙ ap (λ row. is_active row j) (new_row config 0 j.tenant));
}

-- the first event that can't come
pub least_illegal : (setting : Setting) (events : List Event) (i k : ℕ) (e : Event) → i < length events → e ≡ get_or events i e → is_legal setting (reverse (take i events)) ≡ true
    → may_follow setting (reverse (take i events)) e ≡ false → k ≡ i → IsLeastIllegal setting events k
least_illegal setting events i k e lt is legal may same = subst (IsLeastIllegal setting events) (sym same) (record {
  within = lt;
  legal_before = legal;
  illegal_with =
      ap (is_legal setting) (reverse_more events i e lt ∙ ap (λ x. x ∷ reverse (take i events)) (sym is))
      ∙ ap (λ b. b && is_legal setting (reverse (take i events))) may;
})

-- a fault that is passed on by `?`
pub passed_on : {T : Type 0} (f g : PlayFault) (r : Result T PlayFault) → IsErr r × IsErrAnd r (λ h. h ≡ f) → r ≡ Err g → f ≡ g
passed_on f g r passed e =
    let p = err_from_is_err_and r passed.1 in
    let both : Err p.0 ≡ Err g = sym p.1 ∙ e in
    let same : p.0 ≡ g = cc in
    sym p.2 ∙ same
