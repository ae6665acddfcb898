-- What the completion of a host's own job does.
use Rattle.std.proofs.Common.{◌≡◌, ◌<◌, ◌≤◌, ◌↔◌, ⊎_elim, Bool, true, false, not, cond, ◌&&◌, List, ◌∷◌, length, map, get_or, Option, Some, None, refl, sym, ap, ◌∙◌, subst, arith}
use Rattle.std.specs.Prelude.{is_some, slice_get, IfSome}
use Rattle.std.specs.List.{All}
use Rattle.std.specs.Option.{option_and_then}
use Rattle.std.proofs.Math.ListN.{get_or-eq_default}
use Rattle.std.proofs.lemmas.Bool.{cases_lt}
use Rattle.std.proofs.lemmas.Option.{slice_get_past}
use Rattle.rig_model.specs.declared.jobs.JobId.{JobId}
use Rattle.instant_engine.specs.job_table.Finished.{TableEntry, has_result}
use Rattle.instant_engine.specs.job_table.Jobs.{JobValue}
use Rattle.rig_model.specs.Jobs.{is_active}
use Rattle.rig_model.specs.Row.{Row, empty_row}
use Rattle.instant_engine.specs.state.Standing.{Standing, at_rest, awaited_job, no_tenant, released_job}
use Rattle.instant_engine.specs.Tenants.{ArePlaced}
use Rattle.rig_model.specs.declared.events.Event.TheVariants.{Done}
use Rattle.host_core.specs.declared.hosts.Counted.{Counted}
use Rattle.host_core.specs.declared.hosts.Counted.TheVariants as became
use Rattle.rig_model.specs.Host.{after_event}
use Rattle.rig_model.specs.HostState.{HostState, row_at, is_counted, is_awaited}
use Rattle.host_core.specs.HostStanding.{HostStanding, Stands, IsOwn, awaited_in}
use Rattle.host_core.specs.inner.HostStanding.{IsAt}
use Rattle.rig_model.specs.Base.{Setting}
use Rattle.host_core.proofs.AtRest.{stands_inside, awaited_at_rest, awaited_here}
use Rattle.host_core.proofs.HostSteps.{awaits_here}

-- what isn't counted is late
late_if : (result : Counted) → (result ≡ became.Counted → ⊥) → result ≡ became.Late
late_if became.Counted other = absurd (other refl)
late_if became.Late other = refl

-- an awaited job has no result yet, and its task is active with its release
pub awaited_parts : (s : Standing) (entries : List TableEntry) (j : JobId) (d : JobValue) → awaited_job s entries j ≡ Some d → (has_result entries j ≡ false) × (released_job s j ≡ Some d)
awaited_parts s entries j d e = by (has_result entries j) refl e
  where
    by : (b : Bool) → has_result entries j ≡ b → cond b None (released_job s j) ≡ Some d → (has_result entries j ≡ false) × (released_job s j ≡ Some d)
    by true has f = absurd (cc)
    by false has f = (has, f)

pub awaited_without : (s : Standing) (entries : List TableEntry) (j : JobId) → has_result entries j ≡ false → awaited_job s entries j ≡ released_job s j
awaited_without s entries j e = ap (λ b. cond b None (released_job s j)) e

-- the job that the host awaits under a name is the one that the job's tenant awaits
pub awaited_own : (host view : HostStanding) → record host { tenants = map at_rest host.tenants } ≡ view → (d : JobValue) (x : Standing) → d.id.tenant < length host.tenants
    → x ≡ get_or host.tenants d.id.tenant x → awaited_in view d.id ≡ awaited_job x host.entries d.id
awaited_own host view is d x lt here = ap (λ (h : HostStanding). awaited_in h d.id) (sym is) ∙ awaited_here host.entries host.tenants d.id x lt here

module _ (setting : Setting) (host view : HostStanding) (state : HostState) (known : All (IsAt host.clock) host.tenants) (placed : ArePlaced host.tenants) (is : record host { tenants = map at_rest host.tenants } ≡ view) (stands : Stands setting view state) where
  inside : Stands setting host state
  inside = stands_inside setting host state (subst (λ h. Stands setting h state) (sym is) stands)

  -- no job of a place beyond the roster is awaited
  past_all : (j : JobId) → length setting.config.tenants ≤ j.tenant → is_awaited state j ≡ false
  past_all j le =
      let row : row_at state j.tenant ≡ empty_row state.clock = get_or-eq_default state.rows (empty_row state.clock) (omega (arith, inside.all_rows, le)) in
      ap (λ (r : Row). is_active r j && not (is_counted state j)) row

  -- the host awaits a job exactly if the definitions do, whatever tenant the job names
  awaits_own : (j : JobId) → is_awaited state j ≡ is_some (awaited_in view j)
  awaits_own j = ⊎_elim here past (cases_lt j.tenant (length setting.config.tenants)) ∙ ap is_some (sym (awaited_at_rest host j) ∙ ap (λ (h : HostStanding). awaited_in h j) is)
    where
      here : j.tenant < length setting.config.tenants → is_awaited state j ≡ is_some (awaited_in host j)
      here lt = awaits_here setting host state j lt inside placed (known j.tenant no_tenant (omega (arith, inside.as_many, lt))).1.known

      past : length setting.config.tenants ≤ j.tenant → is_awaited state j ≡ is_some (awaited_in host j)
      past le =
          let none : slice_get host.tenants j.tenant ≡ None = slice_get_past host.tenants j.tenant (omega (arith, inside.as_many, le)) in
          past_all j le ∙ sym (ap (λ o. is_some (option_and_then (λ s. awaited_job s host.entries j) o)) none)

  -- the answer, and the host after the completion
  pub record ComesTo (done : JobValue) (result : Counted) (after : HostStanding) : Type 0 where
    pub answer : result ≡ cond (is_awaited state done.id) became.Counted became.Late
    pub step : Stands setting after (after_event setting state (Done done.id))

  pub comes_to : (done : JobValue) (result : Counted) (after : HostStanding) → (result ≡ became.Counted) ↔ (awaited_in view done.id ≡ Some done) → (result ≡ became.Late → after ≡ view)
      → (result ≡ became.Counted → Stands setting after (record state { counted = done.id ∷ state.counted })) → IsOwn view done → ComesTo done result after
  comes_to done result after counted late counting own = by (awaited_in view done.id) refl own
    where
      by : (o : Option JobValue) → awaited_in view done.id ≡ o → IfSome o (λ job. job ≡ done) → ComesTo done result after
      by None none same =
          let awaited : is_awaited state done.id ≡ false = awaits_own done.id ∙ ap is_some none in
          let is_late : result ≡ became.Late = late_if result (λ e. let bad : Some done ≡ None = sym (counted.0 e) ∙ none in absurd (cc)) in
          record {
            answer = is_late ∙ sym (ap (λ b. cond b became.Counted became.Late) awaited);
            step = subst (λ b. Stands setting after (cond b (record state { counted = done.id ∷ state.counted }) state)) (sym awaited) (subst (λ h. Stands setting h state) (sym (late is_late)) stands);
          }
      by (Some job) some same =
          let awaited : is_awaited state done.id ≡ true = awaits_own done.id ∙ ap is_some some in
          let is_counted : result ≡ became.Counted = counted.1 (some ∙ ap Some same) in
          record {
            answer = is_counted ∙ sym (ap (λ b. cond b became.Counted became.Late) awaited);
            step = subst (λ b. Stands setting after (cond b (record state { counted = done.id ∷ state.counted }) state)) (sym awaited) (counting is_counted);
          }

  -- a completion for a place beyond the roster
  pub past_roster : (done : JobValue) → length host.tenants ≤ done.id.tenant → ComesTo done became.Late view
  past_roster done le =
      let awaited : is_awaited state done.id ≡ false = past_all done.id (omega (arith, inside.as_many, le)) in
      record {
        answer = sym (ap (λ b. cond b became.Counted became.Late) awaited);
        step = subst (λ b. Stands setting view (cond b (record state { counted = done.id ∷ state.counted }) state)) (sym awaited) stands;
      }
