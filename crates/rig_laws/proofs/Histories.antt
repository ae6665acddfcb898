-- What holds along every list of events: counts of instants, releases, and completions.
use Rattle.std.proofs.Common.{◌≡◌, ℕ, ◌+◌, ◌<◌, ⊎_elim, Bool, true, false, cond, eqb, ℤ, List, [], ◌∷◌, length, refl, sym, ap, subst, arith}
use Rattle.std.specs.List.{list_any, AllByRecursion}
use Rattle.std.proofs.lemmas.Bool.{cases_lt, and_parts}
use Rattle.std.proofs.Math.ListN.{get_or-eq_default}
use Rattle.giotto_tasks.specs.declared.names.Name.{Name}
use Rattle.rig_model.specs.declared.events.Event.{Event}
use Rattle.rig_model.specs.declared.events.Event.TheVariants.{Own, Tick, Done}
use Rattle.rig_model.specs.declared.jobs.JobId.{JobId}
use Rattle.rig_model.specs.declared.lines.commands.Command.{Command}
use Rattle.rig_model.specs.Jobs.{same_job, job_of, is_active}
use Rattle.rig_model.specs.Row.{ActiveTask, Row, empty_row}
use Rattle.rig_model.specs.FirstHalf.{unfinished_tasks}
use Rattle.rig_model.specs.Base.{IsBase, Setting}
use Rattle.rig_model.specs.Completions.{has_completion}
use Rattle.rig_model.specs.HostState.{row_at}
use Rattle.rig_model.specs.Legal.{next_tick, was_released, is_legal}
use Rattle.rig_model.specs.Tenancies.{tenancy_at}
use Rattle.rig_model.specs.Views.{command, after_command, instant_for, run_of, view_of, row_of}
use Rattle.rig_model.specs.Instants.{LocalInstant}
use Rattle.rig_laws.proofs.cited.ActiveTasks.{Keeps, kept_by_command}
use Rattle.rig_laws.proofs.cited.ActiveTasks.{kept_by_instant}
use Rattle.rig_model.proofs.cited.JobNames.{same_job_is}
use Rattle.giotto_tasks.proofs.cited.TestLemmas.{either}
use Rattle.giotto_tasks.proofs.cited.ListLemmas.{all_map}

module _ (setting : Setting) where
  -- the due tasks of the tenant at place t whose jobs have no completion
  abbrev pub unfinished_of : List Event → ℕ → Row → List Name
  unfinished_of past t row = unfinished_tasks (λ a. has_completion setting past (job_of t a)) row

  -- what the tick after these events is for a tenant
  abbrev pub own_instant : List Event → List ℤ → ℕ → LocalInstant
  own_instant past frame t = instant_for setting (row_of setting past) (has_completion setting past) frame t

  -- what holds of a tenant's row after its own command, and of its row before another tenant's, holds after a command
  pub own_row : (C : Row → Type 0) (past : List Event) (c : Command) (t : ℕ) (b : Bool)
      → C (after_command setting t c (row_of setting past t)).row → C (row_of setting past t)
      → C (run_of setting t (cond b (command c ∷ view_of setting past t) (view_of setting past t)))
  own_row C past c t true own other = own
  own_row C past c t false own other = other

  abbrev pub IsEarly : List Event → ActiveTask → Type 0
  IsEarly past a = a.release < next_tick setting past

  -- if the history begins with a base
  module _ (base : IsBase setting.config setting.base) where
    base_keeps : (t : ℕ) → Keeps (IsEarly []) setting.base.clock (row_at setting.base t)
    base_keeps t = ⊎_elim
        (λ lt. record { each = base.early t lt; at = base.counts t lt })
        (λ le. subst (Keeps (IsEarly []) setting.base.clock) (sym (get_or-eq_default setting.base.rows (empty_row setting.base.clock) (omega (arith, base.as_many)))) (record { each = tt; at = refl }))
        (cases_lt t (length setting.config.tenants))

    -- each active task was released before the next tick, whose number the row has
    pub releases : (past : List Event) (t : ℕ) → Keeps (IsEarly past) (next_tick setting past) (row_of setting past t)
    releases [] t = base_keeps t
    releases (Own u c ∷ past) t =
        let k = releases past t in
        own_row (Keeps (IsEarly past) (next_tick setting past)) past c t (eqb u t)
        (kept_by_command (IsEarly past) (next_tick setting past) (tenancy_at setting.config t) c (row_of setting past t) k) k
    releases (Done j ∷ past) t = releases past t
    releases (Tick frame ∷ past) t =
        let k = releases past t in
        let n = next_tick setting past in
        let later : Keeps (λ a. a.release < n + 1) n (row_of setting past t) = record { each = all_map (IsEarly past) (λ a. a.release < n + 1) _ (λ a lt. omega arith) k.each; at = k.at } in
        let done = kept_by_instant (λ a. a.release < n + 1) n (λ a e. omega arith) (own_instant past frame t) (row_of setting past t) later in
        record { each = done.0; at = done.1 }

    -- an active job was released before the next tick
    active_is_early : (past : List Event) (t tick : ℕ) (x : List ℕ) (xs : List ActiveTask) → AllByRecursion (IsEarly past) xs
        → list_any (λ (a : ActiveTask). same_job (job_of t a) (record { tenant = t; tick = tick; task = x })) xs ≡ true → tick < next_tick setting past
    active_is_early past t tick x [] all e = absurd (cc)
    active_is_early past t tick x (a ∷ rest) all e =
        either _ _ _ e
        (λ here. let same = ap (λ (j : JobId). j.tick) (same_job_is (job_of t a) (record { tenant = t; tick = tick; task = x }) here) in subst (λ r. r < next_tick setting past) same all.0)
        (active_is_early past t tick x rest all.1)

    next_grows : (e : Event) (past : List Event) (n : ℕ) → n < next_tick setting past → n < next_tick setting (e ∷ past)
    next_grows (Own u c) past n lt = lt
    next_grows (Done j) past n lt = lt
    next_grows (Tick frame) past n lt = omega arith

    pub released_is_early : (past : List Event) (j : JobId) → was_released setting past j ≡ true → j.tick < next_tick setting past
    released_is_early [] j e = active_is_early [] j.tenant j.tick j.task _ (releases [] j.tenant).each e
    released_is_early (e ∷ past) j is =
        either (is_active (row_of setting (e ∷ past) j.tenant) j) (was_released setting past j) _ is
        (λ here. active_is_early (e ∷ past) j.tenant j.tick j.task _ (releases (e ∷ past) j.tenant).each here)
        (λ before. next_grows e past j.tick (released_is_early past j before))

    -- in a legal list each completed job was released before the next tick
    pub completed_is_early : (past : List Event) (j : JobId) → is_legal setting past ≡ true → has_completion setting past j ≡ true → j.tick < next_tick setting past
    completed_is_early [] j legal e = released_is_early [] j (base.active j e)
    completed_is_early (Own u c ∷ past) j legal e = completed_is_early past j (and_parts _ _ legal).1 e
    completed_is_early (Tick frame ∷ past) j legal e = next_grows (Tick frame) past j.tick (completed_is_early past j (and_parts _ _ legal).1 e)
    completed_is_early (Done i ∷ past) j legal e =
        let parts = and_parts _ _ legal in
        either (same_job i j) (has_completion setting past j) _ e
        (λ here. let same = ap (λ (k : JobId). k.tick) (same_job_is i j here) in subst (λ r. r < next_tick setting past) same (released_is_early past i parts.0))
        (λ before. completed_is_early past j parts.1 before)
