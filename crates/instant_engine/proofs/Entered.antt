-- What the second halves made active is entered, tenant by tenant.
use Rattle.std.proofs.Common.{◌≡◌, ℕ, ◌+◌, ◌<◌, ◌≤◌, ◌≢◌, ⊎_elim, false, cond, length, set, drop, List, [], ◌++◌, Some, None, refl, sym, ap, ◌∙◌, arith}
use Rattle.std.specs.List.{AllByRecursion}
use Rattle.std.specs.Prelude.{is_some}
use Rattle.std.proofs.Math.ListN as lists
use Rattle.std.proofs.lemmas.Bool.{cases_eq, cases_lt}
use Rattle.std.proofs.lemmas.List.{get_or-set_same, get_or-set_other, drop_all, take-append-drop}
use Rattle.rig_model.specs.declared.jobs.JobId.{JobId}
use Rattle.tenant_state.specs.job_table.Finished.{TableEntry, entry_in}
use Rattle.tenant_state.specs.job_table.cited.Finished.{is_entered}
use Rattle.rig_model.specs.Jobs.{job_of, has_job}
use Rattle.rig_model.specs.Row.{ActiveTask, Row}
use Rattle.tenant_state.specs.Standing.{Standing, no_tenant}
use Rattle.tenant_state.specs.cited.Standing.{AreReleased}
use Rattle.instant_engine.specs.Tenants.{tenant_at}
use Rattle.instant_engine.specs.cited.Halves.{is_released_among}
use Rattle.giotto_tasks.proofs.cited.ListLemmas.{all_map}
use Rattle.instant_engine.proofs.Named.{other_tenant}

-- what an instant made active comes after what was active before
pub older_and_newer : (before after : Row) → AreReleased before after → after.active ≡ before.active ++ drop (length before.active) after.active
older_and_newer before after released = sym (take-append-drop (length before.active) after.active) ∙ ap (λ xs. xs ++ drop (length before.active) after.active) released.older

-- what the first `i` tenants released is entered
pub record AreEnteredTo (i : ℕ) (before now : List Standing) (old entries : List TableEntry) : Type 0 where
  pub entered : (j : JobId) → j.tenant < i → entry_in entries j ≡ cond (is_released_among before now j) (Some (record { id = j; result = None })) (entry_in old j)
  pub others : (j : JobId) → i ≤ j.tenant → entry_in entries j ≡ entry_in old j

pub entered_none : (tenants : List Standing) (entries : List TableEntry) → AreEnteredTo 0 tenants tenants entries entries
entered_none tenants entries = record { entered = λ j lt. absurd (omega arith); others = λ j le. refl }

pub entered_more : (i : ℕ) (before now : List Standing) (x s : Standing) (old entries next : List TableEntry) → i < length now → x ≡ tenant_at before i → x.tenancy.owner.place ≡ i → s.tenancy.owner.place ≡ x.tenancy.owner.place
    → ((j : JobId) → entry_in next j ≡ cond (has_job s.tenancy.owner.place (drop (length x.row.active) s.row.active) j) (Some (record { id = j; result = None })) (entry_in entries j))
    → AreEnteredTo i before now old entries → AreEnteredTo (i + 1) before (set now i s) old next
entered_more i before now x s old entries next within here own same_place enters so_far = record {
  entered = λ j lt. ⊎_elim
      (λ (e : j.tenant ≡ i).
      enters j
      ∙ ap (cond (has_job s.tenancy.owner.place (drop (length x.row.active) s.row.active) j) (Some (record { id = j; result = None }))) (so_far.others j (omega (arith, e)))
      ∙ ap (λ b. cond b (Some (record { id = j; result = None })) (entry_in old j))
      (ap (λ (b : Standing). has_job s.tenancy.owner.place (drop (length b.row.active) s.row.active) j) (here ∙ ap (tenant_at before) (sym e))
      ∙ ap (λ (y : Standing). has_job y.tenancy.owner.place (drop (length (tenant_at before j.tenant).row.active) y.row.active) j) (sym (ap (tenant_at (set now i s)) e ∙ get_or-set_same now i s no_tenant within))))
      (λ (differ : j.tenant ≢ i).
      other j differ ∙ so_far.entered j (omega arith)
      ∙ ap (λ (y : Standing). cond (has_job y.tenancy.owner.place (drop (length (tenant_at before j.tenant).row.active) y.row.active) j) (Some (record { id = j; result = None })) (entry_in old j))
      (sym (get_or-set_other now i j.tenant s no_tenant differ)))
      (cases_eq j.tenant i);
  others = λ j le. other j (λ e. absurd (omega (arith, e))) ∙ so_far.others j (omega arith);
}
  where
    other : (j : JobId) → j.tenant ≢ i → entry_in next j ≡ entry_in entries j
    other j differ =
        enters j
        ∙ ap (λ b. cond b (Some (record { id = j; result = None })) (entry_in entries j)) (other_tenant s.tenancy.owner.place (drop (length x.row.active) s.row.active) j (λ e. differ (sym (sym own ∙ (sym same_place ∙ e)))))

pub none_outside : (i : ℕ) (before now : List Standing) → length now ≤ i → (j : JobId) → i ≤ j.tenant → is_released_among before now j ≡ false
none_outside i before now past j le =
    let older : ℕ = length (tenant_at before j.tenant).row.active in
    ap (λ (s : Standing). has_job s.tenancy.owner.place (drop older s.row.active) j) (lists.get_or-eq_default now no_tenant (omega (arith, le, past)))
    ∙ ap (λ xs. has_job 0 xs j) (drop_all older [] (omega arith))

pub entered_all : (i : ℕ) (before now : List Standing) (old entries : List TableEntry) → length now ≤ i → AreEnteredTo i before now old entries
    → (j : JobId) → entry_in entries j ≡ cond (is_released_among before now j) (Some (record { id = j; result = None })) (entry_in old j)
entered_all i before now old entries past all j =
    ⊎_elim (λ (lt : j.tenant < i). all.entered j lt)
    (λ (le : i ≤ j.tenant). all.others j le ∙ ap (λ b. cond b (Some (record { id = j; result = None })) (entry_in old j)) (sym (none_outside i before now past j le))) (cases_lt j.tenant i)

-- what a tenant released has no entry yet
pub not_yet : (i : ℕ) (before now : List Standing) (x s : Standing) (old entries : List TableEntry) → i < length before → x ≡ tenant_at before i → x.tenancy.owner.place ≡ i → s.tenancy.owner.place ≡ x.tenancy.owner.place → AreReleased x.row s.row
    → ((t : ℕ) (j : JobId) → t < length before → j.tenant ≡ t → (tenant_at before t).row.next_tick ≡ j.tick → is_entered old j ≡ false) → AreEnteredTo i before now old entries
    → AllByRecursion (λ (a : ActiveTask). is_entered entries (job_of s.tenancy.owner.place a) ≡ false) (drop (length x.row.active) s.row.active)
not_yet i before now x s old entries inside here own same_place released new so_far =
    all_map (λ (a : ActiveTask). a.release ≡ x.row.next_tick) (λ (a : ActiveTask). is_entered entries (job_of s.tenancy.owner.place a) ≡ false) (drop (length x.row.active) s.row.active)
    (λ a at.
    ap is_some (so_far.others (job_of s.tenancy.owner.place a) (omega (arith, own, same_place)))
    ∙ new i (job_of s.tenancy.owner.place a) inside (same_place ∙ own) (ap (λ (s : Standing). s.row.next_tick) (sym here) ∙ sym at))
    released.newer
