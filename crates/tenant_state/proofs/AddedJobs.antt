-- The jobs of tasks that are released, with the shares that they take.
use Rattle.std.proofs.Common.{◌≡◌, ◌≢◌, ℕ, ◌+◌, ◌<◌, Bool, true, false, cond, not, nat_eq, List, [], ◌∷◌, ℤ, length, map, set, drop, get_or, Option, Some, None, sym, ap, subst, ◌∙◌, arith}
use Rattle.std.specs.Prelude.{is_some, slice_get}
use Rattle.std.specs.List.{AllByRecursion, list_all}
use Rattle.std.specs.Option.{option_map, option_map_or}
use Rattle.std.proofs.lemmas.Bool.{and_parts, or_parts, eq-eqb, ne_eqb, false≢true, not-true}
use Rattle.std.proofs.lemmas.List.{get_or-set_other, length-map}
use Rattle.std.proofs.lemmas.Option.{slice_get-map, slice_get-get_or, slice_get_within}
use Rattle.giotto_tasks.specs.declared.names.Name.{Name}
use Rattle.giotto_tasks.specs.Names.{same_name, is_among}
use Rattle.giotto_tasks.specs.Sound.{IsSound, all_different}
use Rattle.giotto_tasks.specs.Syntax.{TaskBody}
use Rattle.giotto_tasks.proofs.cited.ListLemmas.{all_map, all_at, all_pass}
use Rattle.giotto_tasks.proofs.cited.NameLemmas.{same_name_self}
use Rattle.rig_model.specs.text.Program.{TaskDeclaration, GiottoProgram, body_of}
use Rattle.tenant_slots.specs.well_formed.cited.Timetables.{AreEach}
use Rattle.tenant_slots.proofs.of_well_formed.EachLemmas.{each_at, each_long}
use Rattle.tenant_slots.specs.well_formed.cited.Facts.{ProgramFits}
use Rattle.tenant_slots.specs.Places.{name_of_task}
use Rattle.tenant_slots.proofs.cited.Numbered.{task_here, task_fits_at}
use Rattle.tenant_state.proofs.EndedTasks.{some_of}
use Rattle.tenant_state.specs.declared.tenants.Active.{Active}
use Rattle.tenant_jobs.specs.cited.Jobs.{IsComputable}
use Rattle.tenant_state.specs.Jobs.{job_in, body_in}
use Rattle.tenant_state.specs.Tenants.{active_of}
use Rattle.tenant_state.specs.inner.Tenants.{IsActiveAs, IsActiveOf, IsShareOf, released_in}
use Rattle.tenant_state.proofs.AwaitedTasks.{from_place}

-- the body of the task at a place
pub body_here : (p : GiottoProgram) → ProgramFits p → (k : ℕ) (t : TaskDeclaration) → slice_get p.tasks k ≡ Some t → body_in p (name_of_task p k) ≡ body_of t
body_here p fits k t at = ap (λ o. option_map_or body_of o (body_in (record p { tasks = [] }) (name_of_task p k))) (task_here p fits k t at)

module _ (p : GiottoProgram) {S : Type 0} (v : S → TaskBody) where
  abbrev named : Active → Name
  named a = name_of_task p a.task

  abbrev IsThere : List (Option S) → Active → Type 0
  IsThere shares a = is_some (get_or shares a.task None) ≡ true

  -- the tasks that are left are different, and the share of each is available
  pub record AreLeft (shares : List (Option S)) (active : List Active) : Type 0 where
    pub different : all_different (map named active) ≡ true
    pub there : AllByRecursion (IsThere shares) active

  shares_long : (shares : List (Option S)) → AreEach IsShareOf p.tasks (map (option_map v) shares) → length p.tasks ≡ length shares
  shares_long shares each = each_long IsShareOf p.tasks _ each ∙ length-map shares (option_map v)

  pub all_left : (shares : List (Option S)) (active : List Active) → all_different (map named active) ≡ true → AllByRecursion (IsActiveOf p) active
      → AreEach IsShareOf p.tasks (map (option_map v) shares) → (0 < length active → list_all is_some shares ≡ true) → AreLeft shares active
  all_left shares [] different declared each shared = record { different = different; there = tt }
  all_left shares (a ∷ active) different declared each shared = record { different = different; there = all_map (IsActiveOf p) (IsThere shares) (a ∷ active) here declared }
    where
      here : (a : Active) → IsActiveOf p a → IsThere shares a
      here a h =
          let its = some_of {P = IsActiveAs a} (slice_get p.tasks a.task) h in
          all_at (λ o. is_some o ≡ true) shares a.task None (omega (arith, slice_get_within p.tasks a.task its.0 its.1, shares_long shares each)) (all_pass (λ o. is_some o ≡ true) is_some (λ o e. e) shares (shared (omega arith)))

  still_there : (shares : List (Option S)) (k : ℕ) (rest : List Active) → is_among (map named rest) (name_of_task p k) ≡ false → AllByRecursion (IsThere shares) rest → AllByRecursion (IsThere (set shares k None)) rest
  still_there shares k [] apart there = tt
  still_there shares k (a ∷ rest) apart there =
      let both = or_parts (same_name (named a) (name_of_task p k)) (is_among (map named rest) (name_of_task p k)) apart in
      let other : a.task ≢ k = λ e. false≢true (sym both.0 ∙ ap (λ j. same_name (named a) (name_of_task p j)) (sym e) ∙ same_name_self (named a)) in
      (ap is_some (get_or-set_other shares k a.task None None other) ∙ there.0, still_there shares k rest both.1 there.1)

  -- the next task that is left takes its share
  pub left_more : (shares : List (Option S)) (a : Active) (rest : List Active) → AreLeft shares (a ∷ rest) → AreLeft (set shares a.task None) rest
  left_more shares a rest left =
      let both = and_parts (not (is_among (map named rest) (named a))) (all_different (map named rest)) left.different in
      record { different = both.1; there = still_there shares a.task rest (not-true _ both.0) left.there.1 }

  -- its job is that of the program's task
  pub job_ready : (q : GiottoProgram) (tenant : ℕ) (shares : List (Option S)) (a : Active) (share : S) (d : Option S) → q ≡ p → ProgramFits p → IsActiveOf p a
      → AreEach IsShareOf p.tasks (map (option_map v) shares) → Some share ≡ get_or shares a.task d
      → (a.task < length q.tasks) × IsComputable (job_in q tenant (active_of q a)) × (v share ≡ body_in q (name_of_task q a.task))
  job_ready q tenant shares a share d same fits h each is =
      let its = some_of {P = IsActiveAs a} (slice_get p.tasks a.task) h in
      let t = its.0 in
      let body : body_in p (named a) ≡ body_of t = body_here p fits a.task t its.1 in
      let there : a.task < length p.tasks = slice_get_within p.tasks a.task t its.1 in
      let found = slice_get-map (option_map v) shares a.task ∙ ap (option_map (option_map v)) (slice_get-get_or shares a.task d (omega (arith, there, shares_long shares each)) ∙ ap Some (sym is)) in
      let computable : IsComputable (job_in p tenant (active_of p a)) = record {
        inputs = its.2.inputs_fit ∙ sym (ap (λ (b : TaskBody). length b.inputs) body);
        states = its.2.states_fit ∙ sym (length-map t.states (λ (v : Name × ℤ). v.0)) ∙ sym (ap (λ (b : TaskBody). length b.states) body);
        sound = subst IsSound (sym body) (task_fits_at p fits a.task t its.1).sound;
      } in
      rw same (there, computable, each_at IsShareOf p.tasks (map (option_map v) shares) a.task t (Some (v share)) each its.1 found ∙ sym body)

-- the tasks of one instant among those that are left, from the next one on
module _ (n : ℕ) (xs : List Active) (i : ℕ) (a : Active) (lt : i < length xs) (at : a ≡ get_or xs i a) where
  next_released : (b : Bool) → nat_eq a.release n ≡ b → released_in n (drop i xs) ≡ cond b (a ∷ released_in n (drop (i + 1) xs)) (released_in n (drop (i + 1) xs))
  next_released b is = ap (released_in n) (from_place xs i a lt at) ∙ ap (λ c. cond c (a ∷ released_in n (drop (i + 1) xs)) (released_in n (drop (i + 1) xs))) is

  pub released_next : a.release ≡ n → released_in n (drop i xs) ≡ a ∷ released_in n (drop (i + 1) xs)
  released_next is = next_released true (eq-eqb a.release n is)

  pub none_next : a.release ≢ n → released_in n (drop i xs) ≡ released_in n (drop (i + 1) xs)
  none_next other = next_released false (ne_eqb a.release n other)
