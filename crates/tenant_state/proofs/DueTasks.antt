-- The due tasks of a mode, and the first that isn't completed.
use Rattle.std.proofs.Common.{◌≡◌, ℕ, Bool, true, false, not, cond, ◌&&◌, ◌||◌, ⊎_elim, List, [], ◌∷◌, ◌++◌, map, filter, Some, None, sym, refl, ap, subst, ◌∙◌}
use Rattle.std.specs.List.{list_any, find, flat_map, AllByRecursion}
use Rattle.std.proofs.lemmas.Bool.{and_parts, and_from, or_left, or_right, or_cases, false≢true, false_from_ne_true}
use Rattle.std.proofs.lemmas.List.{map-append}
use Rattle.std.proofs.lemmas.List.Elements.{filter-append}
use Rattle.std.proofs.lemmas.Map.Views.{any-filter_same}
use Rattle.giotto_tasks.specs.declared.names.Name.{Name}
use Rattle.giotto_tasks.specs.Names.{same_name, is_among}
use Rattle.giotto_tasks.proofs.cited.ListLemmas.{all_map, all_mapped, all_of, any_map, same_filter}
use Rattle.giotto_tasks.proofs.cited.NameLemmas.{same_name_is, same_name_self, any_is_among, is_among-append}
use Rattle.giotto_tasks.proofs.cited.TestLemmas.{absorbed, and_false, and_true}
use Rattle.rig_model.specs.text.Program.{TaskInvocation, ModeDeclaration}
use Rattle.rig_model.specs.Due.{is_due_at}
use Rattle.rig_model.specs.FirstHalf.{still_active}
use Rattle.rig_model.specs.Row.{ActiveTask}

abbrev pub names_of_tasks : List ActiveTask → List Name
names_of_tasks tasks = map (λ (a : ActiveTask). a.task) tasks

pub all_pass : {X : Type 0} (test : X → Bool) (xs : List X) → AllByRecursion (λ x. test x ≡ true) (filter test xs)
all_pass test [] = tt
all_pass {X = X} test (x ∷ xs) = by (test x) refl (all_pass test xs)
  where
    by : (b : Bool) → test x ≡ b → AllByRecursion (λ y. test y ≡ true) (filter test xs) → AllByRecursion (λ y. test y ≡ true) (cond b (x ∷ filter test xs) (filter test xs))
    by true e others = (e, others)
    by false e others = others

pub none_passes : {X : Type 0} (test : X → Bool) (xs : List X) → AllByRecursion (λ x. test x ≡ false) xs → filter test xs ≡ []
none_passes test [] all = refl
none_passes test (x ∷ xs) all = ap (λ b. cond b (x ∷ filter test xs) (filter test xs)) all.0 ∙ none_passes test xs all.1

any_filtered : {X : Type 0} (q p : X → Bool) (xs : List X) → list_any q (filter p xs) ≡ list_any (λ x. q x && p x) xs
any_filtered q p [] = refl
any_filtered q p (x ∷ xs) = by (p x) (any_filtered q p xs)
  where
    by : (b : Bool) → list_any q (filter p xs) ≡ list_any (λ x. q x && p x) xs → list_any q (cond b (x ∷ filter p xs) (filter p xs)) ≡ (q x && b || list_any (λ x. q x && p x) xs)
    by true e = ap (λ r. q x || r) e ∙ ap (λ c. c || list_any (λ x. q x && p x) xs) (sym (and_true (q x)))
    by false e = e ∙ ap (λ c. c || list_any (λ x. q x && p x) xs) (sym (and_false (q x)))

pub any_wider : {X : Type 0} (p q : X → Bool) → ((x : X) → p x ≡ true → q x ≡ true) → (xs : List X) → list_any p xs ≡ true → list_any q xs ≡ true
any_wider p q wider [] h = h
any_wider p q wider (x ∷ xs) h = ⊎_elim (λ e. or_left _ _ (wider x e)) (λ e. or_right (q x) _ (any_wider p q wider xs e)) (or_cases _ _ h)

-- if `d` says whether the elements that pass a test are due, a due element passes exactly if `d` holds and an element passes
any_told : {X : Type 0} (test due : X → Bool) (d : Bool) (xs : List X) → AllByRecursion (λ x. test x ≡ true → due x ≡ d) xs → list_any test (filter due xs) ≡ (d && list_any test xs)
any_told test due d [] all = sym (and_false d)
any_told {X = X} test due d (x ∷ xs) all = by (test x) refl (due x) all.0 (any_told test due d xs all.1)
  where
    by : (t : Bool) → test x ≡ t → (b : Bool) → (t ≡ true → b ≡ d) → list_any test (filter due xs) ≡ (d && list_any test xs)
        → list_any test (cond b (x ∷ filter due xs) (filter due xs)) ≡ (d && (t || list_any test xs))
    by true is true same rest = ap (λ t. t || list_any test (filter due xs)) is ∙ ap (λ c. c && true) (same refl)
    by true is false same rest = rest ∙ ap (λ c. c && list_any test xs) (sym (same refl)) ∙ ap (λ c. c && true) (same refl)
    by false is true same rest = ap (λ t. t || list_any test (filter due xs)) is ∙ rest
    by false is false same rest = rest

-- then a due element passes exactly if an element passes, and none of those that stay passes
pub any_parted : {X : Type 0} (test due : X → Bool) (d : Bool) (xs : List X) → AllByRecursion (λ x. test x ≡ true → due x ≡ d) xs
    → list_any test (filter due xs) ≡ (list_any test xs && not (list_any test (filter (λ x. not (due x)) xs)))
any_parted test due d xs all =
    any_told test due d xs all ∙ parted d (list_any test xs)
    ∙ ap (λ b. list_any test xs && not b) (sym (any_told test (λ x. not (due x)) (not d) xs (all_map _ _ xs (λ x same e. ap not (same e)) all)))
  where
    parted : (d a : Bool) → (d && a) ≡ (a && not (not d && a))
    parted true a = sym (and_true a)
    parted false true = refl
    parted false false = refl

among_any : (tasks : List ActiveTask) (x : Name) → is_among (names_of_tasks tasks) x ≡ list_any (λ (a : ActiveTask). same_name a.task x) tasks
among_any tasks x = sym (any_is_among (names_of_tasks tasks) x) ∙ any_map (λ y. same_name y x) (λ (a : ActiveTask). a.task) tasks

distributed : (a b c : Bool) → ((a && c) || (b && c)) ≡ ((a || b) && c)
distributed true true c = absorbed c c (λ e. e)
distributed true false true = refl
distributed true false false = refl
distributed false b c = refl

module _ (m : ModeDeclaration) (time : ℕ) (active : List ActiveTask) where
  -- the active tasks of an invocation's name, if the invocation is due
  abbrev pub group : TaskInvocation → List ActiveTask
  group i = filter (λ (a : ActiveTask). same_name a.task i.task && is_due_at time m i.frequency) active

  -- whether a task of this name is due
  abbrev pub ends : List TaskInvocation → Name → Bool
  ends is x = list_any (λ (i : TaskInvocation). same_name x i.task && is_due_at time m i.frequency) is

  -- the active tasks that pass a test, and are in an invocation's group
  any_in_group : (test : ActiveTask → Bool) (i : TaskInvocation) (x : Name) → ((a : ActiveTask) → test a ≡ true → a.task ≡ x)
      → list_any test (group i) ≡ ((same_name x i.task && is_due_at time m i.frequency) && list_any test active)
  any_in_group test i x named =
      any-filter_same test _ (same_name x i.task && is_due_at time m i.frequency) (λ a e. ap (λ y. same_name y i.task && is_due_at time m i.frequency) (named a e)) active

  module _ (test : ActiveTask → Bool) where
    -- the names of the due tasks that pass a test
    pub names_due : (is : List TaskInvocation) (x : Name)
        → is_among (names_of_tasks (filter test (flat_map group is))) x ≡ (ends is x && list_any (λ (a : ActiveTask). same_name a.task x && test a) active)
    names_due [] x = refl
    names_due (i ∷ is) x =
        let here : is_among (names_of_tasks (filter test (group i))) x ≡ ((same_name x i.task && is_due_at time m i.frequency) && list_any (λ (a : ActiveTask). same_name a.task x && test a) active) =
        among_any (filter test (group i)) x ∙ any_filtered (λ (a : ActiveTask). same_name a.task x) test (group i)
        ∙ any_in_group (λ (a : ActiveTask). same_name a.task x && test a) i x (λ a e. same_name_is a.task x (and_parts _ _ e).0) in
        ap (λ ts. is_among (names_of_tasks ts) x) (filter-append test (group i) (flat_map group is))
        ∙ ap (λ ns. is_among ns x) (map-append (λ (a : ActiveTask). a.task) (filter test (group i)) (filter test (flat_map group is)))
        ∙ is_among-append (names_of_tasks (filter test (group i))) (names_of_tasks (filter test (flat_map group is))) x
        ∙ ap (λ b. b || is_among (names_of_tasks (filter test (flat_map group is))) x) here
        ∙ ap (λ b. ((same_name x i.task && is_due_at time m i.frequency) && list_any (λ (a : ActiveTask). same_name a.task x && test a) active) || b) (names_due is x)
        ∙ distributed (same_name x i.task && is_due_at time m i.frequency) (ends is x) _

  -- the tasks that stay active
  pub stay : (is : List TaskInvocation) → still_active (names_of_tasks (flat_map group is)) active ≡ filter (λ (a : ActiveTask). not (ends is a.task)) active
  stay is = same_filter _ _ active (along active (λ x h. h))
    where
      any_test : (xs : List ActiveTask) → filter (λ (a : ActiveTask). true) xs ≡ xs
      any_test [] = refl
      any_test (a ∷ xs) = ap (λ ys. a ∷ ys) (any_test xs)

      among_due : (x : Name) → list_any (λ (a : ActiveTask). same_name a.task x && true) active ≡ true → is_among (names_of_tasks (flat_map group is)) x ≡ ends is x
      among_due x there =
          ap (λ ts. is_among (names_of_tasks ts) x) (sym (any_test (flat_map group is))) ∙ names_due (λ (a : ActiveTask). true) is x ∙ ap (λ b. ends is x && b) there ∙ and_true (ends is x)

      along : (xs : List ActiveTask) → ((x : Name) → list_any (λ (a : ActiveTask). same_name a.task x && true) xs ≡ true → list_any (λ (a : ActiveTask). same_name a.task x && true) active ≡ true)
          → AllByRecursion (λ (a : ActiveTask). not (is_among (names_of_tasks (flat_map group is)) a.task) ≡ not (ends is a.task)) xs
      along [] within = tt
      along (a ∷ xs) within =
          (ap not (among_due a.task (within a.task (or_left _ _ (and_from _ _ (same_name_self a.task) refl)))), along xs (λ x h. within x (or_right (same_name a.task x && true) _ h)))

  module _ (completed : ActiveTask → Bool) where
    -- whether an active task of this name isn't completed
    abbrev pub is_unfinished : Name → Bool
    is_unfinished x = list_any (λ (a : ActiveTask). same_name a.task x && not (completed a)) active

    -- whether a task of this invocation is due and not completed
    abbrev pub is_open : TaskInvocation → Bool
    is_open i = is_due_at time m i.frequency && is_unfinished i.task

    abbrev pub open_names : List ActiveTask → List Name
    open_names tasks = map (λ (a : ActiveTask). a.task) (filter (λ a. not (completed a)) tasks)

    -- whether a name is that of an open task: its task is due, and not completed
    open_is : (is : List TaskInvocation) (x : Name) → is_among (open_names (flat_map group is)) x ≡ (ends is x && is_unfinished x)
    open_is is x = names_due (λ a. not (completed a)) is x

    ends_open : (is : List TaskInvocation) (x : Name) → find is_open is ≡ None → (ends is x && is_unfinished x) ≡ false
    ends_open [] x e = refl
    ends_open (i ∷ is) x e = by (is_open i) refl e (ends_open is x)
      where
        by : (b : Bool) → is_open i ≡ b → cond b (Some i) (find is_open is) ≡ None → (find is_open is ≡ None → (ends is x && is_unfinished x) ≡ false) → (ends (i ∷ is) x && is_unfinished x) ≡ false
        by true opens none later = absurd (cc)
        by false opens none later =
            sym (distributed (same_name x i.task && is_due_at time m i.frequency) (ends is x) (is_unfinished x))
            ∙ ap (λ b. ((same_name x i.task && is_due_at time m i.frequency) && is_unfinished x) || b) (later none)
            ∙ ap (λ b. b || false) (false_from_ne_true _ (λ all.
            let both = and_parts _ _ all in
            let named = and_parts _ _ both.0 in
            false≢true (sym opens ∙ and_from _ _ named.1 (subst (λ y. is_unfinished y ≡ true) (same_name_is x i.task named.0) both.1))))

    -- if no invocation is open, no due task is
    pub none_open : (is : List TaskInvocation) → find is_open is ≡ None → filter (is_among (open_names (flat_map group is))) (names_of_tasks (flat_map group is)) ≡ []
    none_open is e = none_passes _ _ (all_of (λ x. open_is is x ∙ ends_open is x e) (names_of_tasks (flat_map group is)))

    module _ (test : Name → Bool) (told : (x : Name) → test x ≡ true → is_unfinished x ≡ true) where
      first_of_group : (j : TaskInvocation) → test j.task ≡ true → (g : List ActiveTask) → AllByRecursion (λ (a : ActiveTask). (same_name a.task j.task && is_due_at time m j.frequency) ≡ true) g
          → list_any (λ (a : ActiveTask). same_name a.task j.task) g ≡ true → (rest : List Name) × (filter test (names_of_tasks g) ≡ j.task ∷ rest)
      first_of_group j passes [] all h = absurd (false≢true h)
      first_of_group j passes (a ∷ g) all h =
          let same : a.task ≡ j.task = same_name_is a.task j.task (and_parts _ _ all.0).0 in (
            filter test (names_of_tasks g),
            ap (λ b. cond b (a.task ∷ filter test (names_of_tasks g)) (filter test (names_of_tasks g))) (subst (λ x. test x ≡ true) (sym same) passes) ∙ ap (λ x. x ∷ filter test (names_of_tasks g)) same,
          )

      closed_gone : (j : TaskInvocation) → is_open j ≡ false → filter test (names_of_tasks (group j)) ≡ []
      closed_gone j closed = none_passes test (names_of_tasks (group j)) (all_mapped _ _ _ (all_map _ _ (group j) (λ a e.
          let both = and_parts _ _ e in
          false_from_ne_true _ (λ h. false≢true (sym closed ∙ and_from _ _ both.1 (subst (λ x. is_unfinished x ≡ true) (same_name_is a.task j.task both.0) (told a.task h)))))
          (all_pass _ active)))

      first_along : (i : TaskInvocation) (js : List TaskInvocation) → ((x : Name) → ends js x ≡ true → is_unfinished x ≡ true → test x ≡ true) → find is_open js ≡ Some i
          → (rest : List Name) × (filter test (names_of_tasks (flat_map group js)) ≡ i.task ∷ rest)
      first_along i [] within e = absurd (cc)
      first_along i (j ∷ js) within e = by (is_open j) refl e (first_along i js (λ x h. within x (or_right (same_name x j.task && is_due_at time m j.frequency) _ h)))
        where
          later : List Name
          later = names_of_tasks (flat_map group js)

          apart : filter test (names_of_tasks (flat_map group (j ∷ js))) ≡ filter test (names_of_tasks (group j)) ++ filter test later
          apart = ap (filter test) (map-append (λ (a : ActiveTask). a.task) (group j) (flat_map group js)) ∙ filter-append test (names_of_tasks (group j)) later

          by : (b : Bool) → is_open j ≡ b → cond b (Some j) (find is_open js) ≡ Some i → (find is_open js ≡ Some i → (rest : List Name) × (filter test later ≡ i.task ∷ rest))
              → (rest : List Name) × (filter test (names_of_tasks (flat_map group (j ∷ js))) ≡ i.task ∷ rest)
          by true opens found rest_of =
              let same : j ≡ i = cc in
              let both = and_parts _ _ opens in
              let due_here = and_from _ _ (same_name_self j.task) both.0 in
              let there = any_in_group (λ (a : ActiveTask). same_name a.task j.task) j j.task (λ a e. same_name_is a.task j.task e)
              ∙ ap (λ b. b && list_any (λ (a : ActiveTask). same_name a.task j.task) active) due_here
              ∙ any_wider (λ (a : ActiveTask). same_name a.task j.task && not (completed a)) (λ (a : ActiveTask). same_name a.task j.task) (λ a e. (and_parts _ _ e).0) active both.1 in
              let first = first_of_group j (within j.task (or_left _ _ due_here) both.1) (group j) (all_pass _ active) there in
              (first.0 ++ filter test later, apart ∙ ap (λ ns. ns ++ filter test later) first.1 ∙ ap (λ (k : TaskInvocation). k.task ∷ (first.0 ++ filter test later)) same)
          by false opens found rest_of =
              let first = rest_of found in
              (first.0, apart ∙ ap (λ ns. ns ++ filter test later) (closed_gone j opens) ∙ first.1)

    -- the first open invocation's task is the first of the due tasks that are open
    pub first_open : (is : List TaskInvocation) (i : TaskInvocation) → find is_open is ≡ Some i
        → (rest : List Name) × (filter (is_among (open_names (flat_map group is))) (names_of_tasks (flat_map group is)) ≡ i.task ∷ rest)
    first_open is i e =
        first_along (is_among (open_names (flat_map group is))) (λ x h. (and_parts _ _ (sym (open_is is x) ∙ h)).1) i is (λ x ends unfinished. open_is is x ∙ and_from _ _ ends unfinished) e
