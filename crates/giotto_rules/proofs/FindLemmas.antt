-- Tasks and modes by the places of their names.
use Rattle.std.proofs.Common.{◌≡◌, ℕ, ◌+◌, ◌<◌, ◌==◌, Bor, get_or, Bool, true, false, cond, ◌||◌, List, [], ◌∷◌, length, map, Option, Some, None, refl, sym, ap, ◌∙◌}
use Rattle.std.specs.Prelude.{slice_get, is_some}
use Rattle.std.specs.List.{find, list_all, position_from, position_or_len}
use Rattle.std.specs.Option.{IfSome, option_copied, option_map, unwrap_or}
use Rattle.std.specs.Slice.{IsItemAt}
use Rattle.std.proofs.lemmas.Bool.{ltb-false, ltb-true}
use Rattle.std.proofs.lemmas.Iterator.Adapters.{position_from-zero}
use Rattle.std.proofs.lemmas.List.Folds.{find_at, list_all-map}
use Rattle.std.proofs.lemmas.Option.{get_or_from_slice_get, slice_get_past, slice_get_read, slice_get-map}
use Rattle.std.proofs.Math.Dec.{ltb, eqb-suc-zero}
use Rattle.giotto_tasks.specs.declared.names.Name.{Name}
use Rattle.giotto_tasks.specs.Names.{same_name, is_among}
use Rattle.giotto_tasks.proofs.cited.NameLemmas.{same_name_is}
use Rattle.giotto_tasks.specs.Sound.{all_different}
use Rattle.giotto_tasks.specs.Syntax.{Expression}
use Rattle.giotto_text.specs.declared.programs.Task.{Task}
use Rattle.giotto_text.specs.ProgramTrees.{task_of as tree_of_task}
use Rattle.giotto_text.specs.Program.{TaskDeclaration, ModeDeclaration, GiottoProgram}
use Rattle.giotto_rules.specs.Declarations.{task_names, mode_names, task_named, mode_named, mode_ports, period_of_task}
use Rattle.giotto_rules.specs.Drivers.{ports_of_target}
use Rattle.giotto_rules.specs.Names.{are_among}
use Rattle.giotto_rules.specs.Rules.{tasks_share_no_output}
use Rattle.giotto_tasks.specs.cited.Places.{place_from}
use Rattle.giotto_rules.specs.Switches.{is_period, goes_on_with}
use Rattle.giotto_rules.specs.inner.Periods.{periods_in, period_at}
use Rattle.giotto_tasks.proofs.cited.IndexLemmas.{is_some-place_from}

-- the element at a place, if there is a place
abbrev pub element_at : {X : Type 0} → List X → Option ℕ → Option X
element_at xs None = None
element_at xs (Some k) = slice_get xs k

pub place_from-map : {X : Type 0} (name_of : X → Name) (i : ℕ) (xs : List X) (x : Name) → place_from i (map name_of xs) x ≡ position_from (λ y. same_name (name_of y) x) i xs
place_from-map name_of i [] x = refl
place_from-map name_of i (y ∷ ys) x = ap (λ r. cond (same_name (name_of y) x) (Some i) r) (place_from-map name_of (i + 1) ys x)

-- a search finds the element at the first place that passes
pub find_at_place : {X : Type 0} (test : X → Bool) (xs : List X) → find test xs ≡ element_at xs (position_from test 0 xs)
find_at_place test xs =
    find_at test xs ∙ (at_place (ltb (position_or_len test xs) (length xs)) refl ∙ ap (element_at xs) (position_from-zero test xs))
  where
    at_place : (b : Bool) → ltb (position_or_len test xs) (length xs) ≡ b → slice_get xs (position_or_len test xs) ≡ element_at xs (cond b (Some (position_or_len test xs)) None)
    at_place true e = refl
    at_place false e = slice_get_past xs (position_or_len test xs) (ltb-false (position_or_len test xs) (length xs) e)

-- the task with this name is at the name's place, and so is the mode
pub task_at_place : (p : GiottoProgram) (x : Name) (place : Option ℕ) → place ≡ place_from 0 (task_names p) x → task_named p x ≡ element_at p.tasks place
task_at_place p x place e =
    find_at_place (λ (t : TaskDeclaration). same_name t.name x) p.tasks ∙ ap (element_at p.tasks) (sym (e ∙ place_from-map (λ (t : TaskDeclaration). t.name) 0 p.tasks x))

pub mode_at_place : (p : GiottoProgram) (x : Name) (place : Option ℕ) → place ≡ place_from 0 (mode_names p) x → mode_named p x ≡ element_at p.modes place
mode_at_place p x place e =
    find_at_place (λ (m : ModeDeclaration). same_name m.name x) p.modes ∙ ap (element_at p.modes) (sym (e ∙ place_from-map (λ (m : ModeDeclaration). m.name) 0 p.modes x))

-- the ports of a target mode are those at its place; none if it has no place
pub ports_at_place : (p : GiottoProgram) (x : Name) (place : Option ℕ) → place ≡ place_from 0 (mode_names p) x
    → ports_of_target p (mode_named p x) ≡ unwrap_or (element_at (map (mode_ports p) p.modes) place) []
ports_at_place p x place e = ap (ports_of_target p) (mode_at_place p x place e) ∙ at_place place
  where
    of_mode : (m : Option ModeDeclaration) → ports_of_target p m ≡ unwrap_or (option_map (mode_ports p) m) []
    of_mode None = refl
    of_mode (Some m) = refl

    at_place : (k : Option ℕ) → ports_of_target p (element_at p.modes k) ≡ unwrap_or (element_at (map (mode_ports p) p.modes) k) []
    at_place None = refl
    at_place (Some k) = of_mode (slice_get p.modes k) ∙ ap (λ o. unwrap_or o []) (sym (slice_get-map (mode_ports p) p.modes k))

-- the result of a lookup at that place
pub task_found : (p : GiottoProgram) (x : Name) (names : List Name) (ts : List Task) (k : ℕ) (found : Option (Bor Task)) → names ≡ task_names p → place_from 0 names x ≡ Some k
    → map tree_of_task ts ≡ p.tasks → option_copied found ≡ slice_get ts k → task_named p x ≡ option_map tree_of_task (option_copied found)
task_found p x names ts k found e at all got =
    task_at_place p x (Some k) (sym at ∙ ap (λ ns. place_from 0 ns x) e)
    ∙ (ap (λ us. slice_get us k) (sym all) ∙ (slice_get-map tree_of_task ts k ∙ ap (option_map tree_of_task) (sym got)))

pub found_in : {X Y : Type 0} (f : X → Y) (o : Option Y) (found : Option (Bor X)) → o ≡ option_map f (option_copied found) → IfSome found (λ x. o ≡ Some (f x.now))
found_in f o None e = tt
found_in f o (Some x) e = e

pub ports_found_in : {X : Type 0} (ports : List X) (found : Option (Bor (List X))) → ports ≡ unwrap_or (option_copied found) [] → IfSome found (λ x. x.now ≡ ports)
ports_found_in ports None e = tt
ports_found_in ports (Some x) e = sym e

-- the result of a lookup in a slice
pub copied_at : {X : Type 0} (xs : List X) (k : ℕ) (found : Option (Bor X)) → IsItemAt xs k found → option_copied found ≡ slice_get xs k
copied_at xs k None h = sym (slice_get_past xs k (ltb-false k (length xs) (sym h.0)))
copied_at xs k (Some x) h = sym (slice_get_read xs (length xs) k x.now refl (ltb-true k (length xs) (sym h.0)) h.1)

-- a function of a function of the element at a place
pub mapped_or : {X Y Z : Type 0} (f : Y → Z) (g : X → Y) (zs : List Z) (ys : List Y) (xs : List X) (i : ℕ) (d : Z) (x : X) → zs ≡ map f ys → map g xs ≡ ys
    → i < length xs → x ≡ get_or xs i x → get_or zs i d ≡ f (g x)
mapped_or f g zs ys xs i d x each all within at =
    let here : slice_get xs i ≡ Some x = slice_get_read xs (length xs) i x refl within at in
    let there : slice_get zs i ≡ option_map f (option_map g (slice_get xs i)) =
    ap (λ us. slice_get us i) (each ∙ ap (map f) (sym all)) ∙ (slice_get-map f (map g xs) i ∙ ap (option_map f) (slice_get-map g xs i)) in
    get_or_from_slice_get zs i (f (g x)) d (there ∙ ap (λ o. option_map f (option_map g o)) here)

pub mapped_at : {X Y Z : Type 0} (f : Y → Z) (g : X → Y) (zs : List Z) (ys : List Y) (xs : List X) (i : ℕ) (z : Z) (x : X) → zs ≡ map f ys → map g xs ≡ ys
    → i < length xs → z ≡ get_or zs i z → x ≡ get_or xs i x → z ≡ f (g x)
mapped_at f g zs ys xs i z x each all within is at = is ∙ mapped_or f g zs ys xs i z x each all within at

-- an element of a list with one element for each mode, at a name's place
pub mode_mapped : {Y : Type 0} (f : ModeDeclaration → Y) (p : GiottoProgram) (x : Name) (place : Option ℕ) → place ≡ place_from 0 (mode_names p) x
    → option_map f (mode_named p x) ≡ element_at (map f p.modes) place
mode_mapped f p x place e = ap (option_map f) (mode_at_place p x place e) ∙ at_place place
  where
    at_place : (k : Option ℕ) → option_map f (element_at p.modes k) ≡ element_at (map f p.modes) k
    at_place None = refl
    at_place (Some k) = sym (slice_get-map f p.modes k)

pub find_name : (names : List Name) (x : Name) → find (λ n. same_name n x) names ≡ cond (is_among names x) (Some x) None
find_name [] x = refl
find_name (n ∷ ns) x = at_head (same_name n x) refl (find_name ns x)
  where
    at_head : (b : Bool) → same_name n x ≡ b → find (λ m. same_name m x) ns ≡ cond (is_among ns x) (Some x) None
        → cond b (Some n) (find (λ m. same_name m x) ns) ≡ cond (b || is_among ns x) (Some x) None
    at_head true e rest = ap Some (same_name_is n x e)
    at_head false e rest = rest

-- a name is at its place
pub name_at_place : (names : List Name) (x : Name) (k : ℕ) → Some k ≡ place_from 0 names x → slice_get names k ≡ Some x
name_at_place names x k e =
    let there : true ≡ is_among names x = ap is_some e ∙ is_some-place_from 0 names x in
    ap (element_at names) e ∙ (sym (find_at_place (λ n. same_name n x) names) ∙ (find_name names x ∙ ap (λ b. cond b (Some x) None) (sym there)))

-- the period at a task's place decides whether the task is continued
pub goes_on_at_place : (p : GiottoProgram) (target x : Name) (k every : ℕ) (row : Option (List (Option ℕ))) → row ≡ option_map (periods_in p) (mode_named p target)
    → Some k ≡ place_from 0 (task_names p) x → is_period (period_at row k) every ≡ goes_on_with (mode_named p target) x every
goes_on_at_place p target x k every row e at = ap (λ r. is_period (period_at r k) every) e ∙ in_mode (mode_named p target)
  where
    in_mode : (m : Option ModeDeclaration) → is_period (period_at (option_map (periods_in p) m) k) every ≡ goes_on_with m x every
    in_mode None = refl
    in_mode (Some m) = ap (λ o. is_period (unwrap_or o None) every) (slice_get-map (period_of_task m) (task_names p) k ∙ ap (option_map (period_of_task m)) (name_at_place (task_names p) x k at))

pub share_no_output : (p : GiottoProgram) (ports : List (List Name)) → ports ≡ map (mode_ports p) p.modes → list_all all_different ports ≡ tasks_share_no_output p
share_no_output p ports e = ap (list_all all_different) e ∙ list_all-map all_different (mode_ports p) p.modes

-- no name is among none
pub none_among : {X : Type 0} (f : X → Name × Expression) (xs : List X) → are_among [] (map (λ d. d.0) (map f xs)) ≡ (length xs == 0)
none_among f [] = refl
none_among f (x ∷ xs) = sym (eqb-suc-zero (length xs))
