-- No two ports of a well-formed program have the same displayed name.
use Rattle.std.proofs.Common.{◌≡◌, Bool, true, false, not, ◌&&◌, nat_eq, List, [], ◌∷◌, ◌++◌, map, refl, sym, ap, subst, ◌∙◌, append_assoc}
use Rattle.std.specs.List.{list_all, flat_map}
use Rattle.std.proofs.lemmas.Bool.{and_parts, and_from, or_left, or_right, false≢true}
use Rattle.std.proofs.lemmas.List.{map-append}
use Rattle.std.proofs.lemmas.List.Folds.{list_all-append}
use Rattle.giotto_tasks.specs.declared.names.Name.{Name}
use Rattle.giotto_tasks.specs.Names.{same_name, is_among}
use Rattle.giotto_tasks.specs.Sound.{all_different}
use Rattle.giotto_tasks.proofs.cited.ListLemmas.{all_wider}
use Rattle.giotto_tasks.proofs.cited.NameLemmas.{same_name_is, same_name_self, is_among-append, among_passes, all_different-append, different_joined, different_first}
use Rattle.giotto_tasks.proofs.cited.TestLemmas.{either}
use Rattle.giotto_rules.specs.text.PortNames.{own_port, own_ports}
use Rattle.giotto_rules.specs.text.Program.{TaskDeclaration, GiottoProgram, names_of, body_of}
use Rattle.giotto_rules.specs.Declarations.{sensor_names, actuator_names, output_names, task_names, mode_names, driver_ports, declared_names}
use Rattle.giotto_rules.specs.TaskPorts.{declares_own}
use Rattle.giotto_rules.specs.Ports.{shared_port, task_port, shown_name, ports_of_task}
use Rattle.giotto_check.specs.Slots.{port_names}
use Rattle.giotto_check.proofs.SoundNames.{has_no_dot, HaveNoDots}

-- a test that can't succeed fails
refuted : (b : Bool) → (b ≡ true → false ≡ true) → not b ≡ true
refuted false f = refl
refuted true f = f refl

-- a name before a dot

-- the first dot ends the task's name
pub before_dot : (t u x y : Name) → has_no_dot t ≡ true → has_no_dot u ≡ true → own_port t x ≡ own_port u y → (t ≡ u) × (x ≡ y)
before_dot [] [] x y h k e = (refl, cc)
before_dot [] (d ∷ u) x y h k e = let same : 46 ≡ d = cc in absurd (false≢true (subst (λ c. has_no_dot (c ∷ u) ≡ true) (sym same) k))
before_dot (c ∷ t) [] x y h k e = let same : c ≡ 46 = cc in absurd (false≢true (subst (λ c. has_no_dot (c ∷ t) ≡ true) same h))
before_dot (c ∷ t) (d ∷ u) x y h k e =
    let first : c ≡ d = cc in
    let others : own_port t x ≡ own_port u y = cc in
    let left = and_parts (not (nat_eq 46 c)) (has_no_dot t) h in
    let right = and_parts (not (nat_eq 46 d)) (has_no_dot u) k in
    let rest = before_dot t u x y left.1 right.1 others in
    (ap (λ b. b ∷ t) first ∙ ap (λ bs. d ∷ bs) rest.0, rest.1)

pub dotted : (t x : Name) → not (has_no_dot (own_port t x)) ≡ true
dotted [] x = refl
dotted (c ∷ t) x = by (not (nat_eq 46 c)) (dotted t x)
  where
    by : (b : Bool) → not (has_no_dot (own_port t x)) ≡ true → not (b && has_no_dot (own_port t x)) ≡ true
    by true h = h
    by false h = refl

-- the ports of tasks, by name

-- a task's inputs and states
abbrev pub own_names : TaskDeclaration → List Name
own_names t = t.inputs ++ names_of t.states

abbrev pub shown_of_task : TaskDeclaration → List Name
shown_of_task t = own_ports t.name (own_names t)

own_dotted : (t : Name) (xs : List Name) → list_all (λ y. not (has_no_dot y)) (own_ports t xs) ≡ true
own_dotted t [] = refl
own_dotted t (x ∷ xs) = and_from _ _ (dotted t x) (own_dotted t xs)

-- if a port of one task is among the ports of another, the tasks have the same name
one_owner : (t u x : Name) (ys : List Name) → has_no_dot t ≡ true → has_no_dot u ≡ true → is_among (own_ports u ys) (own_port t x) ≡ true
    → (t ≡ u) × (is_among ys x ≡ true)
one_owner t u x [] h k e = absurd (false≢true e)
one_owner t u x (y ∷ ys) h k e =
    either (same_name (own_port u y) (own_port t x)) (is_among (own_ports u ys) (own_port t x)) _ e
    (λ same. let parts = before_dot u t y x k h (same_name_is _ _ same) in
    (sym parts.0, subst (λ z. is_among (y ∷ ys) z ≡ true) parts.1 (or_left _ _ (same_name_self y))))
    (λ later. let found = one_owner t u x ys h k later in (found.0, or_right (same_name y x) _ found.1))

own_different : (t : Name) (xs : List Name) → has_no_dot t ≡ true → all_different xs ≡ true → all_different (own_ports t xs) ≡ true
own_different t [] h d = refl
own_different t (x ∷ xs) h d =
    let both = and_parts (not (is_among xs x)) (all_different xs) d in
    and_from _ _ (refuted (is_among (own_ports t xs) (own_port t x)) (λ e. ap not (sym (one_owner t t x xs h h e).1) ∙ both.0)) (own_different t xs h both.1)

-- if some tasks have a task's port, the task is among them
owner_among : (t x : Name) (us : List TaskDeclaration) → has_no_dot t ≡ true → list_all has_no_dot (map (λ (u : TaskDeclaration). u.name) us) ≡ true
    → is_among (flat_map shown_of_task us) (own_port t x) ≡ true → is_among (map (λ (u : TaskDeclaration). u.name) us) t ≡ true
owner_among t x [] h k e = absurd (false≢true e)
owner_among t x (u ∷ us) h k e =
    let none = and_parts (has_no_dot u.name) _ k in
    either _ _ _ (sym (is_among-append (shown_of_task u) (flat_map shown_of_task us) (own_port t x)) ∙ e)
    (λ here. or_left _ _ (subst (λ z. same_name u.name z ≡ true) (sym (one_owner t u.name x _ h none.0 here).0) (same_name_self u.name)))
    (λ later. or_right (same_name u.name t) _ (owner_among t x us h none.1 later))

-- a task's ports aren't among those of tasks with other names
apart_from_others : (t : Name) (us : List TaskDeclaration) (xs : List Name) → has_no_dot t ≡ true → list_all has_no_dot (map (λ (u : TaskDeclaration). u.name) us) ≡ true
    → not (is_among (map (λ (u : TaskDeclaration). u.name) us) t) ≡ true → list_all (λ y. not (is_among (flat_map shown_of_task us) y)) (own_ports t xs) ≡ true
apart_from_others t us [] h k n = refl
apart_from_others t us (x ∷ xs) h k n =
    and_from _ _ (refuted (is_among (flat_map shown_of_task us) (own_port t x)) (λ e. ap not (sym (owner_among t x us h k e)) ∙ n)) (apart_from_others t us xs h k n)

tasks_different : (declared : List Name) (ts : List TaskDeclaration) → list_all has_no_dot (map (λ (t : TaskDeclaration). t.name) ts) ≡ true
    → all_different (map (λ (t : TaskDeclaration). t.name) ts) ≡ true → list_all (λ t. declares_own declared (body_of t)) ts ≡ true → all_different (flat_map shown_of_task ts) ≡ true
tasks_different declared [] h d own = refl
tasks_different declared (t ∷ ts) h d own =
    let none = and_parts (has_no_dot t.name) _ h in
    let names = and_parts _ _ d in
    let both = and_parts (declares_own declared (body_of t)) _ own in
    let mine = and_parts _ _ (and_parts _ _ both.0).1 in
    different_joined (shown_of_task t) (flat_map shown_of_task ts) (own_different t.name (own_names t) none.0 mine.0)
    (tasks_different declared ts none.1 names.1 both.1) (apart_from_others t.name ts (own_names t) none.0 none.1 names.0)

-- all ports, by name

tasks_dotted : (ts : List TaskDeclaration) → list_all (λ y. not (has_no_dot y)) (flat_map shown_of_task ts) ≡ true
tasks_dotted [] = refl
tasks_dotted (t ∷ ts) =
    list_all-append (λ y. not (has_no_dot y)) (shown_of_task t) (flat_map shown_of_task ts) ∙ and_from _ _ (own_dotted t.name (own_names t)) (tasks_dotted ts)

-- names with a dot aren't among names without a dot
undotted_apart : (xs ys : List Name) → list_all has_no_dot xs ≡ true → list_all (λ y. not (has_no_dot y)) ys ≡ true → list_all (λ x. not (is_among ys x)) xs ≡ true
undotted_apart xs ys h k =
    all_wider has_no_dot (λ x. not (is_among ys x)) (λ x e. refuted (is_among ys x) (λ there. ap not (sym e) ∙ among_passes (λ y. not (has_no_dot y)) ys x k there)) xs h

shared_shown : (xs : List Name) → map shown_name (map shared_port xs) ≡ xs
shared_shown [] = refl
shared_shown (x ∷ xs) = ap (λ ys. x ∷ ys) (shared_shown xs)

own_shown : (t : Name) (xs : List Name) → map shown_name (map (task_port t) xs) ≡ own_ports t xs
own_shown t [] = refl
own_shown t (x ∷ xs) = ap (λ ys. own_port t x ∷ ys) (own_shown t xs)

tasks_shown : (ts : List TaskDeclaration) → map shown_name (flat_map ports_of_task ts) ≡ flat_map shown_of_task ts
tasks_shown [] = refl
tasks_shown (t ∷ ts) =
    map-append shown_name (ports_of_task t) (flat_map ports_of_task ts)
    ∙ ap (λ ys. ys ++ map shown_name (flat_map ports_of_task ts)) (own_shown t.name (own_names t)) ∙ ap (λ ys. shown_of_task t ++ ys) (tasks_shown ts)

pub all_shown : (p : GiottoProgram) → port_names p ≡ driver_ports p ++ flat_map shown_of_task p.tasks
all_shown p =
    map-append shown_name (map shared_port (driver_ports p)) (flat_map ports_of_task p.tasks)
    ∙ ap (λ ys. ys ++ map shown_name (flat_map ports_of_task p.tasks)) (shared_shown (driver_ports p)) ∙ ap (λ ys. driver_ports p ++ ys) (tasks_shown p.tasks)

pub ports_different : (p : GiottoProgram) → HaveNoDots p → all_different (declared_names p) ≡ true → list_all (λ t. declares_own (declared_names p) (body_of t)) p.tasks ≡ true
    → all_different (port_names p) ≡ true
ports_different p none declared own =
    let others = task_names p ++ mode_names p in
    let parted : declared_names p ≡ driver_ports p ++ others =
    sym (append_assoc (sensor_names p) (actuator_names p ++ output_names p) others ∙ ap (λ ns. sensor_names p ++ ns) (append_assoc (actuator_names p) (output_names p) others)) in
    let shared = and_parts _ _ (sym (all_different-append (driver_ports p) others) ∙ subst (λ ns. all_different ns ≡ true) parted declared) in
    let tasks = different_first (task_names p) (mode_names p) (and_parts _ _ shared.1).0 in
    ap all_different (all_shown p)
    ∙ different_joined (driver_ports p) (flat_map shown_of_task p.tasks) shared.0
    (tasks_different (declared_names p) p.tasks none.tasks tasks own) (undotted_apart (driver_ports p) (flat_map shown_of_task p.tasks) none.shared (tasks_dotted p.tasks))
