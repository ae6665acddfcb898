-- A mode's switches by the exits of its timetable, and their destinations by slots.
use Rattle.std.proofs.Common.{◌≡◌, ◌≢◌, ℕ, ◌<◌, ◌≤◌, ◌%◌, ◌==◌, nat_eq, Bool, true, false, not, cond, ◌&&◌, ◌||◌, ℤ, List, [], ◌∷◌, length, map, drop, get_or, set, Option, Some, None, ⊎_elim, refl, sym, ap, subst, ◌∙◌, arith}
use Rattle.std.specs.Prelude.{IsSomeAnd, slice_get}
use Rattle.std.specs.List.{AllByRecursion, find, list_any}
use Rattle.std.proofs.lemmas.Bool.{and_parts, and_from, or_left, or_right, false≢true, false_from_ne_true, eqb-true, eq-eqb}
use Rattle.std.proofs.lemmas.List.{set_comm}
use Rattle.std.proofs.lemmas.Option.{slice_get_cases}
use Rattle.giotto_tasks.specs.declared.names.Name.{Name}
use Rattle.giotto_tasks.specs.Meaning.{value_of}
use Rattle.giotto_tasks.specs.Names.{is_among, same_name}
use Rattle.giotto_tasks.specs.Sound.{all_different}
use Rattle.giotto_tasks.specs.Syntax.{Expression}
use Rattle.giotto_tasks.proofs.cited.ListLemmas.{found_has, some_same}
use Rattle.giotto_tasks.proofs.cited.NameLemmas.{same_name_self}
use Rattle.rig_model.specs.text.PortNames.{with_values}
use Rattle.rig_model.specs.text.Program.{ModeSwitch, ModeDeclaration, GiottoProgram}
use Rattle.rig_model.specs.rules.Declarations.{destinations_of}
use Rattle.rig_model.specs.rules.Names.{all_different_numbers}
use Rattle.giotto_check.specs.cited.Facts.{SwitchFits, ModeFits, ProgramFits}
use Rattle.rig_model.specs.rules.Ports.{slot_of}
use Rattle.giotto_check.specs.Slots.{valuation_of}
use Rattle.giotto_check.specs.cited.Slots.{slots_of, with_slots}
use Rattle.giotto_check.specs.cited.Timetables.{AreEach, IsDestination, IsExit, value_over}
use Rattle.giotto_check.specs.declared.timetables.SlotDestination.{SlotDestination}
use Rattle.giotto_check.specs.declared.timetables.SlotExit.{SlotExit}
use Rattle.giotto_check.proofs.cited.SlotLemmas.{name_at_slot}
use Rattle.rig_model.specs.Ports.{holds}
use Rattle.rig_model.specs.Switches.{is_open, switch_taken, with_destinations}
use Rattle.tenant_slots.specs.inner.Switches.{slots_given, values_given}
use Rattle.tenant_slots.proofs.cited.Numbered.{mode_fits_at}
use Rattle.tenant_slots.proofs.TaskValues.{all_within, all_written_at}

-- what a search finds in a list that begins with this item
pub found_first : {X : Type 0} (test : X → Bool) (all xs : List X) (x : X) → all ≡ x ∷ xs → test x ≡ true → find test all ≡ Some x
found_first test all xs x is e = ap (find test) is ∙ ap (λ b. cond b (Some x) (find test xs)) e

pub found_later : {X : Type 0} (test : X → Bool) (all xs : List X) (x : X) → all ≡ x ∷ xs → test x ≡ false → find test all ≡ find test xs
found_later test all xs x is e = ap (find test) is ∙ ap (λ b. cond b (Some x) (find test xs)) e

-- a switch can be taken if its exit is due and its guard holds
pub opens : (p : GiottoProgram) (m : ModeDeclaration) (time : ℕ) (s : ModeSwitch) (e : SlotExit) (values : List ℤ) (b : Bool) → IsExit p m s e
    → ((time % e.interval == 0) && holds s.guard (valuation_of p values)) ≡ b → is_open m time (valuation_of p values) s ≡ b
opens p m time s e values b is h = ap (λ n. (time % n == 0) && holds s.guard (valuation_of p values)) (sym is.interval) ∙ h

-- the switch that is taken has its exit
pub some_that : {X : Type 0} (P : X → Type 0) (o : Option X) → IsSomeAnd o P → (x : X) × (o ≡ Some x) × P x
some_that P None h = absurd h
some_that P (Some x) h = (x, refl, h)

-- a number that is written last could have been written first, if no other is written to its slot
pub written_last : (values : List ℤ) (k : ℕ) (z : ℤ) (ks : List ℕ) (zs : List ℤ) → list_any (nat_eq k) ks ≡ false → set (with_slots values ks zs) k z ≡ with_slots (set values k z) ks zs
written_last values k z [] zs none = refl
written_last values k z (j ∷ ks) [] none = refl
written_last values k z (j ∷ ks) (y ∷ zs) none =
    let other : j ≢ k = λ same. false≢true (sym none ∙ or_left (nat_eq k j) (list_any (nat_eq k) ks) (eq-eqb k j (sym same))) in
    let rest : list_any (nat_eq k) ks ≡ false = false_from_ne_true _ (λ e. false≢true (sym none ∙ or_right (nat_eq k j) (list_any (nat_eq k) ks) e)) in
    written_last (set values j y) k z ks zs rest ∙ ap (λ vs. with_slots vs ks zs) (set_comm values j k y z other)

pub given_first : (es : List SlotDestination) (e : SlotDestination) (values after : List ℤ) (z : ℤ) → 1 ≤ length es → e ≡ get_or es 0 e → all_different_numbers (slots_given es) ≡ true
    → after ≡ with_slots values (slots_given (drop 1 es)) (values_given (drop 1 es) values) → z ≡ value_over e.value values → set after e.output z ≡ with_slots values (slots_given es) (values_given es values)
given_first [] e values after z more is once rest here = absurd (omega (arith, more))
given_first (d ∷ ds) e values after z more is once rest here =
    let first = (and_parts (not (list_any (nat_eq d.output) (slots_given ds))) _ once).0 in
    let none : list_any (nat_eq d.output) (slots_given ds) ≡ false = false_from_ne_true _ (λ there. false≢true (ap not (sym there) ∙ first)) in
    let same : e ≡ d = is in
    let slot : e.output ≡ d.output = ap (λ (d : SlotDestination). d.output) same in
    let value : z ≡ value_over d.value values = here ∙ ap (λ (d : SlotDestination). value_over d.value values) same in
    ap (λ k. set after k z) slot ∙ ap (set after d.output) value ∙ ap (λ vs. set vs d.output (value_over d.value values)) rest
    ∙ written_last values d.output (value_over d.value values) (slots_given ds) (values_given ds values) none

module _ (p : GiottoProgram) where
  -- ports of different names have different slots
  one_name : (x y : Name) (k : ℕ) → slot_of p None x ≡ Some k → slot_of p None y ≡ Some k → same_name y x ≡ true
  one_name x y k at there =
      let same : y ≡ x = some_same y x (sym (name_at_slot p None y k there) ∙ name_at_slot p None x k at) in
      ap (same_name y) (sym same) ∙ same_name_self y

  among : (x : Name) (k : ℕ) (xs : List Name) (ks : List ℕ) → slot_of p None x ≡ Some k → map (slot_of p None) xs ≡ map Some ks → list_any (nat_eq k) ks ≡ true → is_among xs x ≡ true
  among x k [] [] at slots there = there
  among x k [] (j ∷ ks) at slots there = absurd (cc)
  among x k (y ∷ ys) [] at slots there = absurd (cc)
  among x k (y ∷ ys) (j ∷ ks) at slots there =
      let first : slot_of p None y ≡ Some j = cc in
      let rest : map (slot_of p None) ys ≡ map Some ks = cc in
      by first (nat_eq k j) refl there (among x k ys ks at rest)
    where
      by : slot_of p None y ≡ Some j → (b : Bool) → nat_eq k j ≡ b → (b || list_any (nat_eq k) ks) ≡ true → (list_any (nat_eq k) ks ≡ true → is_among ys x ≡ true) → is_among (y ∷ ys) x ≡ true
      by first true e h further = or_left (same_name y x) (is_among ys x) (one_name x y j (at ∙ ap Some (eqb-true k j e)) first)
      by first false e h further = or_right (same_name y x) (is_among ys x) (further h)

  pub slots_once : (xs : List Name) (ks : List ℕ) → all_different xs ≡ true → map (slot_of p None) xs ≡ map Some ks → all_different_numbers ks ≡ true
  slots_once [] [] once slots = refl
  slots_once [] (k ∷ ks) once slots = absurd (cc)
  slots_once (x ∷ xs) [] once slots = absurd (cc)
  slots_once (x ∷ xs) (k ∷ ks) once slots =
      let first : slot_of p None x ≡ Some k = cc in
      let rest : map (slot_of p None) xs ≡ map Some ks = cc in
      let both = and_parts (not (is_among xs x)) (all_different xs) once in
      let none : list_any (nat_eq k) ks ≡ false = false_from_ne_true _ (λ there. false≢true (ap not (sym (among x k xs ks first rest there)) ∙ both.0)) in
      and_from _ _ (ap not none) (slots_once xs ks both.1 rest)

  -- the slots of destinations
  pub given_slots : (ds : List (Name × Expression)) (es : List SlotDestination) → AreEach (IsDestination p) ds es → map (slot_of p None) (map (λ (d : Name × Expression). d.0) ds) ≡ map Some (slots_given es)
  given_slots [] [] each = refl
  given_slots [] (e ∷ es) each = absurd each
  given_slots (d ∷ ds) [] each = absurd each
  given_slots (d ∷ ds) (e ∷ es) each =
      let first = each.0.output in
      let rest = given_slots ds es each.1 in
      cc

  pub given_values : (values : List ℤ) → length values ≡ slots_of p → (ds : List (Name × Expression)) (es : List SlotDestination) → AreEach (IsDestination p) ds es
      → values_given es values ≡ map (λ (d : Name × Expression). value_of d.1 (valuation_of p values)) ds
  given_values values long [] [] each = refl
  given_values values long [] (e ∷ es) each = absurd each
  given_values values long (d ∷ ds) [] each = absurd each
  given_values values long (d ∷ ds) (e ∷ es) each =
      let first = each.0.value values long in
      let rest = given_values values long ds es each.1 in
      cc

  module _ (fits : ProgramFits p) (m : ModeDeclaration) (s : ModeSwitch) (e : SlotExit) (is : IsExit p m s e) where
    pub given_within : (n : ℕ) → n ≡ slots_of p → AllByRecursion (λ k. k < n) (slots_given e.destinations.items)
    given_within n long = all_within p n (destinations_of s) (slots_given e.destinations.items) long (given_slots s.destinations e.destinations.items is.destinations)

    pub given_once : SwitchFits p m s → all_different_numbers (slots_given e.destinations.items) ≡ true
    given_once f = slots_once (destinations_of s) (slots_given e.destinations.items) f.destinations_once (given_slots s.destinations e.destinations.items is.destinations)

    pub given : (values : List ℤ) → length values ≡ slots_of p
        → valuation_of p (with_slots values (slots_given e.destinations.items) (values_given e.destinations.items values)) ≡ with_destinations s (valuation_of p values)
    given values long =
        all_written_at p fits values long (destinations_of s) _ _ (given_slots s.destinations e.destinations.items is.destinations)
        ∙ ap (with_values (valuation_of p values) (destinations_of s)) (given_values values long s.destinations e.destinations.items is.destinations)

-- a switch that is taken in a well-formed mode is well-formed
pub taken_fits : (p : GiottoProgram) (m : ModeDeclaration) (time : ℕ) (s : ModeSwitch) (values : List ℤ) → ModeFits p m → switch_taken m time (valuation_of p values) ≡ Some s → SwitchFits p m s
taken_fits p m time s values f taken = found_has (SwitchFits p m) (is_open m time (valuation_of p values)) m.switches s f.switches taken

-- if there are no exits, none is taken
pub none_there : {C : Type 0} (p : GiottoProgram) (time : ℕ) (values : List ℤ) (es : List SlotExit) (e : SlotExit) → length values ≡ slots_of p → es ≡ []
    → ((q : GiottoProgram) (m : ModeDeclaration) → AreEach (IsExit q m) m.switches es → length values ≡ slots_of q → IsSomeAnd (switch_taken m time (valuation_of q values)) (λ s. IsExit q m s e)) → C
none_there p time values es e long none found =
    let idle : ModeDeclaration = record { name = []; period = 0; updates = []; switches = []; invocations = [] } in
    absurd (found p idle (subst (AreEach (IsExit p idle) []) (sym none) tt) long)

-- if an exit is taken, its mode exists, and the exit is that of a well-formed switch
pub taken_there : (p : GiottoProgram) → ProgramFits p → (mode time : ℕ) (values : List ℤ) (es : List SlotExit) (e : SlotExit) → length values ≡ slots_of p
    → ((m : ModeDeclaration) → slice_get p.modes mode ≡ Some m → AreEach (IsExit p m) m.switches es) → (length p.modes ≤ mode → es ≡ [])
    → ((q : GiottoProgram) (m : ModeDeclaration) → AreEach (IsExit q m) m.switches es → length values ≡ slots_of q → IsSomeAnd (switch_taken m time (valuation_of q values)) (λ s. IsExit q m s e))
    → (m : ModeDeclaration) × (s : ModeSwitch) × IsExit p m s e × SwitchFits p m s
taken_there p fits mode time values es e long there none found = ⊎_elim
    (λ here.
    let m = here.0 in
    let taken = some_that (λ (s : ModeSwitch). IsExit p m s e) (switch_taken m time (valuation_of p values)) (found p m (there m here.2) long) in
    (m, taken.0, taken.2, taken_fits p m time taken.0 values (mode_fits_at p fits mode m here.2) taken.1))
    (λ past. none_there p time values es e long (none past.0) found) (slice_get_cases p.modes mode).1
