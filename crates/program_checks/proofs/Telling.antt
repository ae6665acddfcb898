-- The findings about a budget, with one more.
use Rattle.std.proofs.Common.{◌≡◌, ◌+◌, ◌<◌, ℕ, List, [], ◌∷◌, ◌++◌, length, map, take, get_or, Option, Some, None, refl, sym, ap, subst, ◌∙◌, append_assoc, append-nil, nat_le, false, arith}
use Rattle.std.specs.List.{flat_map}
use Rattle.std.proofs.lemmas.Bool.Decides.{nat_tests}
use Rattle.std.proofs.lemmas.List.{flat_map_more, map-append, take_more}
use Rattle.std.proofs.lemmas.List.Concat.{flat_map-append}
use Rattle.std.proofs.lemmas.List.Folds.{flat_map-map}
use Rattle.giotto_reports.specs.Parts.{ProgramPart, body, drivers_of, invocation, parts_of, steps_of_part, switch, update}
use Rattle.rig_model.specs.text.Program.{GiottoProgram}
use Rattle.rig_model.specs.text.ProgramTrees.{invocation_of, mode_of, switch_of, task_of, update_of}
use Rattle.rig_model.specs.declared.text.programs.Invocation.{Invocation}
use Rattle.rig_model.specs.declared.text.programs.Mode.{Mode}
use Rattle.rig_model.specs.declared.text.programs.Switch.{Switch}
use Rattle.rig_model.specs.declared.text.programs.Task.{Task}
use Rattle.rig_model.specs.declared.text.programs.Update.{Update}
use Rattle.rig_model.specs.declared.config.TenantConfig.{TenantConfig}
use Rattle.giotto_faults.specs.declared.findings.Finding.{Finding}
use Rattle.giotto_faults.specs.declared.findings.Severity.{Severity}
use Rattle.giotto_faults.specs.declared.findings.Severity.TheVariants.{Error}
use Rattle.rig_model.specs.declared.lines.replies.Budget.{Budget}
use Rattle.program_checks.specs.Excess.{errors_over, rule_of_budget, told_of, words_of_cost, words_of_part}
use Rattle.program_checks.specs.inner.Telling.{AreTold}

abbrev pub Told : Type 0
Told = Severity × (List ℕ × Option (List ℕ))

module _ (budget : Budget) where
  -- the first finding names the budget
  pub first_told : (f : Finding) (m : List ℕ) (before after : List Finding) → before ≡ [] → after ≡ before ++ f ∷ []
      → told_of f ≡ (Error, (m, Some (rule_of_budget budget))) → AreTold budget (m ∷ []) before after
  first_told f m before after none grown is words over = by words (ap (map told_of) (sym none) ∙ over)
    where
      told : map told_of after ≡ errors_over budget (m ∷ [])
      told = ap (map told_of) (grown ∙ ap (λ (fs : List Finding). fs ++ f ∷ []) none) ∙ ap (λ (t : Told). t ∷ []) is

      by : (ws : List (List ℕ)) → [] ≡ errors_over budget ws → map told_of after ≡ errors_over budget (ws ++ m ∷ [])
      by [] e = told
      by (w ∷ ws) e = absurd (cc)

  -- a later one names no rule
  pub later_told : (f : Finding) (m : List ℕ) (before after : List Finding) → (before ≡ [] → ⊥) → after ≡ before ++ f ∷ []
      → told_of f ≡ (Error, (m, None)) → AreTold budget (m ∷ []) before after
  later_told f m before after some grown is words over = by words over
    where
      empty : (fs : List Finding) → map told_of fs ≡ [] → fs ≡ []
      empty [] e = refl
      empty (g ∷ gs) e = absurd (cc)

      plain : List ℕ → Told
      plain more = (Error, (more, None))

      by : (ws : List (List ℕ)) → map told_of before ≡ errors_over budget ws → map told_of after ≡ errors_over budget (ws ++ m ∷ [])
      by [] e = absurd (some (empty before e))
      by (w ∷ ws) e =
          ap (map told_of) grown ∙ (map-append told_of before (f ∷ []) ∙ (ap (λ (ts : List Told). ts ++ told_of f ∷ []) e
          ∙ (ap (λ (t : Told). errors_over budget (w ∷ ws) ++ t ∷ []) is ∙ ap (λ (ts : List Told). (Error, (w, Some (rule_of_budget budget))) ∷ ts) (sym (map-append plain ws (m ∷ []))))))

  pub none_told : (before : List Finding) → AreTold budget [] before before
  none_told before words over = over ∙ ap (errors_over budget) (sym (append-nil words))

  pub both_told : (xs ys : List (List ℕ)) (before between after : List Finding) → AreTold budget xs before between → AreTold budget ys between after → AreTold budget (xs ++ ys) before after
  both_told xs ys before between after first second words over = second (words ++ xs) (first words over) ∙ ap (errors_over budget) (append_assoc words xs ys)

  -- a loop over a list, one element further
  pub told_further : {X : Type 0} (words_of : X → List (List ℕ)) (xs : List X) (i : ℕ) (x : X) (first before after : List Finding) → AreTold budget (flat_map words_of (take i xs)) first before
      → i < length xs → x ≡ get_or xs i x → AreTold budget (words_of x) before after → AreTold budget (flat_map words_of (take (i + 1) xs)) first after
  told_further words_of xs i x first before after so_far within item here =
      let taken : take i xs ++ x ∷ [] ≡ take (i + 1) xs = sym (take_more xs i x within ∙ ap (λ y. take i xs ++ y ∷ []) (sym item)) in
      let more : flat_map words_of (take i xs) ++ words_of x ≡ flat_map words_of (take (i + 1) xs) = flat_map_more words_of [] (take i xs) x ∙ ap (flat_map words_of) taken in
      subst (λ (ws : List (List ℕ)). AreTold budget ws first after) more (both_told (flat_map words_of (take i xs)) (words_of x) first before after so_far here)

-- the words about a part that costs more than the budget
pub costly : (tenant : TenantConfig) (part : ProgramPart) (cost : ℕ) (words : List ℕ) → cost ≡ steps_of_part part → tenant.budgets.steps < cost → words ≡ words_of_cost tenant part → words ∷ [] ≡ words_of_part tenant part
costly tenant part cost words is above said =
    let no : nat_le (steps_of_part part) tenant.budgets.steps ≡ false = grind (arith, nat_tests, is, above) in
    rw (no, said) refl

module _ {M : Type 0} (words : ProgramPart → List M) where
  twice : {X : Type 0} (parts : X → List ProgramPart) (xs : List X) → flat_map words (flat_map parts xs) ≡ flat_map (λ x. flat_map words (parts x)) xs
  twice parts [] = refl
  twice parts (x ∷ xs) = flat_map-append words (parts x) (flat_map parts xs) ∙ ap (λ (l : List M). flat_map words (parts x) ++ l) (twice parts xs)

  -- a part for each element
  each : {X Y : Type 0} (part : Y → ProgramPart) (tree : X → Y) (xs : List X) → flat_map words (map part (map tree xs)) ≡ flat_map (λ x. words (part (tree x))) xs
  each part tree xs = flat_map-map words part (map tree xs) ∙ flat_map-map (λ y. words (part y)) tree xs

  both : (a b : List ProgramPart) (x y : List M) → flat_map words a ≡ x → flat_map words b ≡ y → flat_map words (a ++ b) ≡ x ++ y
  both a b x y first second = flat_map-append words a b ∙ (ap (λ (l : List M). l ++ flat_map words b) first ∙ ap (λ (l : List M). x ++ l) second)

  -- the drivers of a mode
  pub all_drivers : (m : Mode) → flat_map (λ (u : Update). words (update (mode_of m) (update_of u))) m.updates ++ (flat_map (λ (s : Switch). words (switch (mode_of m) (switch_of s))) m.switches
      ++ flat_map (λ (i : Invocation). words (invocation (mode_of m) (invocation_of i))) m.invocations) ≡ flat_map words (drivers_of (mode_of m))
  all_drivers m =
      let updates = each (update (mode_of m)) update_of m.updates in
      let switches = each (switch (mode_of m)) switch_of m.switches in
      let invocations = each (invocation (mode_of m)) invocation_of m.invocations in
      sym (both _ _ _ _ updates (both _ _ _ _ switches invocations))

  -- the parts of a program
  pub all_parts : (p : GiottoProgram) (ts : List Task) (ms : List Mode) → map task_of ts ≡ p.tasks → map mode_of ms ≡ p.modes
      → flat_map (λ (t : Task). words (body (task_of t))) ts ++ flat_map (λ (m : Mode). flat_map words (drivers_of (mode_of m))) ms ≡ flat_map words (parts_of p)
  all_parts p ts ms tasks modes =
      let bodies = ap (λ l. flat_map words (map body l)) (sym tasks) ∙ each body task_of ts in
      let drivers = ap (λ l. flat_map words (flat_map drivers_of l)) (sym modes) ∙ (twice drivers_of (map mode_of ms) ∙ flat_map-map (λ m. flat_map words (drivers_of m)) mode_of ms) in
      sym (both (map body p.tasks) (flat_map drivers_of p.modes) _ _ bodies drivers)

grown : (x f y g z : List ℕ) → y ≡ x ++ f → z ≡ y ++ g → z ≡ x ++ (f ++ g)
grown x f y g z first second = second ∙ (ap (λ (l : List ℕ). l ++ g) first ∙ append_assoc x f g)

-- a text to which others were added one after another
pub joined : (a b c d e f g t u v w x y z : List ℕ) → t ≡ a → u ≡ t ++ b → v ≡ u ++ c → w ≡ v ++ d → x ≡ w ++ e → y ≡ x ++ f → z ≡ y ++ g → z ≡ a ++ (b ++ (c ++ (d ++ (e ++ (f ++ g)))))
joined a b c d e f g t u v w x y z first second third fourth fifth sixth last =
    let from_x = grown x f y g z sixth last in
    let from_w = grown w e x (f ++ g) z fifth from_x in
    let from_v = grown v d w (e ++ (f ++ g)) z fourth from_w in
    let from_u = grown u c v (d ++ (e ++ (f ++ g))) z third from_v in
    let from_t = grown t b u (c ++ (d ++ (e ++ (f ++ g)))) z second from_u in
    from_t ∙ ap (λ (l : List ℕ). l ++ (b ++ (c ++ (d ++ (e ++ (f ++ g)))))) first
