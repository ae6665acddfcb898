-- The names that a printable program declares contain no dot.
use Rattle.std.proofs.Common.{◌≡◌, ℕ, Bool, true, false, not, nat_eq, List, [], ◌∷◌, ◌++◌, map, refl, sym, subst, ◌∙◌}
use Rattle.std.specs.List.{list_all, flat_map}
use Rattle.std.proofs.lemmas.Bool.{and_parts, and_from, false≢true, eqb-true}
use Rattle.std.proofs.lemmas.List.Folds.{list_all-append}
use Rattle.giotto_tasks.specs.declared.names.Name.{Name}
use Rattle.giotto_tasks.proofs.cited.ListLemmas.{all_wider}
use Rattle.giotto_rules.specs.declared.text.tokens.Token.{Token}
use Rattle.giotto_rules.specs.text.Bytes.{is_letter, is_name_byte}
use Rattle.giotto_rules.specs.text.Canonical.{sensor_tokens, actuator_tokens, output_tokens, task_tokens}
use Rattle.giotto_rules.specs.text.Program.{SensorDeclaration, ActuatorDeclaration, OutputDeclaration, TaskDeclaration, GiottoProgram}
use Rattle.giotto_rules.specs.text.Sound.{is_sound_name, is_sound_token, IsPrintable, can_be_printed}
use Rattle.giotto_rules.specs.Declarations.{sensor_names, actuator_names, output_names, task_names, driver_ports}

-- a name in which no byte is a dot
abbrev pub has_no_dot : Name → Bool
has_no_dot x = list_all (λ c. not (nat_eq 46 c)) x

no_dot : (c : ℕ) → is_name_byte c ≡ true → not (nat_eq 46 c) ≡ true
no_dot c h = by (nat_eq 46 c) refl
  where
    by : (b : Bool) → nat_eq 46 c ≡ b → not b ≡ true
    by false e = refl
    by true e = let same : 46 ≡ c = eqb-true 46 c e in absurd (false≢true (subst (λ d. is_name_byte d ≡ true) (sym same) h))

letter_is_name_byte : (c : ℕ) → is_letter c ≡ true → is_name_byte c ≡ true
letter_is_name_byte c h = rw h refl

sound_has_no_dot : (x : Name) → is_sound_name x ≡ true → has_no_dot x ≡ true
sound_has_no_dot [] h = refl
sound_has_no_dot (c ∷ cs) h =
    let name = and_parts _ _ (and_parts _ _ h).0 in
    let bytes = and_parts _ _ name.0 in
    and_from _ _ (no_dot c (letter_is_name_byte c bytes.0)) (all_wider is_name_byte (λ c. not (nat_eq 46 c)) no_dot cs bytes.1)

-- names whose tokens are among sound ones
names_among : {X : Type 0} (tokens : X → List Token) (name : X → Name) → ((x : X) → list_all is_sound_token (tokens x) ≡ true → is_sound_name (name x) ≡ true)
    → (xs : List X) → list_all is_sound_token (flat_map tokens xs) ≡ true → list_all has_no_dot (map name xs) ≡ true
names_among tokens name means [] h = refl
names_among tokens name means (x ∷ xs) h =
    let both = and_parts _ _ (sym (list_all-append is_sound_token (tokens x) (flat_map tokens xs)) ∙ h) in
    and_from _ _ (sound_has_no_dot (name x) (means x both.0)) (names_among tokens name means xs both.1)

pub record HaveNoDots (p : GiottoProgram) : Type 0 where
  pub shared : list_all has_no_dot (driver_ports p) ≡ true
  pub tasks : list_all has_no_dot (task_names p) ≡ true

pub names_have_no_dots : (p : GiottoProgram) → IsPrintable p → HaveNoDots p
names_have_no_dots p (can_be_printed sound spelled shallow small) =
    let one = and_parts _ _ (sym (list_all-append is_sound_token (flat_map sensor_tokens p.sensors) _) ∙ sound) in
    let two = and_parts _ _ (sym (list_all-append is_sound_token (flat_map actuator_tokens p.actuators) _) ∙ one.1) in
    let three = and_parts _ _ (sym (list_all-append is_sound_token (flat_map output_tokens p.outputs) _) ∙ two.1) in
    let four = and_parts _ _ (sym (list_all-append is_sound_token (flat_map task_tokens p.tasks) _) ∙ three.1) in
    let sensors = names_among sensor_tokens (λ (s : SensorDeclaration). s.name) (λ s h. (and_parts (is_sound_name s.name) _ h).0) p.sensors one.0 in
    let actuators = names_among actuator_tokens (λ (a : ActuatorDeclaration). a.name) (λ a h. (and_parts (is_sound_name a.name) _ h).0) p.actuators two.0 in
    let outputs = names_among output_tokens (λ (o : OutputDeclaration). o.name) (λ o h. (and_parts (is_sound_name o.name) _ h).0) p.outputs three.0 in
    let others = list_all-append has_no_dot (actuator_names p) (output_names p) ∙ and_from _ _ actuators outputs in
    record {
      shared = list_all-append has_no_dot (sensor_names p) (actuator_names p ++ output_names p) ∙ and_from _ _ sensors others;
      tasks = names_among task_tokens (λ (t : TaskDeclaration). t.name) (λ t h. (and_parts (is_sound_name t.name) _ h).0) p.tasks four.0;
    }
