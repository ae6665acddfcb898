-- The commands that are kept, one command further.
use Rattle.std.proofs.Common.{◌≡◌, ◌||◌, ◌∙◌, ℕ, Bool, true, false, true≢false, if◌then◌else◌, is_some, option_map, String, string_bytes, List, [], ◌∷◌, ◌++◌, Option, Some, None, refl, sym, ap, subst, append_assoc, append-nil}
use Rattle.std.proofs.lemmas.List.{flat_map_more}
use Rattle.std.proofs.lemmas.List.Concat.{flat_map-append}
use Rattle.std.proofs.lemmas.List.Folds.{list_any-append}
use Rattle.std.specs.List.{flat_map, list_any}
use Rattle.giotto_tasks.specs.declared.names.Name.{Name}
use Rattle.rig_model.specs.config.Roster.{Rig, name_at, place_of}
use Rattle.rig_model.specs.declared.lines.grant_lines.GrantCommand.TheVariants.{Offer, Unoffer, Bind, Unbind, Rows}
use Rattle.script_checks.specs.Grants.{Told, facts_of, first_of, is_said, note_of, note_of_bind, note_of_sensor, note_of_supplier, note_on, notes_on, same_fact}
use Rattle.script_checks.specs.declared.binds.GrantLines.{GrantLines}
use Rattle.script_checks.specs.declared.binds.Noted.{Noted}
use Rattle.script_checks.specs.declared.binds.Said.{Said}
use Rattle.script_checks.specs.declared.binds.What.{What}
use Rattle.script_checks.specs.declared.binds.What.TheVariants.{Program, Grants}
use Rattle.script_checks.specs.declared.facts.Fact.{Fact}
use Rattle.script_checks.specs.declared.facts.Fact.TheVariants.{GrantSensor, LineSensor, Actuator, Offered}
use Rattle.script_checks.specs.inner.Facts.{AreKept, Gains, HasNone, has_fact, notes_kept}
use Rattle.script_checks.proofs.FactSets.{said_by, said_more}

noted : (b : Bool) (v w : List ℕ) → (if b then Some v else Some w) ≡ None → ⊥
noted true v w e = true≢false (ap is_some e)
noted false v w e = true≢false (ap is_some e)

first_none : (x y : Option (List ℕ)) → first_of x y ≡ None → (x ≡ None) × (y ≡ None)
first_none None y e = (refl, e)
first_none (Some words) y e = absurd (true≢false (ap is_some e))

-- a command that gets no note gets none if more is given
module _ (config : Rig) (given more : Fact → Bool) (is_more : (f : Fact) → given f ≡ true → more f ≡ true) where
  sensor_still : (t : ℕ) (sensor : Name) → note_of_sensor given t sensor ≡ None → note_of_sensor more t sensor ≡ None
  sensor_still t sensor none = by (given (GrantSensor t sensor)) refl
    where
      by : (b : Bool) → given (GrantSensor t sensor) ≡ b → note_of_sensor more t sensor ≡ None
      by true e = rw (is_more (GrantSensor t sensor) e) refl
      by false e = absurd (noted (given (LineSensor t sensor)) _ _ (rw e at none))

  supplier_still : (t supplier : ℕ) (actuator : Name) → note_of_supplier config given t supplier actuator ≡ None → note_of_supplier config more t supplier actuator ≡ None
  supplier_still t supplier actuator none = by (given driven) refl (given offered) refl
    where
      driven : Fact
      driven = Actuator supplier actuator

      offered : Fact
      offered = Offered supplier actuator (name_at config t)

      by : (b : Bool) → given driven ≡ b → (o : Bool) → given offered ≡ o → note_of_supplier config more t supplier actuator ≡ None
      by true e true f = rw (is_more driven e, is_more offered f) refl
      by true e false f = absurd (true≢false (ap is_some (rw (e, f) at none)))
      by false e o f = absurd (true≢false (ap is_some (rw e at none)))

  bind_still : (t : ℕ) (sensor name actuator : Name) (place : Option ℕ) → note_of_bind config given t sensor name actuator place ≡ None → note_of_bind config more t sensor name actuator place ≡ None
  bind_still t sensor name actuator None none = none
  bind_still t sensor name actuator (Some supplier) none =
      let both = first_none _ _ none in
      λ k. first_of (sensor_still t sensor both.0 k) (supplier_still t supplier actuator both.1 k)

  note_still : (one : Said) → note_of config given one ≡ None → note_of config more one ≡ None
  note_still one none = by one.what refl
    where
      by : (w : What) → one.what ≡ w → note_of config more one ≡ None
      by (Program p) e = rw e refl
      by (Grants (Offer actuator name bounds)) e = rw e (rw e at none)
      by (Grants (Unoffer actuator name)) e = rw e refl
      by (Grants (Bind sensor name actuator)) e = rw e (bind_still one.tenant sensor name actuator (place_of config name) (rw e at none))
      by (Grants (Unbind sensor)) e = rw e refl
      by (Grants Rows) e = rw e refl

  no_note_on : (one : Said) → note_of config given one ≡ None → note_on config more one ≡ []
  no_note_on one none = rw (note_still one none) refl

still_said : (said more : List Said) (f : Fact) → is_said said f ≡ true → is_said (said ++ more) f ≡ true
still_said said more f is =
    let all = ap (list_any (same_fact f)) (flat_map-append said_by said more) ∙ list_any-append (same_fact f) (flat_map said_by said) (flat_map said_by more) in
    all ∙ ap (λ b. b || is_said more f) is

-- no command
pub kept_none : (config : Rig) (lines : GrantLines) → HasNone lines.facts → lines.noted.items ≡ [] → AreKept config [] lines
kept_none config lines none empty = (λ k f. none f k, λ more. ap (flat_map (λ (noted : Noted). note_on config (is_said more) noted.said)) empty)

module _ (config : Rig) (said : List Said) (one : Said) (a b : GrantLines) (kept : AreKept config said a) (gains : Gains (facts_of one.tenant one.what) a.facts b.facts) where
  abbrev pub both : List Said
  both = said ++ one ∷ []

  here : has_fact b.facts ≡ is_said both
  here = said_more said one a.facts b.facts kept.0 gains

  -- the notes on those that were kept before, if more is said
  before : (more : List Said) → notes_kept config (is_said (both ++ more)) a ≡ flat_map (note_on config (is_said (both ++ more))) said
  before more = subst (λ (l : List Said). notes_kept config (is_said l) a ≡ flat_map (note_on config (is_said l)) said) (sym (append_assoc said (one ∷ []) more)) (kept.1 (one ∷ more))

  -- a command without a note
  pub kept_without : b.noted.items ≡ a.noted.items → note_of config (has_fact b.facts) one ≡ None → AreKept config both b
  kept_without same none = (
    here,
    λ more.
        let at : Said → List Told = note_on config (is_said (both ++ more)) in
        let nothing : at one ≡ [] = no_note_on config (is_said both) (is_said (both ++ more)) (still_said both more) one (ap (λ given. note_of config given one) (sym here) ∙ none) in
        ap (flat_map (λ (noted : Noted). at noted.said)) same
        ∙ (before more ∙ (sym (append-nil (flat_map at said)) ∙ (ap (λ l. flat_map at said ++ l) (sym nothing) ∙ flat_map_more at [] said one))),
  )

  -- a command with a note
  pub kept_with : (noted : Noted) → noted.said ≡ one → b.noted.items ≡ a.noted.items ++ noted ∷ [] → AreKept config both b
  kept_with noted is pushed = (
    here,
    λ more.
        let at : Said → List Told = note_on config (is_said (both ++ more)) in
        let at_noted : Noted → List Told = λ n. at n.said in
        ap (flat_map at_noted) pushed
        ∙ (sym (flat_map_more at_noted [] a.noted.items noted) ∙ ((λ k. before more k ++ at (is k)) ∙ flat_map_more at [] said one)),
  )

-- a note that has no words is none
pub no_words : {A : Type 0} (o : Option (String A)) (given : Option (List ℕ)) → option_map string_bytes o ≡ given → is_some o ≡ false → given ≡ None
no_words None given is none = sym is
no_words (Some words) given is none = absurd (true≢false none)

-- the notes that are kept are those on all commands
pub notes_of_kept : (config : Rig) (said : List Said) (lines : GrantLines) → AreKept config said lines → notes_kept config (has_fact lines.facts) lines ≡ notes_on config said
notes_of_kept config said lines kept =
    ap (λ given. notes_kept config given lines) kept.0
    ∙ subst (λ (l : List Said). notes_kept config (is_said l) lines ≡ flat_map (note_on config (is_said l)) said) (append-nil said) (kept.1 [])
