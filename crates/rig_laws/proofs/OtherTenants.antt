-- A tenant that is nowhere in a list a source of another tenant: none of its events is kept for the other tenant, whatever they are.
use Rattle.std.proofs.Common.{◌≡◌, ℕ, ⊎_elim, ◌⊎◌, inl, inr, Bool, true, false, cond, not, ◌||◌, eqb, ℤ, List, [], ◌∷◌, ◌++◌, refl, sym, ap, ◌∙◌, subst, append-nil}
use Rattle.std.specs.List.{flat_map}
use Rattle.std.proofs.lemmas.Bool.{false_from_ne_true, eq-eqb}
use Rattle.rig_model.specs.declared.events.Event.{Event}
use Rattle.rig_model.specs.declared.events.Event.TheVariants.{Own, Tick, Done}
use Rattle.rig_model.specs.Answers.{answers_of}
use Rattle.rig_model.specs.Base.{Setting}
use Rattle.rig_model.specs.Sources.{is_source, without_tenant, suppliers_of, sources_before, sources_from, sources_of, kept_from, kept_of}
use Rattle.rig_model.specs.Views.{row_of}
use Rattle.rig_laws.proofs.cited.TwoWorlds.{source_of_both, in_front, behind, same_place, each_has, source_of_end, kept_rows, kept_answers}
use Rattle.giotto_tasks.proofs.cited.TestLemmas.{either, or_true}

-- the flattened lists are equal if the lists are equal for each of these sources
flat_same : (f g : ℕ → List ℕ) (sources : List ℕ) → ((v : ℕ) → is_source sources v ≡ true → f v ≡ g v) → flat_map f sources ≡ flat_map g sources
flat_same f g [] same = refl
flat_same f g (s ∷ sources) same =
    let here = same s (ap (λ b. b || is_source sources s) (eq-eqb s s refl)) in
    let rest = flat_same f g sources (λ v e. same v (ap (λ b. eqb s v || b) e ∙ or_true (eqb s v))) in
    λ k. here k ++ rest k

-- the sources in the flattened lists of some tenants are among those of more tenants
flat_more : (f : ℕ → List ℕ) (sources others : List ℕ) (u : ℕ) → ((v : ℕ) → is_source sources v ≡ true → is_source others v ≡ true)
    → is_source (flat_map f sources) u ≡ true → is_source (flat_map f others) u ≡ true
flat_more f [] others u more e = absurd (cc)
flat_more f (s ∷ sources) others u more e =
    either (is_source (f s) u) (is_source (flat_map f sources) u) _ (sym (source_of_both (f s) (flat_map f sources) u) ∙ e)
    (λ h. each_has f others s u (more s (ap (λ b. b || is_source sources s) (eq-eqb s s refl))) h)
    (flat_more f sources others u (λ v h. more v (ap (λ b. eqb s v || b) h ∙ or_true (eqb s v))))

module _ (setting : Setting) where
  -- more sources after an event are more before it
  more_before : (e : Event) (past : List Event) (sources others : List ℕ) → ((v : ℕ) → is_source sources v ≡ true → is_source others v ≡ true)
      → (v : ℕ) → is_source (sources_before setting e past sources) v ≡ true → is_source (sources_before setting e past others) v ≡ true
  more_before (Own t c) past sources others more v e = more v e
  more_before (Done j) past sources others more v e = more v e
  more_before (Tick frame) past sources others more v e =
      either (is_source sources v) (is_source (flat_map suppliers sources) v) _ (sym (source_of_both sources (flat_map suppliers sources) v) ∙ e)
      (λ h. in_front others (flat_map suppliers others) v (more v h))
      (λ h. behind others (flat_map suppliers others) v (flat_more suppliers sources others v more h))
    where
      suppliers : ℕ → List ℕ
      suppliers t = suppliers_of setting (row_of setting past t)

  more_from : (later past : List Event) (sources others : List ℕ) → ((v : ℕ) → is_source sources v ≡ true → is_source others v ≡ true)
      → (v : ℕ) → is_source (sources_from setting sources later past) v ≡ true → is_source (sources_from setting others later past) v ≡ true
  more_from [] past sources others more v e = more v e
  more_from (x ∷ later) past sources others more v e =
      more_from later past (sources_before setting x (later ++ past) sources) (sources_before setting x (later ++ past) others)
      (more_before x (later ++ past) sources others more) v e

  -- if the same part is kept, the sources have the same rows, and the sources before an instant are the same
  same_row : (past others : List Event) (sources : List ℕ) (v : ℕ) → is_source sources v ≡ true → kept_from setting sources past ≡ kept_from setting sources others
      → row_of setting past v ≡ row_of setting others v
  same_row past others sources v e same =
      sym (kept_rows setting past sources v e) ∙ (ap (λ events. row_of setting events v) same ∙ kept_rows setting others sources v e)

  pub same_before : (frame : List ℤ) (past others : List Event) (sources : List ℕ) → kept_from setting sources past ≡ kept_from setting sources others
      → sources_before setting (Tick frame) past sources ≡ sources_before setting (Tick frame) others sources
  same_before frame past others sources same =
      ap (λ suppliers. sources ++ suppliers)
      (flat_same (λ t. suppliers_of setting (row_of setting past t)) (λ t. suppliers_of setting (row_of setting others t)) sources
      (λ v e. ap (suppliers_of setting) (same_row past others sources v e same)))

  -- with no event in between
  pub at_place : (frame : List ℤ) (events : List Event) (sources : List ℕ) → sources_before setting (Tick frame) (events ++ []) sources ≡ sources_before setting (Tick frame) events sources
  at_place frame events sources = ap (λ (l : List Event). sources_before setting (Tick frame) l sources) (append-nil events)

  pub same_froms : (frame : List ℤ) (past others : List Event) (sources : List ℕ) → kept_from setting sources past ≡ kept_from setting sources others
      → sources_from setting (sources_before setting (Tick frame) past sources) past [] ≡ sources_from setting (sources_before setting (Tick frame) past sources) others []
      → sources_from setting sources (Tick frame ∷ past) [] ≡ sources_from setting sources (Tick frame ∷ others) []
  same_froms frame past others sources same froms =
      ap (λ (s : List ℕ). sources_from setting s past []) (at_place frame past sources)
      ∙ (froms ∙ ap (λ (s : List ℕ). sources_from setting s others []) (same_before frame past others sources same ∙ sym (at_place frame others sources)))

  pub same_kepts : (frame : List ℤ) (past others : List Event) (sources : List ℕ) → kept_from setting sources past ≡ kept_from setting sources others
      → kept_from setting (sources_before setting (Tick frame) past sources) past ≡ kept_from setting (sources_before setting (Tick frame) past sources) others
      → kept_from setting sources (Tick frame ∷ past) ≡ kept_from setting sources (Tick frame ∷ others)
  same_kepts frame past others sources same kept =
      ap (λ (events : List Event). Tick frame ∷ events) (kept ∙ ap (λ (s : List ℕ). kept_from setting s others) (same_before frame past others sources same))

  module _ (u : ℕ) where
    -- the tenant at place u is no source anywhere in the list, or in the list without its events
    abbrev IsNoSource : List Event → List ℕ → Type 0
    IsNoSource past sources =
        (is_source (sources_from setting sources past []) u ≡ false) ⊎ (is_source (sources_from setting sources (without_tenant u past) []) u ≡ false)

    pub refuted : (sources others : List ℕ) → (is_source sources u ≡ true → is_source others u ≡ true) → is_source others u ≡ false → is_source sources u ≡ false
    refuted sources others more e = false_from_ne_true _ (λ h. let bad : true ≡ false = sym (more h) ∙ e in absurd (cc))

    none_at_end : (past : List Event) (sources : List ℕ) → IsNoSource past sources → is_source sources u ≡ false
    none_at_end past sources (inl e) = refuted sources _ (source_of_end setting past [] sources u) e
    none_at_end past sources (inr e) = refuted sources _ (source_of_end setting (without_tenant u past) [] sources u) e

    -- the kept part is the same, and the sources are the same
    abbrev IsSame : List Event → List ℕ → Type 0
    IsSame past sources =
        (sources_from setting sources past [] ≡ sources_from setting sources (without_tenant u past) [])
        × (kept_from setting sources past ≡ kept_from setting sources (without_tenant u past))

    -- the sources after a tick are all among those before it
    pub fewer_in : (events others : List Event) (sources : List ℕ)
        → is_source (sources_from setting (sources ++ flat_map (λ t. suppliers_of setting (row_of setting others t)) sources) events []) u ≡ false
        → is_source (sources_from setting sources events []) u ≡ false
    fewer_in events others sources e =
        let suppliers : List ℕ = flat_map (λ t. suppliers_of setting (row_of setting others t)) sources in
        refuted (sources_from setting sources events []) (sources_from setting (sources ++ suppliers) events [])
        (more_from events [] sources (sources ++ suppliers) (in_front sources suppliers) u) e

    fewer : (frame : List ℤ) (past : List Event) (sources : List ℕ) → IsNoSource (Tick frame ∷ past) sources → IsNoSource past sources
    fewer frame past sources absent =
        ⊎_elim
        (λ e. inl (fewer_in past (past ++ []) sources e))
        (λ e. inr (fewer_in (without_tenant u past) (without_tenant u past ++ []) sources e)) absent

    pub moved : (events : List Event) (sources others : List ℕ) → sources ≡ others → is_source (sources_from setting sources events []) u ≡ false
        → is_source (sources_from setting others events []) u ≡ false
    moved events sources others same e = subst (λ (s : List ℕ). is_source (sources_from setting s events []) u ≡ false) same e

    absent_before : (frame : List ℤ) (past : List Event) (sources : List ℕ) → kept_from setting sources past ≡ kept_from setting sources (without_tenant u past)
        → IsNoSource (Tick frame ∷ past) sources → IsNoSource past (sources_before setting (Tick frame) past sources)
    absent_before frame past sources same (inl e) =
        inl (moved past (sources_before setting (Tick frame) (past ++ []) sources) (sources_before setting (Tick frame) past sources) (at_place frame past sources) e)
    absent_before frame past sources same (inr e) =
        let rest : List Event = without_tenant u past in
        inr (moved rest (sources_before setting (Tick frame) (rest ++ []) sources) (sources_before setting (Tick frame) past sources)
        (at_place frame rest sources ∙ sym (same_before frame past rest sources same)) e)

    same_without : (past : List Event) (sources : List ℕ) → IsNoSource past sources → IsSame past sources
    same_without [] sources absent = (refl, refl)
    same_without (Own t c ∷ past) sources absent = by (eqb t u) refl absent (same_without past sources)
      where
        rest : List Event
        rest = without_tenant u past

        kept : List Event → List Event
        kept events = cond (is_source sources t) (Own t c ∷ events) events

        by : (b : Bool) → eqb t u ≡ b
            → (is_source (sources_from setting sources past []) u ≡ false) ⊎ (is_source (sources_from setting sources (cond (not b) (Own t c ∷ rest) rest) []) u ≡ false)
            → (IsNoSource past sources → IsSame past sources)
            → (sources_from setting sources past [] ≡ sources_from setting sources (cond (not b) (Own t c ∷ rest) rest) [])
            × (kept (kept_from setting sources past) ≡ kept_from setting sources (cond (not b) (Own t c ∷ rest) rest))
        by true is absent hyp =
            let same = hyp absent in
            (same.0, ap (λ b. cond b (Own t c ∷ kept_from setting sources past) (kept_from setting sources past)) (ap (is_source sources) (same_place t u is) ∙ none_at_end past sources absent) ∙ same.1)
        by false is absent hyp = let same = hyp absent in (same.0, ap kept same.1)
    same_without (Done j ∷ past) sources absent = by (eqb j.tenant u) refl absent (same_without past sources)
      where
        rest : List Event
        rest = without_tenant u past

        kept : List Event → List Event
        kept events = cond (is_source sources j.tenant) (Done j ∷ events) events

        by : (b : Bool) → eqb j.tenant u ≡ b
            → (is_source (sources_from setting sources past []) u ≡ false) ⊎ (is_source (sources_from setting sources (cond (not b) (Done j ∷ rest) rest) []) u ≡ false)
            → (IsNoSource past sources → IsSame past sources)
            → (sources_from setting sources past [] ≡ sources_from setting sources (cond (not b) (Done j ∷ rest) rest) [])
            × (kept (kept_from setting sources past) ≡ kept_from setting sources (cond (not b) (Done j ∷ rest) rest))
        by true is absent hyp =
            let same = hyp absent in
            (same.0, ap (λ b. cond b (Done j ∷ kept_from setting sources past) (kept_from setting sources past)) (ap (is_source sources) (same_place j.tenant u is) ∙ none_at_end past sources absent) ∙ same.1)
        by false is absent hyp = let same = hyp absent in (same.0, ap kept same.1)
    same_without (Tick frame ∷ past) sources absent =
        let small = same_without past sources (fewer frame past sources absent) in
        let same = same_without past (sources_before setting (Tick frame) past sources) (absent_before frame past sources small.1 absent) in
        (same_froms frame past (without_tenant u past) sources small.1 same.0, same_kepts frame past (without_tenant u past) sources small.1 same.1)

  pub same_kept : (past others : List Event) (t u : ℕ) → is_source (sources_of setting t past []) u ≡ false → without_tenant u past ≡ without_tenant u others
      → kept_of setting past t ≡ kept_of setting others t
  same_kept past others t u none same =
      let here = same_without u past (t ∷ []) (inl none) in
      let there = same_without u others (t ∷ [])
      (inr (ap (λ events. is_source (sources_from setting (t ∷ []) events []) u) (sym same) ∙ (ap (λ s. is_source s u) (sym here.0) ∙ none))) in
      here.1 ∙ (ap (kept_from setting (t ∷ [])) same ∙ sym there.1)

  pub same_answers : (past others : List Event) (t u : ℕ) → is_source (sources_of setting t past []) u ≡ false → without_tenant u past ≡ without_tenant u others
      → answers_of setting past t ≡ answers_of setting others t
  same_answers past others t u none same =
      sym (kept_answers setting past t) ∙ (ap (λ kept. answers_of setting kept t) (same_kept past others t u none same) ∙ kept_answers setting others t)
