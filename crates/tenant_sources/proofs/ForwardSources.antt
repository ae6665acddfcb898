-- Sources moved forward: after a tick a tenant has the sources that it had before, and those that its suppliers had.
use Rattle.std.proofs.Common.{◌≡◌, ℕ, Bool, true, false, ◌||◌, ◌==◌, ℤ, List, [], ◌∷◌, ◌++◌, flat_map, refl, sym, ap, ◌∙◌}
use Rattle.std.specs.List.{list_any}
use Rattle.std.proofs.Math.Bool.{or-false}
use Rattle.std.proofs.lemmas.List.{append-nil}
use Rattle.std.proofs.lemmas.List.Folds.{list_any-append}
use Rattle.rig_model.specs.declared.events.Event.{Event}
use Rattle.rig_model.specs.declared.events.Event.TheVariants.{Own, Tick, Done}
use Rattle.tenant_sources.specs.Links.{is_source_of}
use Rattle.rig_model.specs.Base.{Setting}
use Rattle.rig_model.specs.Sources.{is_source, sources_from, suppliers_of}
use Rattle.rig_model.specs.Views.{row_of}

shuffled : (a b c d : Bool) → ((a || b) || (c || d)) ≡ ((a || c) || (b || d))
shuffled true b c d = refl
shuffled false true true d = refl
shuffled false true false d = refl
shuffled false false c d = refl

module _ (p : ℕ → Bool) where
  any_flat : (g : ℕ → List ℕ) (xs : List ℕ) → list_any p (flat_map g xs) ≡ list_any (λ v. list_any p (g v)) xs
  any_flat g [] = refl
  any_flat g (x ∷ xs) = list_any-append p (g x) (flat_map g xs) ∙ ap (λ b. list_any p (g x) || b) (any_flat g xs)

  any_either : (q : ℕ → Bool) (xs : List ℕ) → list_any (λ v. p v || q v) xs ≡ (list_any p xs || list_any q xs)
  any_either q [] = refl
  any_either q (x ∷ xs) = ap (λ b. (p x || q x) || b) (any_either q xs) ∙ shuffled (p x) (q x) (list_any p xs) (list_any q xs)

  any_grown : (g : ℕ → List ℕ) (xs : List ℕ) → list_any p (xs ++ flat_map g xs) ≡ list_any (λ v. p v || list_any p (g v)) xs
  any_grown g xs =
      list_any-append p xs (flat_map g xs)
      ∙ (ap (λ b. list_any p xs || b) (any_flat g xs) ∙ sym (any_either (λ v. list_any p (g v)) xs))

module _ (setting : Setting) where
  -- the sources of several tenants are the sources of each
  pub of_each : (later past : List Event) (xs : List ℕ) (u : ℕ)
      → is_source (sources_from setting xs later past) u ≡ list_any (λ v. is_source (sources_from setting (v ∷ []) later past) u) xs
  of_each [] past xs u = ap (λ (f : ℕ → Bool). list_any f xs) (λ k v. sym (or-false (v == u)) k)
  of_each (Own t c ∷ later) past xs u = of_each later past xs u
  of_each (Done j ∷ later) past xs u = of_each later past xs u
  of_each (Tick frame ∷ later) past xs u =
      let brings : ℕ → List ℕ = λ t. suppliers_of setting (row_of setting (later ++ past) t) in
      let reaches : ℕ → Bool = λ v. is_source (sources_from setting (v ∷ []) later past) u in
      let one : (v : ℕ) → is_source (sources_from setting ((v ∷ []) ++ flat_map brings (v ∷ [])) later past) u ≡ (reaches v || list_any reaches (brings v)) =
      λ v. of_each later past ((v ∷ []) ++ flat_map brings (v ∷ [])) u ∙ (any_grown reaches brings (v ∷ []) ∙ or-false (reaches v || list_any reaches (brings v))) in
      of_each later past (xs ++ flat_map brings xs) u ∙ (any_grown reaches brings xs ∙ ap (λ (f : ℕ → Bool). list_any f xs) (λ k v. sym (one v) k))

  -- after a tick
  pub behind_tick : (past : List Event) (frame : List ℤ) (t u : ℕ)
      → is_source_of setting (Tick frame ∷ past) t u ≡ (is_source_of setting past t u || list_any (λ v. is_source_of setting past v u) (suppliers_of setting (row_of setting past t)))
  behind_tick past frame t u =
      let brings : ℕ → List ℕ = λ t. suppliers_of setting (row_of setting (past ++ []) t) in
      let reaches : ℕ → Bool = λ v. is_source_of setting past v u in
      of_each past [] ((t ∷ []) ++ flat_map brings (t ∷ [])) u
      ∙ (any_grown reaches brings (t ∷ [])
      ∙ (or-false (reaches t || list_any reaches (brings t))
      ∙ ap (λ (ps : List Event). reaches t || list_any reaches (suppliers_of setting (row_of setting ps t))) (append-nil past)))
