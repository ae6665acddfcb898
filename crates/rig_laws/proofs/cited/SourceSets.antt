-- Sets of sources: what follows from them depends on membership alone.
use Rattle.std.proofs.Common.{◌≡◌, ℕ, Bool, true, ◌||◌, eqb, List, [], ◌∷◌, ◌++◌, refl, sym, ap, ◌∙◌, arith}
use Rattle.std.specs.List.{list_any, flat_map}
use Rattle.std.proofs.lemmas.Bool.{eq-eqb}
use Rattle.std.proofs.lemmas.Bool.Decides.{nat_tests}
use Rattle.std.proofs.lemmas.List.Folds.{list_any-append}
use Rattle.giotto_tasks.proofs.cited.TestLemmas.{either, or_true, same_answers}
use Rattle.rig_model.specs.Base.{Setting}
use Rattle.rig_model.specs.Sources.{is_source, sources_before, stays, suppliers_of}
use Rattle.rig_model.specs.Views.{row_of}
use Rattle.rig_model.specs.declared.events.Event.{Event}
use Rattle.rig_model.specs.declared.events.Event.TheVariants.{Own, Tick, Done}

-- a test that holds of a source finds one
member : (p : ℕ → Bool) (ts : List ℕ) (u : ℕ) → is_source ts u ≡ true → p u ≡ true → list_any p ts ≡ true
member p [] u e f = absurd (cc)
member p (t ∷ ts) u e f = either (eqb t u) (is_source ts u) (list_any p (t ∷ ts) ≡ true) e
    (λ h. let same : t ≡ u = grind (arith, nat_tests) in ap (λ b. b || list_any p ts) (ap p same ∙ f))
    (λ h. ap (λ b. p t || b) (member p ts u h f) ∙ or_true (p t))

-- what is found among some sources is found among more
found_in_more : (p : ℕ → Bool) (ss ts : List ℕ) → ((u : ℕ) → is_source ss u ≡ true → is_source ts u ≡ true) → list_any p ss ≡ true → list_any p ts ≡ true
found_in_more p [] ts wider e = absurd (cc)
found_in_more p (s ∷ ss) ts wider e = either (p s) (list_any p ss) (list_any p ts ≡ true) e
    (λ h. member p ts s (wider s (ap (λ b. b || is_source ss s) (eq-eqb s s refl))) h)
    (λ h. found_in_more p ss ts (λ u m. wider u (ap (λ b. eqb s u || b) m ∙ or_true (eqb s u))) h)

-- two lists have the same sources
abbrev pub SameSources : List ℕ → List ℕ → Type 0
SameSources ss ts = (u : ℕ) → is_source ss u ≡ is_source ts u

pub same_found : (p : ℕ → Bool) (ss ts : List ℕ) → SameSources ss ts → list_any p ss ≡ list_any p ts
same_found p ss ts same = same_answers (list_any p ss) (list_any p ts) (found_in_more p ss ts (λ u e. sym (same u) ∙ e)) (found_in_more p ts ss (λ u e. same u ∙ e))

pub any_flat : {X Y : Type 0} (p : Y → Bool) (f : X → List Y) (xs : List X) → list_any p (flat_map f xs) ≡ list_any (λ x. list_any p (f x)) xs
any_flat p f [] = refl
any_flat p f (x ∷ xs) = list_any-append p (f x) (flat_map f xs) ∙ ap (λ b. list_any p (f x) || b) (any_flat p f xs)

module _ (setting : Setting) where
  -- before an instant: a source after it, or a supplier of one
  pub before_tick : (past : List Event) (ss : List ℕ) (u : ℕ)
      → is_source (ss ++ flat_map (λ t. suppliers_of setting (row_of setting past t)) ss) u ≡ (is_source ss u || list_any (λ t. is_source (suppliers_of setting (row_of setting past t)) u) ss)
  before_tick past ss u =
      list_any-append (λ t. eqb t u) ss (flat_map (λ t. suppliers_of setting (row_of setting past t)) ss)
      ∙ ap (λ b. is_source ss u || b) (any_flat (λ t. eqb t u) (λ t. suppliers_of setting (row_of setting past t)) ss)

  pub same_before : (e : Event) (past : List Event) (ss ts : List ℕ) → SameSources ss ts → SameSources (sources_before setting e past ss) (sources_before setting e past ts)
  same_before (Own t c) past ss ts same = same
  same_before (Done j) past ss ts same = same
  same_before (Tick frame) past ss ts same = λ u.
      before_tick past ss u
      ∙ (ap (λ b. b || list_any (λ t. is_source (suppliers_of setting (row_of setting past t)) u) ss) (same u)
      ∙ (ap (λ b. is_source ts u || b) (same_found (λ t. is_source (suppliers_of setting (row_of setting past t)) u) ss ts same)
      ∙ sym (before_tick past ts u)))

  pub same_stays : (e : Event) (ss ts : List ℕ) → SameSources ss ts → stays ss e ≡ stays ts e
  same_stays (Own t c) ss ts same = same t
  same_stays (Done j) ss ts same = same j.tenant
  same_stays (Tick frame) ss ts same = refl
