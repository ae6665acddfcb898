-- The marks depend only on the members of the sources.
use Rattle.std.proofs.Common.{◌≡◌, ℕ, List, [], ◌∷◌, refl, ap, ◌∙◌}
use Rattle.rig_model.specs.Base.{Setting}
use Rattle.rig_model.specs.Sources.{sources_before, stays}
use Rattle.rig_model.specs.declared.events.Event.{Event}
use Rattle.host_core.specs.inner.Trials.{marks_from}
use Rattle.instant_engine.proofs.of_laws.SourceSets.{SameSources, same_before, same_stays}

module _ (setting : Setting) where
  pub same_marks : (past : List Event) (ss ts : List ℕ) → SameSources ss ts → marks_from setting ss past ≡ marks_from setting ts past
  same_marks [] ss ts same = refl
  same_marks (e ∷ past) ss ts same =
      ap (λ b. b ∷ marks_from setting (sources_before setting e past ss) past) (same_stays setting e ss ts same)
      ∙ ap (λ ms. stays ts e ∷ ms) (same_marks past (sources_before setting e past ss) (sources_before setting e past ts) (same_before setting e past ss ts same))
