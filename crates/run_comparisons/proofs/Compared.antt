-- The text of a comparison from its parts, and that of two scripts from their runs.
use Rattle.std.proofs.Common.{◌≡◌, ◌≤◌, ℕ, Bool, List, ◌++◌, length, map, ap, ◌∙◌, arith}
use Rattle.std.proofs.lemmas.List.FromFn.{length-map-range_with_len}
use Rattle.rig_model.specs.config.Roster.{Rig}
use Rattle.run_comparisons.specs.Answers.{RunAnswer}
use Rattle.run_comparisons.specs.Changes.{change_of, changed_tenants, changes_of, named_tenants, unnamed_tenants}
use Rattle.run_comparisons.specs.Texts.{text_of_comparison, text_of_driven, text_of_end, text_of_operator, text_of_tenants}
use Rattle.run_comparisons.specs.declared.changes.Change.{Change}
use Rattle.run_comparisons.specs.declared.changes.Scope.{Scope}

module _ (tolerance : ℕ) (config : Rig) (path other_path : List ℕ) (old new : List RunAnswer) (s : Scope) (is_source : ℕ → ℕ → Bool) where
  pub compared : (changes : List Change) (changed named unnamed : List ℕ) (tenants driven operator end text : List ℕ) → changes ≡ changes_of tolerance old new (length config.tenants) → changed ≡ changed_tenants changes
      → named ≡ named_tenants is_source changes → unnamed ≡ unnamed_tenants is_source changes s → tenants ≡ text_of_tenants tolerance config path other_path old new s
      → driven ≡ text_of_driven path other_path old new tolerance s → operator ≡ text_of_operator path other_path old new → end ≡ text_of_end config changed named unnamed
      → text ≡ tenants ++ (driven ++ (operator ++ end)) → text ≡ text_of_comparison tolerance config path other_path old new s is_source
  compared changes changed named unnamed tenants driven operator end text are a b c rows lines own last whole =
      let ending : end ≡ text_of_end config (changed_tenants changes) (named_tenants is_source changes) (unnamed_tenants is_source changes s) =
      last ∙ (ap (λ ts. text_of_end config ts named unnamed) a ∙ (ap (λ ts. text_of_end config (changed_tenants changes) ts unnamed) b ∙ ap (λ ts. text_of_end config (changed_tenants changes) (named_tenants is_source changes) ts) c)) in
      let ended = ending ∙ ap (λ (cs : List Change). text_of_end config (changed_tenants cs) (named_tenants is_source cs) (unnamed_tenants is_source cs s)) are in
      whole ∙ (ap (λ t. t ++ (driven ++ (operator ++ end))) rows ∙ (ap (λ t. text_of_tenants tolerance config path other_path old new s ++ (t ++ (operator ++ end))) lines
      ∙ (ap (λ t. text_of_tenants tolerance config path other_path old new s ++ (text_of_driven path other_path old new tolerance s ++ (t ++ end))) own
      ∙ ap (λ t. text_of_tenants tolerance config path other_path old new s ++ (text_of_driven path other_path old new tolerance s ++ (text_of_operator path other_path old new ++ t))) ended)))
