-- The lines that were given, after one more line and at the end.
use Rattle.std.proofs.Common.{◌≡◌, ℕ, List, [], ◌∷◌, ◌++◌, Some, None, All, refl, sym, ap, subst, ◌∙◌, append_assoc, append-nil}
use Rattle.std.proofs.lemmas.List.Elements.{All-cons, All-nil}
use Rattle.rig_model.specs.Answered.{IsText}
use Rattle.rig_model.specs.TextLines.{text_of_line}
use Rattle.rig_script.specs.Given.{texts_of}

-- if the lines still to come are text, all lines are
module _ (lines rest : List (List ℕ)) (texts : All IsText rest → All IsText lines) where
  pub texts_before : (line : List ℕ) (later : List (List ℕ)) → rest ≡ line ∷ later → (text : List ℕ) → text_of_line line ≡ Some text → All IsText later → All IsText lines
  texts_before line later front text is_text all = texts (subst (All IsText) (sym front) (All-cons IsText line later (rw is_text refl) all))

  pub all_texts : rest ≡ [] → All IsText lines
  all_texts none = texts (subst (All IsText) (sym none) (All-nil IsText))

-- these texts were given, and the remaining ones are those of the lines still to come
module _ (texts lines rest given : List (List ℕ)) (is : texts ++ texts_of lines ≡ given ++ texts_of rest) where
  pub given_further : (line : List ℕ) (later : List (List ℕ)) (text : List ℕ) → rest ≡ line ∷ later → text_of_line line ≡ Some text → texts ++ texts_of lines ≡ (given ++ text ∷ []) ++ texts_of later
  given_further line later text front is_text =
      let here : texts_of rest ≡ text ∷ texts_of later = rw (front, is_text) refl in
      is ∙ ap (λ ts. given ++ ts) here ∙ sym (append_assoc given (text ∷ []) (texts_of later))

  -- no line is left
  pub given_at_end : rest ≡ [] → given ≡ texts ++ texts_of lines
  given_at_end none = sym (is ∙ ap (λ (ls : List (List ℕ)). given ++ texts_of ls) none ∙ append-nil given)

  -- the next line is too long or not UTF-8
  pub given_at_bye : (line : List ℕ) (later : List (List ℕ)) → rest ≡ line ∷ later → text_of_line line ≡ None → given ≡ texts ++ texts_of lines
  given_at_bye line later front no_text =
      let here : texts_of rest ≡ [] = rw (front, no_text) refl in
      sym (is ∙ ap (λ ts. given ++ ts) here ∙ append-nil given)
