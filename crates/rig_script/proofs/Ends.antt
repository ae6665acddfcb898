-- The line that ends a script comes after the lines that are text.
use Rattle.std.proofs.Common.{◌≡◌, ◌+◌, ◌-◌, ◌^◌, ℕ, suc, min, List, [], ◌∷◌, length, Option, Some, None, IfSome, Result, Ok, All, refl, sym, ap, ◌∙◌, arith}
use Rattle.std.proofs.lemmas.List.Elements.{All-cons, All-head, All-nil, All-tail}
use Rattle.std.specs.Prelude.{IsSome}
use Rattle.rig_model.specs.Answered.{IsText}
use Rattle.rig_model.specs.TextLines.{cut, text_of_line}
use Rattle.rig_script.specs.Given.{IsEndOf, bad_line_behind, number_behind, texts_of}
use Rattle.rig_script.specs.inner.Ended.{end_after}
use Rattle.rig_script.specs.declared.answers.Ending.{Ending}
use Rattle.rig_script.specs.declared.answers.Ending.TheVariants.{Input, BadLine}
use Rattle.rig_script.specs.declared.faults.ScriptFault.{ScriptFault}

-- if all lines are text, none ends the script
pub none_bad : (n : ℕ) (lines : List (List ℕ)) → All IsText lines → bad_line_behind n lines ≡ None
none_bad n [] all = refl
none_bad n (line ∷ later) all = by (text_of_line line) refl (All-head IsText line later all) (none_bad (n + 1) later (All-tail IsText line later all))
  where
    by : (found : Option (List ℕ)) → text_of_line line ≡ found → IsSome found → bad_line_behind (n + 1) later ≡ None → bad_line_behind n (line ∷ later) ≡ None
    by None f some rest = cc
    by (Some text) f some rest = rw f rest

-- else the line after those that are text ends it
pub some_bad : (n : ℕ) (lines : List (List ℕ)) → ¬ (All IsText lines) → bad_line_behind n lines ≡ Some (number_behind (n + length (texts_of lines)))
some_bad n [] bad = absurd (bad (All-nil IsText))
some_bad n (line ∷ later) bad = by (text_of_line line) refl (some_bad (n + 1) later)
  where
    by : (found : Option (List ℕ)) → text_of_line line ≡ found → (¬ (All IsText later) → bad_line_behind (n + 1) later ≡ Some (number_behind (n + 1 + length (texts_of later))))
        → bad_line_behind n (line ∷ later) ≡ Some (number_behind (n + length (texts_of (line ∷ later))))
    by None f rest =
        let same : n + 0 ≡ n = omega arith in
        rw f (ap (λ k. Some (number_behind k)) (sym same))
    by (Some text) f rest =
        let same : n + 1 + length (texts_of later) ≡ n + suc (length (texts_of later)) = omega arith in
        rw f (rest (λ all. bad (All-cons IsText line later (rw f refl) all)) ∙ ap (λ k. Some (number_behind k)) same)

-- so it comes after the answered lines, if these are counted
pub bad_behind : (answered : ℕ) (lines : List (List ℕ)) → answered ≡ min (length (texts_of lines)) (2 ^ 64 - 1) → ¬ (All IsText lines) → bad_line_behind 0 lines ≡ Some (number_behind answered)
bad_behind answered lines many bad =
    let same : number_behind (0 + length (texts_of lines)) ≡ number_behind answered = omega (arith, many) in
    some_bad 0 lines bad ∙ ap (λ k. Some k) same

-- how a script ended, as its ending and the number of answered lines say
pub ended_so : (known left : Option (List ℕ)) (ending : Ending) (answered : ℕ) (ok : Result Ending ScriptFault) → ok ≡ Ok ending
    → (ok ≡ Ok Input → IfSome known (λ bytes. All IsText (cut bytes) × (left ≡ Some []))) → (ok ≡ Ok BadLine → IfSome known (λ bytes. ¬ (All IsText (cut bytes))))
    → IfSome known (λ bytes. answered ≡ min (length (texts_of (cut bytes))) (2 ^ 64 - 1)) → IfSome known (λ bytes. IsEndOf bytes left (end_after ending answered))
ended_so None left ending answered ok is input bad many = tt
ended_so (Some bytes) left Input answered ok is input bad many = (sym (none_bad 0 (cut bytes) (input is).0), λ none. (input is).1)
ended_so (Some bytes) left BadLine answered ok is input bad many = (sym (bad_behind answered (cut bytes) many (bad is)), λ none. absurd (cc))
