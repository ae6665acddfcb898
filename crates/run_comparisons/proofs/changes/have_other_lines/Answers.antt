use Rattle.std.proofs.Common.{Bor, ◌≡◌, ◌&&◌, ◌∙◌, ℕ, not, nat_eq, List, [], ◌∷◌, map, refl, ap}
use Rattle.std.specs.Cmp.Lexicographic.{pointwise}
use Rattle.run_comparisons.specs.Answers.{RunAnswer}
use Rattle.run_comparisons.proofs.changes.have_other_lines.Goals as goal

-- texts behind references are the same if the texts are
behind_references : (xs ys : List (Bor (List ℕ))) → pointwise (λ (x y : Bor (List ℕ)). pointwise nat_eq x.now y.now) xs ys ≡ pointwise (pointwise nat_eq) (map (λ x. x.now) xs) (map (λ y. y.now) ys)
behind_references [] [] = refl
behind_references [] (y ∷ ys) = refl
behind_references (x ∷ xs) [] = refl
behind_references (x ∷ xs) (y ∷ ys) = ap (λ b. pointwise nat_eq x.now y.now && b) (behind_references xs ys)

in_two_steps : (answers : List (Bor RunAnswer)) → map (λ a. a.now.line) answers ≡ map (λ (a : RunAnswer). a.line) (map (λ a. a.now) answers)
in_two_steps [] = refl
in_two_steps (a ∷ answers) = ap (λ lines. a.now.line ∷ lines) (in_two_steps answers)

lines_are : (xs items : List (Bor (List ℕ))) (answers : List (Bor RunAnswer)) → xs ≡ items → map (λ x. x.now) items ≡ map (λ a. a.now.line) answers → map (λ x. x.now) xs ≡ map (λ (a : RunAnswer). a.line) (map (λ a. a.now) answers)
lines_are xs items answers same lines = ap (λ (ls : List (Bor (List ℕ))). map (λ x. x.now) ls) same ∙ (lines ∙ in_two_steps answers)

pub returns : goal.returns
returns c =
    let old = lines_are c.as_slice.result.now c.in_ok-old.old.items c.args.old.now c.as_slice.ensures.value c.in_ok-old.ensures in
    let new = lines_are c.as_slice-2.result.now c.in_ok-new.new.items c.args.new.now c.as_slice-2.ensures.value c.in_ok-new.ensures in
    c.ne.ensures
    ∙ ap not
    (behind_references c.as_slice.result.now c.as_slice-2.result.now
    ∙ (ap (λ (ls : List (List ℕ)). pointwise (pointwise nat_eq) ls (map (λ y. y.now) c.as_slice-2.result.now)) old
    ∙ ap (λ (ls : List (List ℕ)). pointwise (pointwise nat_eq) (map (λ (a : RunAnswer). a.line) (map (λ a. a.now) c.args.old.now)) ls) new))
