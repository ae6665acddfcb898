-- When two tasks are one declaration.
use Rattle.std.proofs.Common.{◌≡◌, ℤ, List, [], ◌∷◌, length, map, refl, sym, ap, ◌∙◌, arith}
use Rattle.std.proofs.lemmas.Slice.Zip.{firsts-zip}
use Rattle.std.specs.Arc.{arc_value}
use Rattle.std.specs.List.{zip}
use Rattle.std.specs.Prelude.{◌↔◌}
use Rattle.giotto_tasks.specs.declared.names.Name.{Name}
use Rattle.giotto_text.specs.declared.programs.Task.{Task}
use Rattle.giotto_text.specs.Program.{body_of, TaskDeclaration}
use Rattle.giotto_text.specs.ProgramTrees.{task_of, with_body}

abbrev initial : List (Name × ℤ) → List ℤ
initial states = map (λ (s : Name × ℤ). s.1) states

initial_zip : (xs : List Name) (zs : List ℤ) → length zs ≡ length xs → initial (zip xs zs) ≡ zs
initial_zip [] [] e = refl
initial_zip [] (z ∷ zs) e = absurd (omega (arith, e))
initial_zip (x ∷ xs) [] e = absurd (omega (arith, e))
initial_zip (x ∷ xs) (z ∷ zs) e = ap (λ ys. z ∷ ys) (initial_zip xs zs (omega (arith, e)))

states_of_task : (t : Task) → initial (task_of t).states ≡ t.states
states_of_task t = initial_zip (arc_value t.body).states t.states t.each_state

body_of_task : (t : Task) → body_of (task_of t) ≡ arc_value t.body
body_of_task t =
    let b = arc_value t.body in
    λ k. record { inputs = b.inputs; outputs = b.outputs; states = firsts-zip b.states t.states t.each_state k; block = b.block }

-- tasks are one declaration just if their names, initial values and bodies are equal
pub tasks_same : (t u : Task) → (task_of t ≡ task_of u) ↔ ((t.name ≡ u.name) × ((t.states ≡ u.states) × (arc_value t.body ≡ arc_value u.body)))
tasks_same t u = (
  λ e. (
    ap (λ (d : TaskDeclaration). d.name) e,
    (
      sym (states_of_task t) ∙ (ap (λ (d : TaskDeclaration). initial d.states) e ∙ states_of_task u),
      sym (body_of_task t) ∙ (ap body_of e ∙ body_of_task u),
    ),
  ),
  λ parts k. with_body (parts.0 k) (parts.1.0 k) (parts.1.1 k),
)
