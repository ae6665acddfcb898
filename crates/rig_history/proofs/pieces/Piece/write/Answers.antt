use Rattle.std.proofs.Common.{◌≡◌, ◌++◌, ◌+◌, ◌-◌, ℕ, List, length, take, drop, string_bytes, subst, sym, ap, ◌∙◌, arith}
use Rattle.std.proofs.lemmas.List.{drop-drop, length-drop, take-append-drop, take_all}
use Rattle.std.specs.Io.KnownBytes.{Appends}
use Rattle.rig_history.proofs.pieces.Piece.write.Goals as goal

pub returns-clause-taken : goal.returns-clause-taken
returns-clause-taken g c =
    let text : List ℕ = string_bytes c.self.inside.text in
    let left : List ℕ = drop c.self.inside.written text in
    let n = c.taken_by.result in
    let same : left ≡ take n left ++ drop (c.self.inside.written + n) text = sym (take-append-drop n left) ∙ ap (λ (l : List ℕ). take n left ++ l) (drop-drop n c.self.inside.written text) in
    let bytes : c.as_bytes.result.now ≡ text = c.as_bytes.ensures.value ∙ c.as_str.ensures.value in
    let whole : take (length text - c.self.inside.written) left ≡ left = subst (λ m. take m left ≡ left) (length-drop c.self.inside.written text) (take_all (length left) left (omega arith)) in (
      take n left,
      ap (λ p. p.left) (sym c.self.view_is) ∙ same,
      subst (λ (t : List ℕ). Appends (g.W.Write.contents c.args.writer.now) (g.W.Write.contents c.taken_by.new.writer) (take n t)) (ap (λ (t : List ℕ). take (length t - c.self.inside.written) (drop c.self.inside.written t)) bytes ∙ whole) c.taken_by.ensures.taken,
    )
