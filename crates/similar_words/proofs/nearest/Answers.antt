use Rattle.std.proofs.Common.{◌≡◌, ◌∙◌, ◌++◌, ◌∷◌, ap}
use Rattle.std.proofs.Math.Seq.{append_snoc}
use Rattle.similar_words.specs.Distances.{nearer_of}
use Rattle.similar_words.proofs.nearest.Goals as goal

pub loop-other-preserved : goal.loop-other-preserved
loop-other-preserved c =
    let before = c.loop-other.invariant in
    let word = c.in-Some.other.now in
    let now_left = c.next.new.self.iter.rest.now in
    let words : c.args.words.now ≡ now_left ++ word ∷ before.0 = before.1 ∙ ap (λ rest. rest ++ before.0) c.in-Some.ensures.steps ∙ append_snoc now_left word before.0 in
    (word ∷ before.0, words, c.in_ok-found.ensures ∙ ap (nearer_of c.args.word.now word.now) before.2)
