use Rattle.std.proofs.Common.{◌≡◌, ◌≢◌, ℕ, List, [], ◌∷◌, ◌++◌, Option, subst, sym, arith}
use Rattle.std.proofs.lemmas.Str.Pattern.{strip_suffix_char}
use Rattle.std.specs.Option.{MatchOption}
use denote.Ref.{Bor}
use Rattle.script_reports.proofs.Reading.{cr_kept, cr_stripped}
use Rattle.script_reports.proofs.runs.without_cr.Goals as goal

pub returns-in-Some : goal.returns-in-Some
returns-in-Some c =
    let text = c.args.text.now in
    sym (cr_stripped text c.in-Some.front.now
    (subst (λ (r : Option (Bor (List ℕ))). MatchOption r ((front : List ℕ) → text ≢ front ++ 13 ∷ []) (λ x. text ≡ x.now ++ 13 ∷ [])) c.in-Some.is
    (strip_suffix_char 13 text c.strip_suffix.result c.strip_suffix.ensures.cases (omega arith))))

pub returns-in-None : goal.returns-in-None
returns-in-None c =
    let text = c.args.text.now in
    sym (cr_kept text
    (subst (λ (r : Option (Bor (List ℕ))). MatchOption r ((front : List ℕ) → text ≢ front ++ 13 ∷ []) (λ x. text ≡ x.now ++ 13 ∷ [])) c.in-None.is
    (strip_suffix_char 13 text c.strip_suffix.result c.strip_suffix.ensures.cases (omega arith))))
