-- Tokens have at most one grammar fault, and none if they spell a program.
use Rattle.std.proofs.Common.{◌≡◌, ℕ, List, [], ◌∷◌, ◌++◌, refl, sym, ◌∙◌, ap}
use Rattle.std.proofs.lemmas.List.{map-append, append_assoc}
use Rattle.giotto_text.specs.declared.tokens.PlacedToken.{PlacedToken}
use Rattle.giotto_text.specs.Program.{GiottoProgram}
use Rattle.giotto_text.specs.Reading.{IsGrammarFault, no_prefix, too_early}
use Rattle.giotto_text.specs.Spelling.{Spells, IsPrefix}
use Rattle.giotto_text.specs.Tokens.{bare}
use Rattle.giotto_text.proofs.Forms.{begun}
use Rattle.giotto_text.proofs.Prefixes.{begun_front}

-- two places in the same list: equal, or one before the other
data Places (xs ys : List PlacedToken) (t u : PlacedToken) : Type 0 where
  one_place : t ≡ u → Places xs ys t u
  first_before : (more : List PlacedToken) → ys ≡ xs ++ t ∷ more → Places xs ys t u
  second_before : (more : List PlacedToken) → xs ≡ ys ++ u ∷ more → Places xs ys t u

places : (xs ys after later : List PlacedToken) (t u : PlacedToken) → xs ++ t ∷ after ≡ ys ++ u ∷ later → Places xs ys t u
places [] [] after later t u e = one_place cc
places [] (y ∷ ys) after later t u e = let same : y ≡ t = cc in first_before ys (ap (λ x. x ∷ ys) same)
places (x ∷ xs) [] after later t u e = let same : x ≡ u = cc in second_before xs (ap (λ y. y ∷ xs) same)
places (x ∷ xs) (y ∷ ys) after later t u e = longer (places xs ys after later t u cc)
  where
    same : x ≡ y
    same = cc

    longer : Places xs ys t u → Places (x ∷ xs) (y ∷ ys) t u
    longer (one_place is) = one_place is
    longer (first_before more is) = first_before more cc
    longer (second_before more is) = second_before more cc

-- If some tokens are a prefix, so are the tokens up to any one of them.
prefix_up_to : (xs more : List PlacedToken) (t : PlacedToken) → IsPrefix (bare (xs ++ t ∷ more)) → IsPrefix (bare (xs ++ t ∷ []))
prefix_up_to xs more t b = (b.0, begun_front b.1 (bare (xs ++ t ∷ [])) (bare more) joined)
  where
    joined : bare (xs ++ t ∷ more) ≡ bare (xs ++ t ∷ []) ++ bare more
    joined = simp (map-append, append_assoc)

pub one_grammar_fault : (ts : List PlacedToken) (end m n : ℕ) → IsGrammarFault ts end m → IsGrammarFault ts end n → m ≡ n
one_grammar_fault ts end _ _ (no_prefix xs t after e p np) (no_prefix ys u later h q nq) = by (places xs ys after later t u (sym e ∙ h))
  where
    by : Places xs ys t u → t.offset ≡ u.offset
    by (one_place is) = ap (λ v. v.offset) is
    by (first_before more is) = absurd (np (prefix_up_to xs more t (rw is at q)))
    by (second_before more is) = absurd (nq (prefix_up_to ys more u (rw is at p)))
one_grammar_fault ts end _ _ (no_prefix xs t after e p np) (too_early q ns) = absurd (np (prefix_up_to xs after t (rw e at q)))
one_grammar_fault ts end _ _ (too_early p ns) (no_prefix ys u later h q nq) = absurd (nq (prefix_up_to ys later u (rw h at p)))
one_grammar_fault ts end _ _ (too_early p ns) (too_early q nt) = refl

pub no_grammar_fault : (ts : List PlacedToken) (end n : ℕ) (p : GiottoProgram) → Spells (bare ts) p → ¬ IsGrammarFault ts end n
no_grammar_fault ts end _ p s (no_prefix xs t after e q nq) = let whole : IsPrefix (bare ts) = (p, begun s) in nq (prefix_up_to xs after t (rw e at whole))
no_grammar_fault ts end _ p s (too_early q ns) = ns p s
