-- A text begins a program exactly if the reader says so.
use Rattle.std.specs.Prelude.{nat_eq, ◌↔◌, Result}
use Rattle.std.proofs.Common.{◌≡◌, ℕ, ◌<◌, true, false, List, [], ◌∷◌, ◌++◌, length, Ok, refl, sym, subst, arith, append-nil}
use Rattle.std.proofs.lemmas.Bool.Decides.{nat_tests}
use Rattle.std.proofs.lemmas.List.{map-append, append_assoc}
use Rattle.giotto_read.specs.declared.text.faults.ReadFault.{ReadFault}
use Rattle.giotto_read.specs.declared.text.tokens.PlacedToken.{PlacedToken}
use Rattle.giotto_read.specs.declared.text.tokens.Token.{Token}
use Rattle.giotto_read.specs.text.Grammar.{Part, program}
use Rattle.giotto_read.specs.text.Nesting.{nests_too_deep}
use Rattle.giotto_read.specs.text.Parsing.{parsed}
use Rattle.giotto_read.specs.text.Program.{GiottoProgram}
use Rattle.giotto_read.specs.text.Reading.{no_prefix, too_early, ReadsTokens, no_token, too_deep, no_program, too_many_ports, a_program, Reads}
use Rattle.giotto_read.specs.text.Spelling.{SpellsParts, BeginsParts, Spells, IsPrefix}
use Rattle.giotto_read.specs.text.Tokens.{Tokens, tokens_of, bare}
use Rattle.giotto_faults.specs.Expected.{BeginsProgram, begins_if_read, begins_program}
use Rattle.giotto_faults.proofs.TokenPlaces.{AllBefore, AreBefore, tokens_before, one_before}

-- the tokens are a prefix of a program's, and nest at most 32 deep
record Begun (cut : Tokens) : Type 0 where
  tokens : List PlacedToken
  are : cut ≡ Ok tokens
  prefix : IsPrefix (bare tokens)
  shallow : nests_too_deep (bare tokens) ≡ false

abbrev pub FrontOfSpelled : Type 0
FrontOfSpelled = (ts us : List Token) (ps : List Part) → SpellsParts (ts ++ us) ps → BeginsParts ts ps

abbrev pub FrontOfPrefix : Type 0
FrontOfPrefix = (ts us : List Token) (ps : List Part) → BeginsParts (ts ++ us) ps → BeginsParts ts ps

spelled_prefix : FrontOfSpelled → (ts : List Token) (p : GiottoProgram) → Spells ts p → IsPrefix ts
spelled_prefix law ts p s = (p, law ts [] (program p ∷ []) (subst (λ us. Spells us p) (sym (append-nil ts)) s))

prefix_up_to : FrontOfPrefix → (xs more : List PlacedToken) (t : PlacedToken) → IsPrefix (bare (xs ++ t ∷ more)) → IsPrefix (bare (xs ++ t ∷ []))
prefix_up_to law xs more t b = (b.0, law (bare (xs ++ t ∷ [])) (bare more) (program b.0 ∷ []) (subst (λ us. BeginsParts us (program b.0 ∷ [])) joined b.1))
  where
    joined : bare (xs ++ t ∷ more) ≡ bare (xs ++ t ∷ []) ++ bare more
    joined = simp (map-append, append_assoc)

not_at_end : (n end : ℕ) → n < end → nat_eq n end ≡ true → ⊥
not_at_end n end lt e = grind (arith, nat_tests)

at_end : (n : ℕ) → nat_eq n n ≡ true
at_end n = grind (arith, nat_tests)

shown_by : (cut : Tokens) (end : ℕ) (r : Result GiottoProgram ReadFault) → FrontOfSpelled → ReadsTokens cut end r → AreBefore end cut
    → begins_if_read end r ≡ true → Begun cut
shown_by cut end _ law (no_token {offset = n} e) before h = absurd (not_at_end n end (subst (AreBefore end) e before) h)
shown_by cut end _ law (too_deep ts e deep) before h = absurd (cc)
shown_by cut end _ law (no_program ts e shallow (no_prefix xs t after is p np)) before h =
    absurd (not_at_end t.offset end (one_before end xs after t (subst (AllBefore end) is (subst (AreBefore end) e before))) h)
shown_by cut end _ law (no_program ts e shallow (too_early p ns)) before h = record { tokens = ts; are = e; prefix = p; shallow = shallow }
shown_by cut end _ law (too_many_ports ts {p = p} e shallow s big) before h =
    record { tokens = ts; are = e; prefix = spelled_prefix law (bare ts) p s; shallow = shallow }
shown_by cut end _ law (a_program ts {p = p} e shallow s small) before h =
    record { tokens = ts; are = e; prefix = spelled_prefix law (bare ts) p s; shallow = shallow }

shows : (cut : Tokens) (end : ℕ) (r : Result GiottoProgram ReadFault) → FrontOfPrefix → ReadsTokens cut end r → Begun cut → begins_if_read end r ≡ true
shows cut end _ law (no_token e) b = let are = b.are in absurd (cc)
shows cut end _ law (too_deep ts e deep) b =
    let are = b.are in
    let same : ts ≡ b.tokens = cc in
    let shallow : nests_too_deep (bare ts) ≡ false = subst (λ us. nests_too_deep (bare us) ≡ false) (sym same) b.shallow in
    absurd (cc)
shows cut end _ law (no_program ts e shallow (no_prefix xs t after is p np)) b =
    let are = b.are in
    let same : b.tokens ≡ xs ++ t ∷ after = cc in
    absurd (np (prefix_up_to law xs after t (subst (λ us. IsPrefix (bare us)) same b.prefix)))
shows cut end _ law (no_program ts e shallow (too_early p ns)) b = at_end end
shows cut end _ law (too_many_ports ts e shallow s big) b = refl
shows cut end _ law (a_program ts e shallow s small) b = refl

pub begins_where_read : FrontOfSpelled → FrontOfPrefix → (text : List ℕ) → Reads text (parsed text) → (begins_program text ≡ true) ↔ BeginsProgram text
begins_where_read spelled front text reads = (there, back)
  where
    there : begins_program text ≡ true → BeginsProgram text
    there h =
        let b = shown_by (tokens_of text) (length text) (parsed text) spelled reads (tokens_before text) h in
        record { tokens = b.tokens; cut = b.are; prefix = b.prefix; shallow = b.shallow }

    back : BeginsProgram text → begins_program text ≡ true
    back b = shows (tokens_of text) (length text) (parsed text) front reads (record { tokens = b.tokens; are = b.cut; prefix = b.prefix; shallow = b.shallow })
