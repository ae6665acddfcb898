-- The parser reads each text as the definition says, and a text reads as nothing else.
use Rattle.std.proofs.Common.{◌≡◌, ℕ, ◌+◌, Bool, true, false, if◌then◌else◌, List, [], ◌∷◌, ◌++◌, length, Result, Ok, Err, refl, sym, ap, ◌∙◌, subst, arith}
use Rattle.std.proofs.lemmas.List.{append-nil, map-append}
use Rattle.giotto_text.specs.declared.faults.ReadFault.{ReadFault}
use Rattle.giotto_text.specs.declared.faults.ReadFault.TheVariants.{Syntax, TooDeep, TooMany}
use Rattle.giotto_text.specs.declared.tokens.PlacedToken.{PlacedToken}
use Rattle.giotto_text.specs.declared.tokens.Token.{Token}
use Rattle.giotto_text.specs.Grammar.{token, program}
use Rattle.giotto_text.specs.Nesting.{nests_too_deep}
use Rattle.giotto_text.specs.Parsing.{end_mark, Outcome, got, read_program, reading, read_all, parsed_tokens, parsed}
use Rattle.giotto_text.specs.Program.{GiottoProgram}
use Rattle.giotto_text.specs.Reading.{IsGrammarFault, no_prefix, too_early, has_small_tasks, ReadsTokens, no_token, too_deep, no_program, too_many_ports, a_program, Reads}
use Rattle.giotto_text.specs.Spelling.{SpellsParts, all_spelled, token_spelled, BeginsParts, none_left, Spells}
use Rattle.giotto_text.specs.Tokens.{Tokens, tokens_of, bare}
use Rattle.giotto_text.proofs.CanonicalSpells.{spelled_append}
use Rattle.giotto_text.proofs.Forms.{begun, nothing_begins, nothing_excluded}
use Rattle.giotto_text.proofs.GrammarFaults.{one_grammar_fault, no_grammar_fault}
use Rattle.giotto_text.proofs.ParserSteps.{Right, came, broke}
use Rattle.giotto_text.proofs.ProgramLines.{a_program as program_form, program_parses}

up_to_rest : (front : List PlacedToken) {ts : List PlacedToken} → ts ≡ front ++ [] → bare ts ≡ bare front
up_to_rest front is = ap bare (is ∙ append-nil front)

with_next : (front : List PlacedToken) (t : PlacedToken) → bare (front ++ t ∷ []) ≡ bare front ++ t.token ∷ []
with_next front t = map-append (λ p. p.token) front (t ∷ [])

-- What an outcome says about the tokens: they spell this program and no other, or this is their fault.
data Says (ts : List PlacedToken) (end : ℕ) : Outcome GiottoProgram → Type 0 where
  one_tree : (p : GiottoProgram) → Spells (bare ts) p → ((q : GiottoProgram) → Spells (bare ts) q → q ≡ p) → Says ts end (got p [])
  a_fault : {o : Outcome GiottoProgram} (offset : ℕ) → IsGrammarFault ts end offset → reading end o ≡ Err (Syntax offset) → Says ts end o

-- the tokens of a program, followed by the end mark
ended : (front : List PlacedToken) {ts : List PlacedToken} (q : GiottoProgram) → ts ≡ front ++ [] → Spells (bare ts) q → SpellsParts (bare front ++ end_mark ∷ []) (program q ∷ token end_mark ∷ [])
ended front q is s = subst (λ y. SpellsParts (y ++ end_mark ∷ []) (program q ∷ token end_mark ∷ [])) (up_to_rest front is) (spelled_append s (token_spelled all_spelled))

says : (ts : List PlacedToken) (end : ℕ) (o : Outcome GiottoProgram) → Right program_form (λ p. p) ts o → Says ts end o
says ts end _ (came front [] p {x = x} is value spans) =
    let whole : SpellsParts (bare front) (program p ∷ []) = subst (λ y. SpellsParts y (program p ∷ [])) (append-nil (bare front)) (spans.spells [] [] all_spelled) in
    let s : Spells (bare ts) x = subst (λ y. Spells (bare ts) y) (sym value) (subst (λ y. SpellsParts y (program p ∷ [])) (sym (up_to_rest front is)) whole) in
    one_tree x s (λ q r. (spans.one [] q (token end_mark ∷ []) (nothing_excluded (token end_mark ∷ [])) (ended front q is r)).0 ∙ sym value)
says ts end _ (came front (t ∷ rest) p is value spans) =
    a_fault t.offset (no_prefix front t rest is
    (p, subst (λ y. BeginsParts y (program p ∷ [])) (append-nil (bare front)) (spans.begins [] [] none_left))
    (λ q. nothing_begins t.token [] (spans.only (t.token ∷ []) q.0 [] refl (nothing_excluded []) (subst (λ y. BeginsParts y (program q.0 ∷ [])) (with_next front t) q.1)))) refl
says ts end _ (broke front [] is breaks) =
    a_fault end (too_early
    (breaks.value, subst (λ y. BeginsParts y (program breaks.value ∷ [])) (sym (up_to_rest front is)) (breaks.begins []))
    (λ q s. breaks.fault [] q (token end_mark ∷ []) (nothing_excluded (token end_mark ∷ [])) (begun (ended front q is s)))) refl
says ts end _ (broke front (t ∷ rest) is breaks) =
    a_fault t.offset (no_prefix front t rest is
    (breaks.value, breaks.begins [])
    (λ q. breaks.fault [] q.0 [] (nothing_excluded []) (subst (λ y. BeginsParts y (program q.0 ∷ [])) (with_next front t) q.1))) refl

parser_says : (ts : List PlacedToken) (end : ℕ) → Says ts end (read_program ts)
parser_says ts end = says ts end (read_program ts) (program_parses {n = length ts + 1} ts (omega arith))

-- what the outcome says is what the tokens read as

small_or_not : (ts : List PlacedToken) (end : ℕ) (p : GiottoProgram) → nests_too_deep (bare ts) ≡ false → Spells (bare ts) p → (b : Bool) → has_small_tasks p ≡ b → ReadsTokens (Ok ts) end (if b then Ok p else Err TooMany)
small_or_not ts end p shallow s true e = a_program ts refl shallow s e
small_or_not ts end p shallow s false e = too_many_ports ts refl shallow s e

said : (ts : List PlacedToken) (end : ℕ) (o : Outcome GiottoProgram) → nests_too_deep (bare ts) ≡ false → Says ts end o → ReadsTokens (Ok ts) end (reading end o)
said ts end _ shallow (one_tree p s only) = small_or_not ts end p shallow s (has_small_tasks p) refl
said ts end _ shallow (a_fault offset fault e) = subst (ReadsTokens (Ok ts) end) (sym e) (no_program ts refl shallow fault)

by_depth : (ts : List PlacedToken) (end : ℕ) (b : Bool) → nests_too_deep (bare ts) ≡ b → ReadsTokens (Ok ts) end (if b then Err TooDeep else reading end (read_program ts))
by_depth ts end true e = too_deep ts refl e
by_depth ts end false e = said ts end (read_program ts) e (parser_says ts end)

by_cut : (cut : Tokens) (end : ℕ) → ReadsTokens cut end (parsed_tokens end cut)
by_cut (Ok ts) end = by_depth ts end (nests_too_deep (bare ts)) refl
by_cut (Err offset) end = no_token refl

pub parsed_reads : (text : List ℕ) → Reads text (parsed text)
parsed_reads text = by_cut (tokens_of text) (length text)

-- the tokens read as nothing else

same_tree : (ts : List PlacedToken) (end : ℕ) (q : GiottoProgram) (o : Outcome GiottoProgram) → Spells (bare ts) q → Says ts end o → o ≡ got q []
same_tree ts end q _ r (one_tree p s only) = ap (λ y. got y []) (sym (only q r))
same_tree ts end q _ r (a_fault offset fault e) = absurd (no_grammar_fault ts end offset q r fault)

same_fault : (ts : List PlacedToken) (end n : ℕ) (o : Outcome GiottoProgram) → IsGrammarFault ts end n → Says ts end o → reading end o ≡ Err (Syntax n)
same_fault ts end n _ f (one_tree p s only) = absurd (no_grammar_fault ts end n p s f)
same_fault ts end n _ f (a_fault offset fault e) = e ∙ ap (λ k. Err (Syntax k)) (one_grammar_fault ts end offset n fault f)

shallow_reading : (ts : List PlacedToken) (end : ℕ) → nests_too_deep (bare ts) ≡ false → read_all end ts ≡ reading end (read_program ts)
shallow_reading ts end e = ap (λ b. if b then Err TooDeep else reading end (read_program ts)) e

spelled_reading : (ts : List PlacedToken) (end : ℕ) (p : GiottoProgram) (b : Bool) → nests_too_deep (bare ts) ≡ false → Spells (bare ts) p → has_small_tasks p ≡ b → read_all end ts ≡ (if b then Ok p else Err TooMany)
spelled_reading ts end p b shallow s e =
    shallow_reading ts end shallow ∙ ap (reading end) (same_tree ts end p (read_program ts) s (parser_says ts end)) ∙ ap (λ c. if c then Ok p else Err TooMany) e

only_parsed : (cut : Tokens) (end : ℕ) (r : Result GiottoProgram ReadFault) → ReadsTokens cut end r → parsed_tokens end cut ≡ r
only_parsed cut end _ (no_token e) = ap (parsed_tokens end) e
only_parsed cut end _ (too_deep ts e deep) = ap (parsed_tokens end) e ∙ ap (λ b. if b then Err TooDeep else reading end (read_program ts)) deep
only_parsed cut end _ (no_program ts {offset = n} e shallow fault) = ap (parsed_tokens end) e ∙ shallow_reading ts end shallow ∙ same_fault ts end n (read_program ts) fault (parser_says ts end)
only_parsed cut end _ (too_many_ports ts {p = p} e shallow s large) = ap (parsed_tokens end) e ∙ spelled_reading ts end p false shallow s large
only_parsed cut end _ (a_program ts {p = p} e shallow s small) = ap (parsed_tokens end) e ∙ spelled_reading ts end p true shallow s small

pub reads_parsed : (text : List ℕ) (r : Result GiottoProgram ReadFault) → Reads text r → r ≡ parsed text
reads_parsed text r h = sym (only_parsed (tokens_of text) (length text) r h)

-- tokens spell at most one program: the one that is parsed

placed : List Token → List PlacedToken
placed [] = []
placed (t ∷ ts) = record { token = t; offset = 0 } ∷ placed ts

bare-placed : (ts : List Token) → bare (placed ts) ≡ ts
unfolding placed
bare-placed [] = refl
bare-placed (t ∷ ts) = ap (λ us. t ∷ us) (bare-placed ts)

pub one_program : (ts : List Token) (p q : GiottoProgram) → Spells ts p → Spells ts q → p ≡ q
one_program ts p q s r =
    let as_p = same_tree (placed ts) 0 p (read_program (placed ts)) (subst (λ y. Spells y p) (sym (bare-placed ts)) s) (parser_says (placed ts) 0) in
    let as_q = same_tree (placed ts) 0 q (read_program (placed ts)) (subst (λ y. Spells y q) (sym (bare-placed ts)) r) (parser_says (placed ts) 0) in
    let same : got p [] ≡ got q [] = sym as_p ∙ as_q in cc
