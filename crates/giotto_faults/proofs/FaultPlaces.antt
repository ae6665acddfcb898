-- A text can be cut at the offset of its fault.
use Rattle.std.specs.Prelude.{Result}
use Rattle.std.specs.Str.{IsAscii, IsCharBoundary, IsUtf8}
use Rattle.std.proofs.Common.{◌≡◌, ℕ, zero, suc, ◌-◌, ◌<◌, ◌≤◌, true, List, [], ◌∷◌, length, take, Err, refl, sym, ◌∙◌, subst, arith, lit<}
use Rattle.std.proofs.lemmas.Bool.{and_parts}
use Rattle.std.proofs.lemmas.Bool.Decides.{nat_tests}
use Rattle.std.proofs.lemmas.Str.{IsCharBoundary-from_take, IsCharBoundary-end, IsUtf8-from_ascii}
use Rattle.giotto_read.specs.declared.text.faults.ReadFault.{ReadFault}
use Rattle.giotto_read.specs.declared.text.faults.ReadFault.TheVariants.{Syntax}
use Rattle.giotto_read.specs.text.Parsing.{parsed}
use Rattle.giotto_read.specs.text.Program.{GiottoProgram}
use Rattle.giotto_read.specs.text.Reading.{no_prefix, too_early, ReadsTokens, no_token, too_deep, no_program, too_many_ports, a_program, Reads}
use Rattle.giotto_read.specs.text.Tokens.{Tokens, tokens_of}
use Rattle.giotto_faults.proofs.AsciiFronts.{are_ascii, is_ascii, AsciiUpTo, AsciiUpToEach, AsciiFronts, fronts, one_front}
use Rattle.giotto_faults.proofs.TokenPlaces.{AllBefore, AreBefore, tokens_before, one_before}

as_ascii : (bs : List ℕ) → are_ascii bs ≡ true → IsAscii bs
as_ascii [] all i = lit< tt
as_ascii (b ∷ bs) all zero = let each = and_parts (is_ascii b) (are_ascii bs) all in let small = each.0 in grind (arith, nat_tests)
as_ascii (b ∷ bs) all (suc i) = as_ascii bs (and_parts (is_ascii b) (are_ascii bs) all).1 i

boundary : (text : List ℕ) (n : ℕ) → IsUtf8 text → n ≤ length text → AsciiUpTo 0 text n → IsCharBoundary text n
boundary text n utf8 within ascii =
    let whole : n - 0 ≡ n = omega arith in
    IsCharBoundary-from_take text n utf8 within (IsUtf8-from_ascii (take n text) (as_ascii (take n text) (rw whole at ascii)))

-- the text can be cut at the fault's offset, if this is the result of reading it
Cuttable : List ℕ → Result GiottoProgram ReadFault → Type 0
Cuttable text r = (n : ℕ) → r ≡ Err (Syntax n) → IsCharBoundary text n

cut_at : (text : List ℕ) → IsUtf8 text → (cut : Tokens) (end : ℕ) (r : Result GiottoProgram ReadFault) → end ≡ length text
    → AreBefore end cut → AsciiFronts 0 text cut → ReadsTokens cut end r → Cuttable text r
unfolding Cuttable
cut_at text utf8 cut end _ is before ascii (no_token {offset = m} e) n same =
    let here : m ≡ n = cc in
    let lt : m < end = subst (AreBefore end) e before in
    let up_to : AsciiUpTo 0 text m = subst (AsciiFronts 0 text) e ascii in
    subst (IsCharBoundary text) here (boundary text m utf8 (omega arith) up_to)
cut_at text utf8 cut end _ is before ascii (too_deep ts e deep) n same = absurd (cc)
cut_at text utf8 cut end _ is before ascii (no_program ts e shallow (no_prefix xs t after are p np)) n same =
    let here : t.offset ≡ n = cc in
    let lt = one_before end xs after t (subst (AllBefore end) are (subst (AreBefore end) e before)) in
    let up_to = one_front text xs after t (subst (AsciiUpToEach 0 text) are (subst (AsciiFronts 0 text) e ascii)) in
    subst (IsCharBoundary text) here (boundary text t.offset utf8 (omega arith) up_to)
cut_at text utf8 cut end _ is before ascii (no_program ts e shallow (too_early p ns)) n same =
    let here : end ≡ n = cc in
    subst (IsCharBoundary text) (sym is ∙ here) (IsCharBoundary-end text)
cut_at text utf8 cut end _ is before ascii (too_many_ports ts e shallow s big) n same = absurd (cc)
cut_at text utf8 cut end _ is before ascii (a_program ts e shallow s small) n same = absurd (cc)

pub fault_cuts : (text : List ℕ) (n : ℕ) → IsUtf8 text → Reads text (parsed text) → parsed text ≡ Err (Syntax n) → IsCharBoundary text n
unfolding Cuttable
fault_cuts text n utf8 reads is = cut_at text utf8 (tokens_of text) (length text) (parsed text) refl (tokens_before text) (fronts text) reads n is
