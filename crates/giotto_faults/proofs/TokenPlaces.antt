-- The tokens of a text come before its end, and so does the fault of a text that has no tokens.
use Rattle.std.proofs.Common.{◌≡◌, ℕ, zero, suc, ◌+◌, ◌-◌, ◌<◌, Bool, true, false, List, [], ◌∷◌, ◌++◌, length, Some, None, Ok, Err, refl, arith}
use Rattle.giotto_read.specs.declared.text.tokens.Token.{Token}
use Rattle.giotto_read.specs.declared.text.tokens.PlacedToken.{PlacedToken}
use Rattle.giotto_read.specs.text.Bytes.{is_blank_of_text}
use Rattle.giotto_read.specs.text.Tokens.{FoundToken, first_token, Tokens, after_token, tokens_from, tokens_of}

abbrev pub AllBefore : ℕ → List PlacedToken → Type 0
AllBefore end [] = Unit {0}
AllBefore end (t ∷ ts) = (t.offset < end) × AllBefore end ts

abbrev pub AreBefore : ℕ → Tokens → Type 0
AreBefore end (Ok ts) = AllBefore end ts
AreBefore end (Err offset) = offset < end

one_more : (end : ℕ) (t : Token) (offset : ℕ) (r : Tokens) → offset < end → AreBefore end r → AreBefore end (after_token t offset r)
one_more end t offset (Ok ts) here rest = (here, rest)
one_more end t offset (Err fault) here rest = rest

before_from : (within offset : ℕ) (text : List ℕ) (end : ℕ) → end ≡ offset + length text → AreBefore end (tokens_from within offset text)
before_from within offset [] end is = tt
before_from (suc within) offset (c ∷ cs) end is = before_from within (offset + 1) cs end (omega arith)
before_from zero offset (c ∷ cs) end is = by (λ k. before_from k (offset + 1) cs end (omega arith)) (is_blank_of_text c) refl (first_token (c ∷ cs)) refl
  where
    by : ((k : ℕ) → AreBefore end (tokens_from k (offset + 1) cs)) → (b : Bool) → is_blank_of_text c ≡ b
        → (f : FoundToken) → first_token (c ∷ cs) ≡ f → AreBefore end (tokens_from 0 offset (c ∷ cs))
    by rest true blank f at = rw blank (rest 0)
    by rest false blank None at = rw (blank, at) (omega arith)
    by rest false blank (Some f) at = rw (blank, at) (one_more end f.0 offset (tokens_from (f.1 - 1) (offset + 1) cs) (omega arith) (rest (f.1 - 1)))

pub tokens_before : (text : List ℕ) → AreBefore (length text) (tokens_of text)
tokens_before text = before_from 0 0 text (length text) (omega arith)

pub one_before : (end : ℕ) (before after : List PlacedToken) (t : PlacedToken) → AllBefore end (before ++ t ∷ after) → t.offset < end
one_before end [] after t all = all.0
one_before end (u ∷ us) after t all = one_before end us after t all.1
