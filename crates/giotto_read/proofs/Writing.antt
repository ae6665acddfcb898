-- Tokens written one after another.
use Rattle.std.proofs.Common.{◌≡◌, ◌≢◌, ℕ, zero, suc, List, [], ◌∷◌, ◌++◌, refl}
use Rattle.giotto_text.specs.declared.tokens.Symbol.TheVariants.{Comma}
use Rattle.giotto_text.specs.declared.tokens.Token.{Token}
use Rattle.giotto_text.specs.Canonical.{symbol, text_of}
use Rattle.giotto_read.specs.inner.Printing.{written, comma_before}

pub written_none : (text : List ℕ) → written text [] ≡ text
unfolding written
written_none text = refl

-- the first token, followed by the others
pub written_first : (text : List ℕ) (t : Token) (ts : List Token) → written text (t ∷ ts) ≡ written (written text (t ∷ [])) ts
unfolding written
written_first text t ts = refl

-- tokens, followed by others
pub written-append : (text : List ℕ) (ts us : List Token) → written text (ts ++ us) ≡ written (written text ts) us
unfolding written
written-append text [] us = refl
written-append text (t ∷ ts) us = written-append (text ++ (text_of t ++ 32 ∷ [])) ts us

-- the rules that join tokens written by several calls
pub ruleset writing = (written_none, written_first, written-append)

pub comma_behind : (i : ℕ) → i ≢ 0 → comma_before i ≡ symbol Comma ∷ []
comma_behind zero some = absurd (some refl)
comma_behind (suc i) some = refl
