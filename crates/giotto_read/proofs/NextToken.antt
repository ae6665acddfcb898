-- The next token.
use Rattle.std.proofs.Common.{◌≡◌, ◌≢◌, ℕ, zero, suc, ◌+◌, ◌^◌, ◌<◌, ◌≤◌, ◌⊎◌, inl, inr, true, false, List, [], ◌∷◌, ◌++◌, length, Option, Some, None, slice_get, get_or, sym, ap, ◌∙◌, arith, length-append}
use Rattle.std.proofs.lemmas.List.{length-map}
use Rattle.std.proofs.lemmas.Option.{none-some, same_Some, slice_get_cases}
use Rattle.std.specs.Option.{is_some, IfSome, IfNone}
use Rattle.giotto_read.specs.inner.Doing.{with_end, ComesNext}
use Rattle.giotto_read.specs.declared.reader.Reader.{Reader}
use Rattle.giotto_text.specs.declared.tokens.PlacedToken.{PlacedToken}
use Rattle.giotto_text.specs.declared.tokens.Token.{Token}
use Rattle.giotto_text.specs.declared.tokens.Token.TheVariants.{Number}
use Rattle.giotto_text.specs.Parsing.{end_mark}
use Rattle.giotto_text.specs.Tokens.{bare}

with_end_len : (ts : List PlacedToken) → length (with_end ts) ≡ length ts + 1
with_end_len ts = length-append (bare ts) (end_mark ∷ []) ∙ ap (λ n. n + 1) (length-map ts (λ p. p.token))

pub next_token : (r : Reader) → (t : Token) × ComesNext r t
next_token r = by (slice_get_cases (with_end r.tokens.now) r.at).1
  where
    by : ((t : Token) × (r.at < length (with_end r.tokens.now)) × (slice_get (with_end r.tokens.now) r.at ≡ Some t) × (get_or (with_end r.tokens.now) r.at t ≡ t)) ⊎ ((length (with_end r.tokens.now) ≤ r.at) × (slice_get (with_end r.tokens.now) r.at ≡ None)) → (t : Token) × ComesNext r t
    by (inl x) = (x.0, x.2)
    by (inr x) = let within : r.at ≤ length r.tokens.now = r.within in absurd (omega (arith, x.0, with_end_len r.tokens.now))

end_at : (ts : List Token) (i : ℕ) (t : Token) → slice_get (ts ++ end_mark ∷ []) i ≡ Some t → t ≢ end_mark → i < length ts
end_at [] zero t e other = absurd (other (same_Some t end_mark (sym e)))
end_at [] (suc i) t e other = absurd (none-some t e)
end_at (x ∷ ts) zero t e other = omega arith
end_at (x ∷ ts) (suc i) t e other = let lt = end_at ts i t e other in omega (arith, lt)

-- a next token other than the end mark is within the list
pub room : (r : Reader) (t : Token) → ComesNext r t → t ≢ end_mark → r.at + 1 ≤ length r.tokens.now
room r t e other = let lt = end_at (bare r.tokens.now) r.at t e other in omega (arith, lt, length-map r.tokens.now (λ p. p.token))

pub room_behind : (r : Reader) (n : ℕ) → n ≤ 2 ^ 63 → ComesNext r (Number n) → r.at + 1 ≤ length r.tokens.now
room_behind r n le e = room r (Number n) e (λ same. let m : n ≡ 2 ^ 63 + 1 = cc in omega (arith, le, m))

pub same_number : (r : Reader) (m n : ℕ) → ComesNext r (Number m) → ComesNext r (Number n) → m ≡ n
same_number r m n e f = let same : Number m ≡ Number n = same_Some (Number m) (Number n) (sym e ∙ f) in cc

-- what is known about an optional value

pub at_some : {X : Type 0} {P : X → Type 0} (o : Option X) → true ≡ is_some o → IfSome o P → (x : X) × P x
at_some (Some x) e p = (x, p)
at_some None e p = absurd (cc)

pub at_none : {X Q : Type 0} (o : Option X) → false ≡ is_some o → IfNone o Q → Q
at_none (Some x) e q = absurd (cc)
at_none None e q = q
