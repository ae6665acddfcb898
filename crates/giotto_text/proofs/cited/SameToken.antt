-- When two tokens are the same.
use Rattle.std.proofs.Common.{◌≡◌, true, Some, refl, ap, ◌∙◌, sym, arith}
use Rattle.std.specs.Cmp.Lexicographic.{same_text, nat_list_eq_equiv}
use Rattle.std.proofs.lemmas.Bool.Decides.{nat_tests}
use Rattle.std.proofs.lemmas.Option.{same_Some}
use Rattle.giotto_text.specs.declared.tokens.Keyword.{Keyword}
use Rattle.giotto_text.specs.declared.tokens.Keyword.TheVariants as keywords
use Rattle.giotto_text.specs.declared.tokens.Symbol.{Symbol}
use Rattle.giotto_text.specs.declared.tokens.Symbol.TheVariants as symbols
use Rattle.giotto_text.specs.declared.tokens.Token.{Token}
use Rattle.giotto_text.specs.declared.tokens.Token.TheVariants.{Number, Name as Named, Keyword as Word, Symbol as Mark}
use Rattle.giotto_text.specs.Parsing.{same_token}
use Rattle.giotto_text.specs.Tokens.{text_of_keyword, text_of_symbol, keyword_of, symbol_at}

keyword_again : (k : Keyword) → keyword_of (text_of_keyword k) ≡ Some k
keyword_again keywords.Sensor = refl
keyword_again _ = refl

symbol_again : (s : Symbol) → symbol_at (text_of_symbol s) ≡ Some s
symbol_again symbols.Becomes = refl
symbol_again _ = refl

pub same_token_is : (t u : Token) → same_token t u ≡ true → t ≡ u
same_token_is (Word k) (Word l) e =
    let text : text_of_keyword k ≡ text_of_keyword l = same_text (text_of_keyword k) (text_of_keyword l) (sym e) in
    ap Word (same_Some k l (sym (keyword_again k) ∙ ap keyword_of text ∙ keyword_again l))
same_token_is (Mark s) (Mark t) e =
    let text : text_of_symbol s ≡ text_of_symbol t = same_text (text_of_symbol s) (text_of_symbol t) (sym e) in
    ap Mark (same_Some s t (sym (symbol_again s) ∙ ap symbol_at text ∙ symbol_again t))
same_token_is (Named x) (Named y) e = ap Named (same_text x y (sym e))
same_token_is (Number m) (Number n) e = let same : m ≡ n = grind (arith, nat_tests) in ap Number same
same_token_is t u e = absurd (cc)

pub same_token_self : (t : Token) → same_token t t ≡ true
same_token_self (Word k) = nat_list_eq_equiv.refl (text_of_keyword k)
same_token_self (Mark s) = nat_list_eq_equiv.refl (text_of_symbol s)
same_token_self (Named x) = nat_list_eq_equiv.refl x
same_token_self (Number n) = grind (arith, nat_tests)

pub is_this : (t u : Token) → same_token t u ≡ true → u ≡ t
is_this t u e = sym (same_token_is t u e)
