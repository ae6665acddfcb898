-- Each kind of token is tried, and those that pass are kept.
use Rattle.std.specs.Prelude.{Contains, filter}
use Rattle.std.proofs.Common.{◌≡◌, zero, suc, Bool, true, false, List, [], ◌∷◌, refl, sym, ◌∙◌, ap, arith, lit<}
use Rattle.giotto_read.specs.declared.text.tokens.Keyword.TheVariants as keywords
use Rattle.giotto_read.specs.declared.text.tokens.Symbol.TheVariants as symbols
use Rattle.giotto_faults.specs.declared.kinds.TheConstants.{KINDS}
use Rattle.giotto_faults.specs.declared.kinds.TokenKind.{TokenKind}
use Rattle.giotto_faults.specs.declared.kinds.TokenKind.TheVariants.{Name, Number, Keyword, Symbol}

one_later : {X : Type 0} (y x : X) (xs : List X) → Contains xs x → Contains (y ∷ xs) x
one_later y x xs c = (suc c.0, omega (arith, c.1), c.2)

-- what passes a test is kept by a filter
pub kept : {X : Type 0} (p : X → Bool) (xs : List X) (x : X) → Contains xs x → p x ≡ true → Contains (filter p xs) x
kept p [] x (k, lt, e) h = absurd (omega arith)
kept p (y ∷ ys) x (zero, lt, e) h = let here : p y ≡ true = ap p e ∙ h in rw here (0, omega arith, e)
kept p (y ∷ ys) x (suc k, lt, e) h = by (kept p ys x (k, omega arith, e) h) (p y) refl
  where
    by : Contains (filter p ys) x → (b : Bool) → p y ≡ b → Contains (filter p (y ∷ ys)) x
    by rest true here = rw here (one_later y x (filter p ys) rest)
    by rest false here = rw here rest

-- and nothing else
pub passes : {X : Type 0} (p : X → Bool) (xs : List X) (x : X) → Contains (filter p xs) x → p x ≡ true
passes p [] x (k, lt, e) = absurd (omega arith)
passes p (y ∷ ys) x c = by (passes p ys x) (p y) refl
  where
    first : (Contains (filter p ys) x → p x ≡ true) → p y ≡ true → Contains (y ∷ filter p ys) x → p x ≡ true
    first rest here (zero, lt, e) = sym (ap p e) ∙ here
    first rest here (suc k, lt, e) = rest (k, omega arith, e)

    by : (Contains (filter p ys) x → p x ≡ true) → (b : Bool) → p y ≡ b → p x ≡ true
    by rest true here = first rest here (rw here at c)
    by rest false here = rest (rw here at c)

pub each_kind : (kind : TokenKind) → Contains KINDS kind
each_kind Name = (0, lit< tt, refl)
each_kind Number = (1, lit< tt, refl)
each_kind (Keyword keywords.Sensor) = (2, lit< tt, refl)
each_kind (Keyword keywords.Actuator) = (3, lit< tt, refl)
each_kind (Keyword keywords.Output) = (4, lit< tt, refl)
each_kind (Keyword keywords.Task) = (5, lit< tt, refl)
each_kind (Keyword keywords.State) = (6, lit< tt, refl)
each_kind (Keyword keywords.Mode) = (7, lit< tt, refl)
each_kind (Keyword keywords.Period) = (8, lit< tt, refl)
each_kind (Keyword keywords.ActFreq) = (9, lit< tt, refl)
each_kind (Keyword keywords.ExitFreq) = (10, lit< tt, refl)
each_kind (Keyword keywords.TaskFreq) = (11, lit< tt, refl)
each_kind (Keyword keywords.Start) = (12, lit< tt, refl)
each_kind (Keyword keywords.Do) = (13, lit< tt, refl)
each_kind (Keyword keywords.If) = (14, lit< tt, refl)
each_kind (Keyword keywords.Else) = (15, lit< tt, refl)
each_kind (Keyword keywords.Repeat) = (16, lit< tt, refl)
each_kind (Keyword keywords.Line) = (17, lit< tt, refl)
each_kind (Keyword keywords.Grant) = (18, lit< tt, refl)
each_kind (Symbol symbols.Becomes) = (19, lit< tt, refl)
each_kind (Symbol symbols.Plus) = (20, lit< tt, refl)
each_kind (Symbol symbols.Minus) = (21, lit< tt, refl)
each_kind (Symbol symbols.Star) = (22, lit< tt, refl)
each_kind (Symbol symbols.Slash) = (23, lit< tt, refl)
each_kind (Symbol symbols.Percent) = (24, lit< tt, refl)
each_kind (Symbol symbols.EqualEqual) = (25, lit< tt, refl)
each_kind (Symbol symbols.NotEqual) = (26, lit< tt, refl)
each_kind (Symbol symbols.Less) = (27, lit< tt, refl)
each_kind (Symbol symbols.AtMost) = (28, lit< tt, refl)
each_kind (Symbol symbols.Greater) = (29, lit< tt, refl)
each_kind (Symbol symbols.AtLeast) = (30, lit< tt, refl)
each_kind (Symbol symbols.AndAnd) = (31, lit< tt, refl)
each_kind (Symbol symbols.OrOr) = (32, lit< tt, refl)
each_kind (Symbol symbols.Not) = (33, lit< tt, refl)
each_kind (Symbol symbols.Semicolon) = (34, lit< tt, refl)
each_kind (Symbol symbols.Comma) = (35, lit< tt, refl)
each_kind (Symbol symbols.OpenParenthesis) = (36, lit< tt, refl)
each_kind (Symbol symbols.CloseParenthesis) = (37, lit< tt, refl)
each_kind (Symbol symbols.OpenBrace) = (38, lit< tt, refl)
each_kind (Symbol symbols.CloseBrace) = (39, lit< tt, refl)
