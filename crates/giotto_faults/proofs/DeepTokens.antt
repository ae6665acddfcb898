-- If tokens nest too deep, there is a token at which they do.
use Rattle.std.specs.Prelude.{nat_le}
use Rattle.std.proofs.Common.{◌≡◌, ℕ, Bool, true, false, List, [], ◌∷◌, Some, None, Ok, Err, refl, ap, sym, ◌∙◌}
use Rattle.giotto_read.specs.declared.text.faults.ReadFault.TheVariants.{TooDeep, TooMany}
use Rattle.giotto_read.specs.declared.text.tokens.PlacedToken.{PlacedToken}
use Rattle.giotto_read.specs.text.Nesting.{nests_too_deep, nests_too_deep_from, open_behind}
use Rattle.giotto_read.specs.text.Parsing.{Outcome, got, stopped, read_program, reading, read_all, parsed_tokens}
use Rattle.giotto_read.specs.text.Program.{GiottoProgram}
use Rattle.giotto_read.specs.text.Reading.{has_small_tasks}
use Rattle.giotto_read.specs.text.Tokens.{tokens_of, bare}
use Rattle.giotto_faults.specs.Nesting.{first_too_deep}

shallow_where_none : (n : ℕ) (ts : List PlacedToken) → first_too_deep n ts ≡ None → nests_too_deep_from n (bare ts) ≡ false
shallow_where_none n [] none = refl
shallow_where_none n (t ∷ ts) none = by (shallow_where_none (open_behind n t.token) ts) (nat_le 33 (open_behind n t.token)) refl
  where
    by : (first_too_deep (open_behind n t.token) ts ≡ None → nests_too_deep_from (open_behind n t.token) (bare ts) ≡ false)
        → (b : Bool) → nat_le 33 (open_behind n t.token) ≡ b → nests_too_deep_from n (bare (t ∷ ts)) ≡ false
    by rest true here = let some : Some t.offset ≡ None = rw here at none in absurd (cc)
    by rest false here = rw here (rest (rw here at none))

never_deep : (end : ℕ) (o : Outcome GiottoProgram) → reading end o ≡ Err TooDeep → ⊥
never_deep end (got p []) e = by (has_small_tasks p) refl
  where
    by : (b : Bool) → has_small_tasks p ≡ b → ⊥
    by true small = let bad : Ok p ≡ Err TooDeep = rw small at e in cc
    by false small = let bad : Err TooMany ≡ Err TooDeep = rw small at e in cc
never_deep end (got p (t ∷ ts)) e = cc
never_deep end (stopped []) e = cc
never_deep end (stopped (t ∷ ts)) e = cc

deep_tokens : (end : ℕ) (ts : List PlacedToken) → read_all end ts ≡ Err TooDeep → nests_too_deep (bare ts) ≡ true
deep_tokens end ts e = by (nests_too_deep (bare ts)) refl
  where
    by : (b : Bool) → nests_too_deep (bare ts) ≡ b → b ≡ true
    by true is = refl
    by false is = absurd (never_deep end (read_program ts) (rw is at e))

-- a text that is refused for its nesting has a token at which it nests too deep
pub deep_somewhere : (text : List ℕ) (end : ℕ) (ts : List PlacedToken) → tokens_of text ≡ Ok ts → parsed_tokens end (tokens_of text) ≡ Err TooDeep
    → first_too_deep 0 ts ≡ None → ⊥
deep_somewhere text end ts cut deep none =
    let tokens_deep = deep_tokens end ts (ap (parsed_tokens end) (sym cut) ∙ deep) in
    let shallow = shallow_where_none 0 ts none in
    let bad : true ≡ false = sym tokens_deep ∙ shallow in cc
