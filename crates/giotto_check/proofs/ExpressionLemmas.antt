-- The value of an expression, given the values of more ports than it reads.
use Rattle.std.proofs.Common.{◌≡◌, ◌≤◌, Bool, true, false, cond, ◌||◌, ℤ, pos, List, [], ◌∷◌, ◌++◌, length, Option, Some, refl, ap, arith}
use Rattle.std.specs.List.{list_all, zip}
use Rattle.std.specs.Prelude.{unwrap_or}
use Rattle.std.proofs.lemmas.Bool.{and_parts, false≢true}
use Rattle.giotto_tasks.specs.Arithmetic as arithmetic
use Rattle.giotto_tasks.specs.declared.names.Name.{Name}
use Rattle.giotto_tasks.specs.Meaning.{value_of}
use Rattle.giotto_tasks.specs.Names.{same_name, is_among, value_at}
use Rattle.giotto_tasks.specs.Syntax.{Expression, number, port, unary, binary}
use Rattle.giotto_rules.specs.Declarations.{names_read}
use Rattle.giotto_check.proofs.TestLists.{all_in_parts}

-- a name in the first list has its value there
first_value : (ns ms : List Name) (vs : List ℤ) (x : Name) → is_among ns x ≡ true → length ns ≤ length vs → value_at (zip (ns ++ ms) vs) x ≡ value_at (zip ns vs) x
first_value [] ms vs x there le = absurd (false≢true there)
first_value (n ∷ ns) ms [] x there le = absurd (omega (arith, le))
first_value (n ∷ ns) ms (v ∷ vs) x there le = by (same_name n x) there (λ t. first_value ns ms vs x t (omega (arith, le)))
  where
    by : (b : Bool) → (b || is_among ns x) ≡ true → (is_among ns x ≡ true → value_at (zip (ns ++ ms) vs) x ≡ value_at (zip ns vs) x)
        → cond b (Some v) (value_at (zip (ns ++ ms) vs) x) ≡ cond b (Some v) (value_at (zip ns vs) x)
    by true t further = refl
    by false t further = further t

pub value_of_first : (e : Expression) (ns ms : List Name) (vs : List ℤ) → list_all (is_among ns) (names_read e) ≡ true → length ns ≤ length vs
    → value_of e (zip (ns ++ ms) vs) ≡ value_of e (zip ns vs)
value_of_first (number z) ns ms vs reads le = refl
value_of_first (port x) ns ms vs reads le = ap (λ (o : Option ℤ). unwrap_or o (pos 0)) (first_value ns ms vs x (and_parts (is_among ns x) true reads).0 le)
value_of_first (unary o e) ns ms vs reads le = ap (arithmetic.unary o) (value_of_first e ns ms vs reads le)
value_of_first (binary o a b) ns ms vs reads le =
    let both = all_in_parts (is_among ns) (names_read a) (names_read b) reads in
    let left = value_of_first a ns ms vs both.0 le in
    let right = value_of_first b ns ms vs both.1 le in
    rw (left, right) refl
