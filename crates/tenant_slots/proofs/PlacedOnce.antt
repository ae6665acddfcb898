-- Among items of different names, an item that passes a test by its name is the first one, wherever it is.
use Rattle.std.proofs.Common.{◌≡◌, ℕ, zero, suc, ◌+◌, Bool, true, false, not, cond, List, [], ◌∷◌, map, Some, refl, sym, ap, ◌∙◌, arith}
use Rattle.std.specs.Prelude.{slice_get}
use Rattle.std.specs.List.{position_from}
use Rattle.std.proofs.lemmas.Bool.{and_parts, or_left, or_right, false≢true}
use Rattle.giotto_tasks.specs.declared.names.Name.{Name}
use Rattle.giotto_tasks.specs.Names.{same_name, is_among}
use Rattle.giotto_tasks.specs.Sound.{all_different}
use Rattle.giotto_tasks.proofs.cited.NameLemmas.{same_name_self}

module _ {X : Type 0} (name : X → Name) where
  among_at : (xs : List X) (k : ℕ) (a : X) → slice_get xs k ≡ Some a → is_among (map name xs) (name a) ≡ true
  among_at [] k a at = absurd (cc)
  among_at (y ∷ ys) zero a at =
      let one : y ≡ a = cc in or_left (same_name (name y) (name a)) (is_among (map name ys) (name a)) (ap (λ z. same_name (name z) (name a)) one ∙ same_name_self (name a))
  among_at (y ∷ ys) (suc k) a at = or_right (same_name (name y) (name a)) (is_among (map name ys) (name a)) (among_at ys k a at)

  placed_once : (test : X → Bool) (x : Name) → ((a : X) → test a ≡ true → name a ≡ x) → (i : ℕ) (xs : List X) (k : ℕ) (a : X) → all_different (map name xs) ≡ true → slice_get xs k ≡ Some a → test a ≡ true
      → position_from test i xs ≡ Some (i + k)
  placed_once test x named i [] k a different at passes = absurd (cc)
  placed_once test x named i (y ∷ ys) zero a different at passes =
      let one : y ≡ a = cc in
      let none : i ≡ i + 0 = omega arith in
      ap (λ b. cond b (Some i) (position_from test (i + 1) ys)) (ap test one ∙ passes) ∙ ap Some none
  placed_once test x named i (y ∷ ys) (suc k) a different at passes =
      let both = and_parts (not (is_among (map name ys) (name y))) (all_different (map name ys)) different in
      let further : i + 1 + k ≡ i + suc k = omega arith in
      ap (λ b. cond b (Some i) (position_from test (i + 1) ys)) (other (test y) refl both.0) ∙ placed_once test x named (i + 1) ys k a both.1 at passes ∙ ap Some further
    where
      other : (b : Bool) → test y ≡ b → not (is_among (map name ys) (name y)) ≡ true → b ≡ false
      other false e once = refl
      other true e once =
          let same : name y ≡ name a = named y e ∙ sym (named a passes) in
          absurd (false≢true (sym (ap (λ n. not (is_among (map name ys) n)) same ∙ ap not (among_at ys k a at)) ∙ once))

  -- the same, if the search begins at place 0
  pub placed_first : (test : X → Bool) (x : Name) → ((a : X) → test a ≡ true → name a ≡ x) → (xs : List X) (k : ℕ) (a : X) → all_different (map name xs) ≡ true → slice_get xs k ≡ Some a → test a ≡ true
      → position_from test 0 xs ≡ Some k
  placed_first test x named xs k a different at passes = let from : 0 + k ≡ k = omega arith in placed_once test x named 0 xs k a different at passes ∙ ap Some from
