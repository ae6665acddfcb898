-- With tolerance 0 no place differs exactly if the replies are the same.
use Rattle.std.proofs.Common.{◌≡◌, ◌↔◌, ◌<◌, ℕ, suc, max, not, Bool, true, false, List, [], ◌∷◌, length, map, filter, Option, Some, None, slice_get, refl, sym, ap, ◌∙◌, arith}
use Rattle.std.proofs.Math.ListN.{length-map}
use Rattle.std.proofs.lemmas.Option.{slice_get-map}
use Rattle.std.specs.List.{list_any, range_with_len}
use Rattle.giotto_tasks.proofs.cited.NameLemmas.{same_name_is, same_name_self}
use Rattle.giotto_tasks.specs.Names.{same_name}
use Rattle.run_comparisons.specs.Answers.{RunAnswer}
use Rattle.run_comparisons.specs.Differences.{are_different, differ_at, differing_places, place_count, reply_at}
use Rattle.run_comparisons.specs.inner.Replies.{replies_of}
use Rattle.run_comparisons.proofs.Listing.{any_at}

module _ (p : ℕ → Bool) where
  none_among : (ks : List ℕ) → filter p ks ≡ [] → list_any p ks ≡ false
  none_among [] none = refl
  none_among (k ∷ ks) none = by (p k) refl (λ rest. none_among ks rest)
    where
      by : (b : Bool) → p k ≡ b → (filter p ks ≡ [] → list_any p ks ≡ false) → list_any p (k ∷ ks) ≡ false
      by true is later = let one : k ∷ filter p ks ≡ [] = rw is at none in absurd (cc)
      by false is later = let rest : filter p ks ≡ [] = rw is at none in rw is (later rest)

  all_fail : ((k : ℕ) → p k ≡ false) → (ks : List ℕ) → filter p ks ≡ []
  all_fail fails [] = refl
  all_fail fails (k ∷ ks) = rw (fails k) (all_fail fails ks)

  fails_at : (n : ℕ) → filter p (range_with_len 0 n) ≡ [] → (k : ℕ) → k < n → p k ≡ false
  fails_at n none k lt = by (p k) refl
    where
      by : (b : Bool) → p k ≡ b → p k ≡ false
      by true is = let found = sym (any_at p n k lt is) ∙ none_among (range_with_len 0 n) none in absurd (cc)
      by false is = is

-- texts that don't differ are the same
not_different : (x y : List ℕ) → are_different 0 (Some x) (Some y) ≡ false → x ≡ y
not_different x y is = by (same_name x y) refl
  where
    by : (b : Bool) → same_name x y ≡ b → x ≡ y
    by true same = same_name_is x y same
    by false other = let wrong : not false ≡ false = rw other at is in absurd (cc)

same_texts : (xs ys : List (List ℕ)) → ((k : ℕ) → k < max (length xs) (length ys) → are_different 0 (slice_get xs k) (slice_get ys k) ≡ false) → xs ≡ ys
same_texts [] [] each = refl
same_texts [] (y ∷ ys) each = let wrong = each 0 (omega arith) in absurd (cc)
same_texts (x ∷ xs) [] each = let wrong = each 0 (omega arith) in absurd (cc)
same_texts (x ∷ xs) (y ∷ ys) each =
    let first = not_different x y (each 0 (omega arith)) in
    let later = same_texts xs ys (λ k lt. each (suc k) (omega arith)) in
    ap (λ z. z ∷ xs) first ∙ ap (λ (zs : List (List ℕ)). y ∷ zs) later

itself : (o : Option (List ℕ)) → are_different 0 o o ≡ false
itself None = refl
itself (Some x) = rw (same_name_self x) refl

module _ (old new : List RunAnswer) where
  reply_is : (answers : List RunAnswer) (k : ℕ) → slice_get (replies_of answers) k ≡ reply_at answers k
  reply_is answers k = slice_get-map (λ (a : RunAnswer). a.reply) answers k

  from_none : differing_places 0 old new ≡ [] → replies_of old ≡ replies_of new
  from_none none = same_texts (replies_of old) (replies_of new) each
    where
      each : (k : ℕ) → k < max (length (replies_of old)) (length (replies_of new)) → are_different 0 (slice_get (replies_of old) k) (slice_get (replies_of new) k) ≡ false
      each k lt =
          let long : length (replies_of old) ≡ length old = length-map old (λ (a : RunAnswer). a.reply) in
          let other : length (replies_of new) ≡ length new = length-map new (λ (a : RunAnswer). a.reply) in
          let within : k < place_count old new = omega arith in
          ap (λ (o : Option (List ℕ)). are_different 0 o (slice_get (replies_of new) k)) (reply_is old k)
          ∙ (ap (are_different 0 (reply_at old k)) (reply_is new k) ∙ fails_at (differ_at 0 old new) (place_count old new) none k within)

  to_none : replies_of old ≡ replies_of new → differing_places 0 old new ≡ []
  to_none same = all_fail (differ_at 0 old new) fails (range_with_len 0 (place_count old new))
    where
      fails : (k : ℕ) → differ_at 0 old new k ≡ false
      fails k =
          let alike : reply_at old k ≡ reply_at new k = sym (reply_is old k) ∙ (ap (λ (rs : List (List ℕ)). slice_get rs k) same ∙ reply_is new k) in
          ap (λ (o : Option (List ℕ)). are_different 0 o (reply_at new k)) alike ∙ itself (reply_at new k)

  pub same_if_none : differing_places 0 old new ≡ [] ↔ replies_of old ≡ replies_of new
  same_if_none = (from_none, to_none)
