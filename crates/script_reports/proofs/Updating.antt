-- The updated lines of a run, one line of the file further.
use Rattle.std.proofs.Common.{◌≡◌, ◌+◌, ◌<◌, true, false, List, [], ◌∷◌, ◌++◌, length, drop, get_or, map, ℕ, refl, ap, ◌∙◌, append_assoc}
use Rattle.std.proofs.lemmas.List.{drop_more}
use Rattle.std.specs.List.{flat_map, join_by}
use Rattle.script_reports.specs.cited.Runs.{is_reply, is_remark}
use Rattle.script_reports.specs.cited.Updates.{reply_parts, updated_parts}

module _ (replies parts : List (List ℕ)) (place at : ℕ) (within : at < length parts) where
  pub reply_left_out : is_reply (get_or parts at []) ≡ true → updated_parts replies place (drop at parts) ≡ updated_parts replies place (drop (at + 1) parts)
  reply_left_out is = rw (drop_more parts at [] within, is) refl

  pub remark_kept : is_reply (get_or parts at []) ≡ false → is_remark (get_or parts at []) ≡ true
      → updated_parts replies place (drop at parts) ≡ get_or parts at [] ∷ updated_parts replies place (drop (at + 1) parts)
  remark_kept none is = rw (drop_more parts at [] within, none, is) refl

  pub line_answered : is_reply (get_or parts at []) ≡ false → is_remark (get_or parts at []) ≡ false
      → updated_parts replies place (drop at parts) ≡ get_or parts at [] ∷ (reply_parts (get_or replies place []) ++ updated_parts replies (place + 1) (drop (at + 1) parts))
  line_answered none other = rw (drop_more parts at [] within, none, other) refl

-- texts joined by a separator are their bytes joined by it
pub joined : {X : Type 0} (f : X → List ℕ) (separator : List ℕ) (xs : List X) → join_by f separator xs ≡ join_by (λ part. part) separator (map f xs)
joined f separator [] = refl
joined {X} f separator (x ∷ xs) = ap (λ rest. f x ++ rest) (by xs)
  where
    by : (ys : List X) → flat_map (λ y. separator ++ f y) ys ≡ flat_map (λ part. separator ++ part) (map f ys)
    by [] = refl
    by (y ∷ ys) = ap (λ rest. (separator ++ f y) ++ rest) (by ys)

-- one more line, and more lines, after those before
pub one_kept : (before after rest all : List (List ℕ)) (part : List ℕ) → after ≡ before ++ part ∷ [] → before ++ (part ∷ rest) ≡ all → after ++ rest ≡ all
one_kept before after rest all part grown h = ap (λ parts. parts ++ rest) grown ∙ (append_assoc before (part ∷ []) rest ∙ h)

pub more_kept : (before after more rest all : List (List ℕ)) → after ≡ before ++ more → before ++ (more ++ rest) ≡ all → after ++ rest ≡ all
more_kept before after more rest all grown h = ap (λ parts. parts ++ rest) grown ∙ (append_assoc before more rest ∙ h)
