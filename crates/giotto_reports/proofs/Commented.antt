-- A text from a given place on, inside or outside of a comment.
use Rattle.std.proofs.Common.{◌≡◌, ℕ, Bool, true, false, ◌||◌, cond, List, ◌∷◌, refl}
use Rattle.giotto_reports.specs.Comments.{is_line_end, begins_comment, blank, one_line, rest_of_comment}

abbrev pub from : Bool → List ℕ → List ℕ
from in_comment text = cond in_comment (rest_of_comment text) (one_line text)

pub from-line_end : (b : Bool) (c : ℕ) (cs : List ℕ) → is_line_end c ≡ true → from b (c ∷ cs) ≡ blank ∷ from false cs
from-line_end true c cs e = rw e refl
from-line_end false c cs e = rw e refl

pub from-other : (b : Bool) (c : ℕ) (cs : List ℕ) → is_line_end c ≡ false
    → from b (c ∷ cs) ≡ cond (b || begins_comment (c ∷ cs)) blank c ∷ from (b || begins_comment (c ∷ cs)) cs
from-other true c cs e = rw e refl
from-other false c cs e = rw e (by (begins_comment (c ∷ cs)))
  where
    by : (begins : Bool) → cond begins (blank ∷ rest_of_comment cs) (c ∷ one_line cs) ≡ cond begins blank c ∷ from begins cs
    by true = refl
    by false = refl
