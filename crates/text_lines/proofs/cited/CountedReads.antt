-- Counting the reads that gave bytes.
use Rattle.std.proofs.Common.{◌≡◌, ℕ, ◌+◌, ◌*◌, ◌≤◌, List, ◌++◌, length, Option, Some, None, IsSomeAnd, sym, ap, ◌∙◌, append_assoc, length-append, arith}
use Rattle.text_lines.specs.cited.Reading.{AreReads, AreCounted}
use Rattle.text_lines.specs.declared.lines.TheConstants.{PAGE}

both_reads : (m n : ℕ) (xs ys zs : List ℕ) → AreReads m xs ys → AreReads n ys zs → AreReads (m + n) xs zs
both_reads m n xs ys zs one other = record {
  taken = one.taken ++ other.taken;
  split = one.split ∙ ap (λ l. one.taken ++ l) other.split ∙ sym (append_assoc one.taken other.taken zs);
  least = rw (length-append one.taken other.taken) (omega (arith, one.least, other.least));
  most = rw (length-append one.taken other.taken) (omega (arith, one.most, other.most));
}

-- some reads, and then others
pub both_counted : (a b c : ℕ) (old mid new : Option (List ℕ)) → AreCounted a b old mid → AreCounted b c mid new → AreCounted a c old new
both_counted a b c None None new one other = omega (arith, one, other)
both_counted a b c None (Some ys) None one other = absurd other
both_counted a b c None (Some ys) (Some zs) one other = let n = other.0 in let is = other.1 in omega (arith, one, is)
both_counted a b c (Some xs) None new one other = absurd one
both_counted a b c (Some xs) (Some ys) None one other = absurd other
both_counted a b c (Some xs) (Some ys) (Some zs) one other =
    let first = one.1 in let second = other.1 in
    (one.0 + other.0, omega (arith, first, second), both_reads one.0 other.0 xs ys zs one.2 other.2)

-- what was taken by reads that were counted from the first on
pub taken_by : (count : ℕ) (bytes : List ℕ) (after : Option (List ℕ)) → AreCounted 0 count (Some bytes) after
    → IsSomeAnd after (λ more. (taken : List ℕ) × (bytes ≡ taken ++ more) × (count ≤ length taken) × (length taken ≤ PAGE * count))
taken_by count bytes None counted = absurd counted
taken_by count bytes (Some more) counted =
    let reads = counted.2 in
    let is = counted.1 in
    let as_many : count ≡ counted.0 = omega (arith, is) in
    let least = reads.least in
    let most = reads.most in
    (reads.taken, reads.split, omega (arith, as_many, least), omega (arith, as_many, most))
