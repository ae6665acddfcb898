-- The least common multiple of tasks' periods.
use Rattle.std.specs.Prelude.{ℕ, zero, suc, ◌+◌, ◌%◌, ◌==◌, Bool, if◌then◌else◌, List}
use Rattle.std.specs.List.{list_all}

-- all of these numbers divide this one
abbrev pub is_common_multiple : List ℕ → ℕ → Bool
is_common_multiple ks n = list_all (λ k. n % k == 0) ks

-- the first number from n on that all of these divide, searched for among the next `more` numbers
abbrev pub common_multiple_from : ℕ → ℕ → List ℕ → ℕ
common_multiple_from zero n ks = n
common_multiple_from (suc more) n ks = if is_common_multiple ks n then n else common_multiple_from more (n + 1) ks

-- the least common multiple of numbers that divide the period
abbrev pub least_common_multiple : ℕ → List ℕ → ℕ
least_common_multiple period ks = common_multiple_from period 1 ks
