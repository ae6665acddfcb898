-- What changed for each tenant between two runs, and whose changes a retest names.
use Rattle.std.specs.Prelude.{◌==◌, ◌&&◌, ◌||◌, not, nat_eq, ℕ, Bool, true, false, List, [], ◌∷◌, length, map, filter, slice_index_or}
use Rattle.std.specs.Cmp.Lexicographic.{pointwise}
use Rattle.std.specs.List.{list_any, range_with_len}
use Rattle.run_comparisons.specs.Answers.{RunAnswer, answers_of}
use Rattle.run_comparisons.specs.Differences.{differing_places}
use Rattle.run_comparisons.specs.declared.answers.Subject.TheVariants as subject
use Rattle.run_comparisons.specs.declared.changes.Change.{Change}
use Rattle.run_comparisons.specs.declared.changes.Scope.{Scope}
use Rattle.run_comparisons.specs.declared.changes.Scope.TheVariants as scope

-- whether the lines of these answers are not the same, one by one
abbrev pub have_other_lines : List RunAnswer → List RunAnswer → Bool
have_other_lines old new = not (pointwise (pointwise nat_eq) (map (λ (a : RunAnswer). a.line) old) (map (λ (a : RunAnswer). a.line) new))

abbrev pub is_not_empty : List ℕ → Bool
is_not_empty [] = false
is_not_empty (place ∷ places) = true

-- what changed for the tenant at place t, with this tolerance
abbrev pub change_of : ℕ → List RunAnswer → List RunAnswer → ℕ → Change
change_of tolerance old new t = by (answers_of (subject.Tenant t) old) (answers_of (subject.Tenant t) new)
  where
    by : List RunAnswer → List RunAnswer → Change
    by before after = record { lines = have_other_lines before after; answers = is_not_empty (differing_places tolerance before after) }

-- what changed for each of n tenants
abbrev pub changes_of : ℕ → List RunAnswer → List RunAnswer → ℕ → List Change
changes_of tolerance old new n = map (change_of tolerance old new) (range_with_len 0 n)

-- nothing changed
abbrev pub no_change : Change
no_change = record { lines = false; answers = false }

abbrev pub change_at : List Change → ℕ → Change
change_at changes t = slice_index_or changes t no_change

-- whether a tenant is compared
abbrev pub in_scope : Scope → ℕ → Bool
in_scope scope.Rig t = true
in_scope (scope.Tenant u) t = t == u

-- `is_source t s`: a change of s calls for a retest of t
module _ (is_source : ℕ → ℕ → Bool) (changes : List Change) where
  -- the tenant at place s has other lines, and is the one at place t or a source of it
  abbrev pub calls_for : ℕ → ℕ → Bool
  calls_for t s = (change_at changes s).lines && (s == t || is_source t s)

  -- a retest names the tenant at place t
  abbrev pub is_named : ℕ → Bool
  is_named t = list_any (calls_for t) (range_with_len 0 (length changes))

  -- the tenants that are named
  abbrev pub named_tenants : List ℕ
  named_tenants = filter is_named (range_with_len 0 (length changes))

  -- the tenant at place t is compared, has other answers, and isn't named
  abbrev pub is_unnamed : Scope → ℕ → Bool
  is_unnamed s t = in_scope s t && ((change_at changes t).answers && not (is_named t))

  abbrev pub unnamed_tenants : Scope → List ℕ
  unnamed_tenants s = filter (is_unnamed s) (range_with_len 0 (length changes))

-- the tenants with other lines
abbrev pub changed_tenants : List Change → List ℕ
changed_tenants changes = filter (λ t. (change_at changes t).lines) (range_with_len 0 (length changes))
