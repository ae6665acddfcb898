-- What is printed of a comparison.
use Rattle.std.specs.Prelude.{ℕ, suc, ◌-◌, ◌==◌, if◌then◌else◌, Bool, List, [], ◌∷◌, ◌++◌, length, filter, Option, Some, None, codes, slice_get}
use Rattle.std.specs.Fmt.{decimal}
use Rattle.std.specs.List.{flat_map, range_with_len}
use Rattle.rig_model.specs.config.Roster.{Rig, name_at}
use Rattle.run_comparisons.specs.Answers.{RunAnswer, answers_of}
use Rattle.run_comparisons.specs.Changes.{changed_tenants, changes_of, in_scope, named_tenants, unnamed_tenants}
use Rattle.run_comparisons.specs.Differences.{differing_places, place_count}
use Rattle.run_comparisons.specs.declared.answers.Subject.TheVariants as subject
use Rattle.run_comparisons.specs.declared.changes.Change.{Change}
use Rattle.run_comparisons.specs.declared.changes.Scope.{Scope}
use Rattle.run_comparisons.specs.declared.changes.Scope.TheVariants as scope

-- the tick after which an answer is given, if this many ticks came up to it
abbrev pub text_of_ticks : ℕ → List ℕ
text_of_ticks ticks = if ticks == 0 then codes "before tick 0" else codes "after tick " ++ decimal (ticks - 1)

-- an answer of the script with this path, or that there is none
abbrev pub text_of_answer : List ℕ → Option RunAnswer → List ℕ
text_of_answer path None = codes "  " ++ (path ++ codes ": no answer\n")
text_of_answer path (Some a) = codes "  " ++ (path ++ (codes ":" ++ (decimal a.number ++ (codes ": " ++ (text_of_ticks a.ticks ++ (codes ": " ++ a.reply))))))

-- that this many answers are the same; `noun` is their name
abbrev pub text_of_same : List ℕ → List ℕ → ℕ → List ℕ
text_of_same name noun count = name ++ (codes ": same " ++ (noun ++ (codes " (" ++ (decimal count ++ codes ")\n"))))

-- that this number of them differ
abbrev pub text_of_different : List ℕ → List ℕ → ℕ → ℕ → List ℕ
text_of_different name noun different count =
    name ++ (codes ": " ++ (decimal different ++ (codes " of " ++ (decimal count ++ (codes " " ++ (noun ++ codes " differ; the first:\n"))))))

-- The two lists of answers of a subject with this name, in the scripts with these paths: that they are the same, or how many differ, and the
-- first that do. They are compared with the tolerance.
abbrev pub text_of_row : ℕ → List ℕ → List ℕ → List ℕ → List ℕ → List RunAnswer → List RunAnswer → List ℕ
text_of_row tolerance name noun path other_path old new = by (differing_places tolerance old new)
  where
    by : List ℕ → List ℕ
    by [] = text_of_same name noun (length old)
    by (place ∷ places) =
        text_of_different name noun (suc (length places)) (place_count old new) ++ (text_of_answer path (slice_get old place) ++ text_of_answer other_path (slice_get new place))

-- the names of these tenants
abbrev pub text_of_names : Rig → List ℕ → List ℕ
text_of_names config [] = codes "nobody"
text_of_names config (t ∷ ts) = name_at config t ++ flat_map (λ u. codes ", " ++ name_at config u) ts

-- which tenants have other commands, whom a retest names for them, and who has other answers and isn't named
abbrev pub text_of_end : Rig → List ℕ → List ℕ → List ℕ → List ℕ
text_of_end config changed named unnamed =
    codes "\nOther commands: " ++ (text_of_names config changed ++ (codes ".\n`retest` names: " ++ (text_of_names config named
    ++ (codes ".\nOther answers, but not named: " ++ (text_of_names config unnamed ++ codes ".\n")))))

-- `path` and `other_path` are those of the scripts, `old` and `new` the answers of their runs
module _ (path other_path : List ℕ) (old new : List RunAnswer) where
  -- the driven lines, if the whole rig is compared
  abbrev pub text_of_driven : ℕ → Scope → List ℕ
  text_of_driven tolerance scope.Rig = text_of_row tolerance (codes "driven lines") (codes "values") path other_path (answers_of subject.Lines old) (answers_of subject.Lines new)
  text_of_driven tolerance (scope.Tenant t) = []

  -- the lines of the operator, which have no tolerance
  abbrev pub text_of_operator : List ℕ
  text_of_operator = text_of_row 0 (codes "operator") (codes "lines") path other_path (answers_of subject.Operator old) (answers_of subject.Operator new)

module _ (tolerance : ℕ) (config : Rig) (path other_path : List ℕ) (old new : List RunAnswer) where
  abbrev pub text_of_tenant : ℕ → List ℕ
  text_of_tenant t = text_of_row tolerance (name_at config t) (codes "answers") path other_path (answers_of (subject.Tenant t) old) (answers_of (subject.Tenant t) new)

  -- the tenants in the order of the roster
  abbrev pub text_of_tenants : Scope → List ℕ
  text_of_tenants s = flat_map text_of_tenant (filter (in_scope s) (range_with_len 0 (length config.tenants)))

  -- `is_source t s`: a change of s calls for a retest of t
  abbrev pub text_of_comparison : Scope → (ℕ → ℕ → Bool) → List ℕ
  text_of_comparison s is_source =
      text_of_tenants s ++ (text_of_driven path other_path old new tolerance s ++ (text_of_operator path other_path old new ++ end (changes_of tolerance old new (length config.tenants))))
    where
      end : List Change → List ℕ
      end changes = text_of_end config (changed_tenants changes) (named_tenants is_source changes) (unnamed_tenants is_source changes s)
