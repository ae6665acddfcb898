-- A program breaks no rule exactly if it keeps each of them.
use Rattle.std.proofs.Common.{◌≡◌, ℕ, ◌+◌, ◌-◌, Bool, true, false, cond, List, [], ◌∷◌, Option, Some, None, refl, subst}
use Rattle.std.specs.List.{AllByRecursion, slice_get}
use Rattle.std.proofs.lemmas.Option.{get_or_from_slice_get, slice_get_within}
use Rattle.giotto_tasks.proofs.cited.ListLemmas.{all_at}
use Rattle.giotto_text.specs.Program.{GiottoProgram}
use Rattle.giotto_rules.specs.cited.KeepsRules.{KeepsRules}
use Rattle.giotto_rules.specs.Rules.{rules, first_broken, first_broken_rule}

abbrev Passes : GiottoProgram → List (GiottoProgram → Bool) → Type 0
Passes p tests = AllByRecursion (λ (test : GiottoProgram → Bool). test p ≡ true) tests

-- a rule is kept if neither it nor a later one is the first that is broken
kept : (holds : Bool) (n : ℕ) (later : Option ℕ) → cond holds later (Some n) ≡ None → (holds ≡ true) × (later ≡ None)
kept true n later e = (refl, e)
kept false n later e = absurd (cc)

each_kept : (p : GiottoProgram) (tests : List (GiottoProgram → Bool)) (n : ℕ) → first_broken n tests p ≡ None → Passes p tests
each_kept p [] n h = tt
each_kept p (test ∷ tests) n h =
    let here = kept (test p) n (first_broken (n + 1) tests p) h in
    (here.0, each_kept p tests (n + 1) here.1)

pub rules_kept : (p : GiottoProgram) → first_broken_rule p ≡ None → KeepsRules p
rules_kept p h = record { each = each_kept p rules 1 h }

none_first : (holds : Bool) (n : ℕ) (later : Option ℕ) → holds ≡ true → later ≡ None → cond holds later (Some n) ≡ None
none_first true n later h e = e
none_first false n later h e = absurd (cc)

none_kept : (p : GiottoProgram) (tests : List (GiottoProgram → Bool)) (n : ℕ) → Passes p tests → first_broken n tests p ≡ None
none_kept p [] n passes = refl
none_kept p (test ∷ tests) n passes = none_first (test p) n (first_broken (n + 1) tests p) passes.0 (none_kept p tests (n + 1) passes.1)

pub none_broken : (p : GiottoProgram) → KeepsRules p → first_broken_rule p ≡ None
none_broken p k = none_kept p rules 1 k.each

-- the rule of this number, counted from 1
pub rule_kept : (p : GiottoProgram) → KeepsRules p → (number : ℕ) (rule : GiottoProgram → Bool) → slice_get rules (number - 1) ≡ Some rule → rule p ≡ true
rule_kept p keeps number rule at =
    let place = number - 1 in
    let here = all_at (λ (test : GiottoProgram → Bool). test p ≡ true) rules place rule (slice_get_within rules place rule at) keeps.each in
    subst (λ (test : GiottoProgram → Bool). test p ≡ true) (get_or_from_slice_get rules place rule rule at) here
