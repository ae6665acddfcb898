-- Findings in lines that are shown one by one.
use Rattle.std.proofs.Common.{◌≡◌, ◌+◌, ◌<◌, ℕ, List, [], ◌∷◌, ◌++◌, length, map, take, get_or, refl, sym, ap, subst, ◌∙◌, append_assoc, append-nil, string_bytes}
use Rattle.std.specs.List.{flat_map}
use Rattle.std.proofs.lemmas.List.{flat_map_more, map-append, take_more}
use Rattle.giotto_faults.specs.declared.findings.Finding.{Finding}
use Rattle.giotto_faults.specs.declared.findings.Severity.{Severity}
use Rattle.giotto_faults.specs.declared.places.Place.{Place}
use Rattle.program_checks.specs.faults.Findings.{BeginsWith, head_at}
use Rattle.script_checks.specs.Grants.{Told, told_at}
use Rattle.script_checks.specs.Reports.{Adds, AddsNotes}
use Rattle.script_checks.specs.Told.{AreShown}

module _ (file : List ℕ) where
  shown_both : (xs ys : List (Place × Finding)) (a b : List ℕ) → AreShown file xs a → AreShown file ys b → AreShown file (xs ++ ys) (a ++ b)
  shown_both [] ys a b none more = subst (λ (t : List ℕ). AreShown file ys (t ++ b)) (sym none) more
  shown_both (x ∷ xs) ys a b are more =
      (are.0, are.1 ++ b, ap (λ (t : List ℕ). t ++ b) are.2 ∙ append_assoc are.0 are.1 b, are.3, shown_both xs ys are.1 b are.4 more)

  pub adds_none : (before : List ℕ) → Adds file [] before before
  adds_none before = ([], refl, sym (append-nil before))

  pub adds_both : (xs ys : List (Place × Finding)) (a b c : List ℕ) → Adds file xs a b → Adds file ys b c → Adds file (xs ++ ys) a c
  adds_both xs ys a b c first second =
      (first.0 ++ second.0, shown_both xs ys first.0 second.0 first.1 second.1, second.2 ∙ (ap (λ (t : List ℕ). t ++ second.0) first.2 ∙ append_assoc a first.0 second.0))

  -- a finding that is shown
  adds_one : (place : Place) (f : Finding) (before part after : List ℕ) → BeginsWith (head_at f file place) part → after ≡ before ++ part
      → Adds file ((place, f) ∷ []) before after
  adds_one place f before part after begins grown = (part, (part, [], sym (append-nil part), begins, refl), grown)

  -- a loop over findings, one finding further
  pub finding_further : (place : Finding → Place) (fs : List Finding) (i : ℕ) (f : Finding) (first before part after : List ℕ)
      → Adds file (map (λ (g : Finding). (place g, g)) (take i fs)) first before → i < length fs → f ≡ get_or fs i f → BeginsWith (head_at f file (place f)) part → after ≡ before ++ part
      → Adds file (map (λ (g : Finding). (place g, g)) (take (i + 1) fs)) first after
  finding_further place fs i f first before part after so_far within item begins grown =
      let at : Finding → Place × Finding = λ g. (place g, g) in
      let taken : take i fs ++ f ∷ [] ≡ take (i + 1) fs = sym (take_more fs i f within ∙ ap (λ (g : Finding). take i fs ++ g ∷ []) (sym item)) in
      let more : map at (take i fs) ++ at f ∷ [] ≡ map at (take (i + 1) fs) = sym (map-append at (take i fs) (f ∷ [])) ∙ ap (map at) taken in
      subst (λ (found : List (Place × Finding)). Adds file found first after) more
      (adds_both (map at (take i fs)) (at f ∷ []) first before after so_far (adds_one (place f) f before part after begins grown))

-- no note
pub no_note : (file text : List ℕ) → AddsNotes file [] text text
no_note file text = ([], refl, adds_none file text)

-- a note that is shown
pub one_note : (file : List ℕ) (told : Told) (f : Finding) (before part after : List ℕ) → (f.severity, string_bytes f.message) ≡ told.1 → BeginsWith (head_at f file told.0) part → after ≡ before ++ part
    → AddsNotes file (told ∷ []) before after
one_note file told f before part after is begins grown = ((told.0, f) ∷ [], ap (λ (w : Severity × List ℕ). (told.0, w) ∷ []) is, adds_one file told.0 f before part after begins grown)

notes_both : (file : List ℕ) (xs ys : List Told) (a b c : List ℕ) → AddsNotes file xs a b → AddsNotes file ys b c → AddsNotes file (xs ++ ys) a c
notes_both file xs ys a b c first second =
    (first.0 ++ second.0, map-append told_at first.0 second.0 ∙ (ap (λ (l : List Told). l ++ map told_at second.0) first.1 ∙ ap (λ (l : List Told). xs ++ l) second.1), adds_both file first.0 second.0 a b c first.2 second.2)

-- a loop over commands, one command further
pub command_further : {X : Type 0} (file : List ℕ) (at : X → List Told) (xs : List X) (i : ℕ) (x : X) (first before after : List ℕ) → AddsNotes file (flat_map at (take i xs)) first before
    → i < length xs → x ≡ get_or xs i x → AddsNotes file (at x) before after → AddsNotes file (flat_map at (take (i + 1) xs)) first after
command_further file at xs i x first before after so_far within item here =
    let taken : take i xs ++ x ∷ [] ≡ take (i + 1) xs = sym (take_more xs i x within ∙ ap (λ y. take i xs ++ y ∷ []) (sym item)) in
    let more : flat_map at (take i xs) ++ at x ≡ flat_map at (take (i + 1) xs) = flat_map_more at [] (take i xs) x ∙ ap (flat_map at) taken in
    subst (λ (told : List Told). AddsNotes file told first after) more (notes_both file (flat_map at (take i xs)) (at x) first before after so_far here)
