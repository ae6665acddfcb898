-- Which events are kept, by their marks.
use Rattle.std.proofs.Common.{◌≡◌, ℕ, zero, suc, ◌+◌, ◌<◌, Bool, true, false, cond, List, [], ◌∷◌, ◌++◌, length, take, drop, get_or, add-one, reverse, Some, refl, sym, ap, ◌∙◌, arith}
use Rattle.std.specs.Prelude.{slice_get}
use Rattle.std.proofs.Math.Seq.{take-suc}
use Rattle.std.proofs.lemmas.Bool.{and_parts}
use Rattle.std.proofs.lemmas.List.{length-reverse, length-take-le, reverse-append, reverse-reverse, take-append-drop}
use Rattle.rig_model.specs.Legal.{is_legal, may_follow}
use Rattle.rig_model.specs.Base.{Setting}
use Rattle.rig_model.specs.Sources.{kept_from, kept_of, sources_before, sources_from, stays}
use Rattle.rig_model.specs.declared.events.Event.{Event}
use Rattle.host_core.specs.inner.Trials.{marked, marks_from}

-- the marked events of two lists, one after the other
marked_append : (xs ys : List Event) (ms ns : List Bool) → length xs ≡ length ms → marked (xs ++ ys) (ms ++ ns) ≡ marked xs ms ++ marked ys ns
marked_append [] ys [] ns e = refl
marked_append [] ys (m ∷ ms) ns e = absurd (omega (arith, e))
marked_append (x ∷ xs) ys [] ns e = absurd (omega (arith, e))
marked_append (x ∷ xs) ys (m ∷ ms) ns e = by m (marked_append xs ys ms ns (omega (arith, e)))
  where
    by : (b : Bool) → marked (xs ++ ys) (ms ++ ns) ≡ marked xs ms ++ marked ys ns
        → cond b (x ∷ marked (xs ++ ys) (ms ++ ns)) (marked (xs ++ ys) (ms ++ ns)) ≡ cond b (x ∷ marked xs ms) (marked xs ms) ++ marked ys ns
    by true same = ap (λ zs. x ∷ zs) same
    by false same = same

-- one more event, and its mark
pub one_more_marked : (xs : List Event) (x : Event) (ms : List Bool) (m : Bool) → length xs ≡ length ms → marked (xs ++ x ∷ []) (ms ++ m ∷ []) ≡ marked xs ms ++ cond m (x ∷ []) []
one_more_marked xs x ms m e = marked_append xs (x ∷ []) ms (m ∷ []) e

-- one more event of a longer list
pub kept_more : (events : List Event) (marks : List Bool) (i : ℕ) (e : Event) (m d : Bool) → i < length events → length marks ≡ length events → e ≡ get_or events i e → get_or marks i d ≡ m
    → marked (take (i + 1) events) (take (i + 1) marks) ≡ marked (take i events) (take i marks) ++ cond m (e ∷ []) []
kept_more events marks i e m d lt as_many is mark_is =
    ap (λ es. marked es (take (i + 1) marks)) (ap (λ n. take n events) (add-one i) ∙ (take-suc events i e lt ∙ ap (λ x. take i events ++ x ∷ []) (sym is)))
    ∙ (ap (marked (take i events ++ e ∷ [])) (ap (λ n. take n marks) (add-one i) ∙ (take-suc marks i d (omega (arith, lt, as_many)) ∙ ap (λ b. take i marks ++ b ∷ []) mark_is))
    ∙ one_more_marked (take i events) e (take i marks) m (length-take-le i events (omega (arith, lt)) ∙ sym (length-take-le i marks (omega (arith, lt, as_many)))))

marked_reverse : (xs : List Event) (ms : List Bool) → length xs ≡ length ms → reverse (marked (reverse xs) (reverse ms)) ≡ marked xs ms
marked_reverse [] [] e = refl
marked_reverse [] (m ∷ ms) e = absurd (omega (arith, e))
marked_reverse (x ∷ xs) [] e = absurd (omega (arith, e))
marked_reverse (x ∷ xs) (m ∷ ms) e =
    ap (λ es. reverse (marked es (reverse (m ∷ ms)))) (reverse-append (x ∷ []) xs)
    ∙ (ap (λ ns. reverse (marked (reverse xs ++ x ∷ []) ns)) (reverse-append (m ∷ []) ms)
    ∙ (ap reverse (one_more_marked (reverse xs) x (reverse ms) m (length-reverse xs ∙ (shorter ∙ sym (length-reverse ms))))
    ∙ (reverse-append (marked (reverse xs) (reverse ms)) (cond m (x ∷ []) [])
    ∙ by m (marked_reverse xs ms shorter))))
  where
    shorter : length xs ≡ length ms
    shorter = omega (arith, e)

    by : (b : Bool) → reverse (marked (reverse xs) (reverse ms)) ≡ marked xs ms → reverse (cond b (x ∷ []) []) ++ reverse (marked (reverse xs) (reverse ms)) ≡ cond b (x ∷ marked xs ms) (marked xs ms)
    by true same = ap (λ zs. x ∷ zs) same
    by false same = same

found_on : {X : Type 0} (xs ys : List X) (k : ℕ) (v : X) → slice_get xs k ≡ Some v → slice_get (xs ++ ys) k ≡ Some v
found_on [] ys k v e = absurd (cc)
found_on (x ∷ xs) ys zero v e = e
found_on (x ∷ xs) ys (suc k) v e = found_on xs ys k v e

at_end : {X : Type 0} (xs : List X) (k : ℕ) (v : X) → length xs ≡ k → slice_get (xs ++ v ∷ []) k ≡ Some v
at_end [] zero v e = refl
at_end [] (suc k) v e = absurd (omega (arith, e))
at_end (x ∷ xs) zero v e = absurd (omega (arith, e))
at_end (x ∷ xs) (suc k) v e = at_end xs k v (omega (arith, e))

module _ (setting : Setting) where
  marked_is_kept : (past : List Event) (sources : List ℕ) → marked past (marks_from setting sources past) ≡ kept_from setting sources past
  marked_is_kept [] sources = refl
  marked_is_kept (e ∷ past) sources = ap (λ es. cond (stays sources e) (e ∷ es) es) (marked_is_kept past (sources_before setting e past sources))

  pub as_many_marks : (past : List Event) (sources : List ℕ) → length (marks_from setting sources past) ≡ length past
  as_many_marks [] sources = refl
  as_many_marks (e ∷ past) sources = ap suc (as_many_marks past (sources_before setting e past sources))

  -- the marked events are those that are kept
  pub kept_by_marks : (events : List Event) (t : ℕ) (marks : List Bool) → marks ≡ reverse (marks_from setting (t ∷ []) (reverse events))
      → reverse (marked events marks) ≡ kept_of setting (reverse events) t
  kept_by_marks events t marks are =
      ap (λ es. reverse (marked es marks)) (sym (reverse-reverse events))
      ∙ (ap (λ ms. reverse (marked (reverse (reverse events)) ms)) are
      ∙ (marked_reverse (reverse events) (marks_from setting (t ∷ []) (reverse events)) (sym (as_many_marks (reverse events) (t ∷ [])))
      ∙ marked_is_kept (reverse events) (t ∷ [])))

  -- a mark says whether its event stays
  pub mark_at : (later past : List Event) (e : Event) (sources : List ℕ)
      → slice_get (reverse (marks_from setting sources (later ++ e ∷ past))) (length past) ≡ Some (stays (sources_from setting sources later (e ∷ past)) e)
  mark_at [] past e sources =
      let ms = marks_from setting (sources_before setting e past sources) past in
      ap (λ ns. slice_get ns (length past)) (reverse-append (stays sources e ∷ []) ms)
      ∙ at_end (reverse ms) (length past) (stays sources e) (length-reverse ms ∙ as_many_marks past (sources_before setting e past sources))
  mark_at (x ∷ later) past e sources =
      let rest = later ++ e ∷ past in
      let ms = marks_from setting (sources_before setting x rest sources) rest in
      ap (λ ns. slice_get ns (length past)) (reverse-append (stays sources x ∷ []) ms)
      ∙ found_on (reverse ms) (stays sources x ∷ []) (length past) _ (mark_at later past e (sources_before setting x rest sources))

  legal_before : (later past : List Event) → is_legal setting (later ++ past) ≡ true → is_legal setting past ≡ true
  legal_before [] past legal = legal
  legal_before (e ∷ later) past legal = legal_before later past (and_parts (may_follow setting (later ++ past) e) (is_legal setting (later ++ past)) legal).1

  -- the first events of a legal list are a legal list
  legal_first : (events : List Event) (k : ℕ) → is_legal setting (reverse events) ≡ true → is_legal setting (reverse (take k events)) ≡ true
  legal_first events k legal =
      legal_before (reverse (drop k events)) (reverse (take k events))
      (ap (is_legal setting) (sym (reverse-append (take k events) (drop k events)) ∙ ap reverse (take-append-drop k events)) ∙ legal)

  -- if the first events aren't legal, the list isn't
  pub illegal_if_first : (events : List Event) (k : ℕ) → is_legal setting (reverse (take k events)) ≡ false → is_legal setting (reverse events) ≡ false
  illegal_if_first events k illegal = by (is_legal setting (reverse events)) refl
    where
      by : (b : Bool) → is_legal setting (reverse events) ≡ b → b ≡ false
      by true legal = sym (legal_first events k legal) ∙ illegal
      by false legal = refl
