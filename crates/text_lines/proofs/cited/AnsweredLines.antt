-- How far a script has come: what was written is the replies to the lines so far.
use Rattle.std.proofs.Common.{◌≡◌, ◌≢◌, ℕ, suc, ◌==◌, ◌⊎◌, Bool, true, false, take, List, [], ◌∷◌, ◌++◌, Option, Some, None, Result, Ok, Err, OnOk, IfSome, IsSome, IsSomeAnd, All, refl, sym, ap, ◌∙◌, subst, inl, inr, append_assoc, append-nil, arith}
use Rattle.std.proofs.lemmas.List.Elements.{All-head, All-tail}
use Rattle.std.proofs.KnownBytes.{Appends-trans, Appends-kept}
use Rattle.std.specs.Io.KnownBytes.{Appends, Keeps}
use Rattle.std.specs.List.{AllByRecursion}
use Rattle.rig_model.specs.Answered.{IsText, bye_bad_line, answered, state_after}
use Rattle.rig_model.specs.TextLines.{cut, lf_count, whole_lines, text_of_line}
use Rattle.text_lines.proofs.LineCuts.{lf_count-append}
use Rattle.text_lines.specs.BeforeFaults.{AreAllAnswered, AreAnsweredBefore}
use Rattle.text_lines.specs.cited.Reading.{IsFirstLine, HasFirstLine, HasNoWholeLine}

appends_nothing : (w : Option (List ℕ)) → Appends w w []
appends_nothing None = tt
appends_nothing (Some xs) = sym (append-nil xs)

-- these lines came whole with these bytes, whatever follows them
abbrev pub AreOf : List (List ℕ) → List ℕ → Type 0
AreOf before taken = (xs : List ℕ) → whole_lines (taken ++ xs) ≡ before ++ whole_lines xs

-- a line with its LF, and what follows
cut_behind : (line xs : List ℕ) → lf_count line ≡ 0 → cut (line ++ 10 ∷ xs) ≡ line ∷ cut xs
cut_behind [] xs none = refl
cut_behind (c ∷ cs) xs none = by (c == 10) refl (cut_behind cs xs)
  where
    by : (b : Bool) → (c == 10) ≡ b → (lf_count cs ≡ 0 → cut (cs ++ 10 ∷ xs) ≡ cs ∷ cut xs) → cut (c ∷ cs ++ 10 ∷ xs) ≡ (c ∷ cs) ∷ cut xs
    by true e rest = let wrong : suc (lf_count cs) ≡ 0 = rw e at none in absurd (omega (arith, wrong))
    by false e rest = let behind = rest (rw e at none) in rw (e, behind) refl

whole_behind : (line xs : List ℕ) → lf_count line ≡ 0 → whole_lines (line ++ 10 ∷ xs) ≡ line ∷ whole_lines xs
whole_behind line xs none =
    let parts = lf_count-append line (10 ∷ xs) in
    let one : lf_count (line ++ 10 ∷ xs) ≡ suc (lf_count xs) = omega (arith, parts, none) in
    ap (λ n. take n (cut (line ++ 10 ∷ xs))) one ∙ ap (take (suc (lf_count xs))) (cut_behind line xs none)

no_whole_lines : (xs : List ℕ) → lf_count xs ≡ 0 → whole_lines xs ≡ []
no_whole_lines xs none = ap (λ n. take n (cut xs)) none

-- if the lines so far came whole with the bytes before `rest`, so do they with one more line, unless the reader has ended
taken_further : (bytes : List ℕ) (before : List (List ℕ)) (rest : List ℕ) (ended : Bool) (line later : List ℕ) (ended_now : Bool)
    → ((taken : List ℕ) × (bytes ≡ taken ++ rest) × AreOf before taken) ⊎ (ended ≡ true) → IsFirstLine line later rest ended_now → (ended ≡ true → ended_now ≡ true)
    → ((taken : List ℕ) × (bytes ≡ taken ++ later) × AreOf (before ++ line ∷ []) taken) ⊎ (ended_now ≡ true)
taken_further bytes before rest ended line later ended_now (inr is) first stays = inr (stays is)
taken_further bytes before rest ended line later ended_now (inl h) first stays = by first.1
  where
    line_with_lf : List ℕ
    line_with_lf = line ++ 10 ∷ []

    by : ((lf_count line ≡ 0) × (rest ≡ line ++ 10 ∷ later)) ⊎ ((ended_now ≡ true) × (later ≡ [])) → ((taken : List ℕ) × (bytes ≡ taken ++ later) × AreOf (before ++ line ∷ []) taken) ⊎ (ended_now ≡ true)
    by (inr last) = inr last.0
    by (inl whole) = inl (
      h.0 ++ line_with_lf,
      h.1 ∙ ap (λ l. h.0 ++ l) (whole.1 ∙ sym (append_assoc line (10 ∷ []) later)) ∙ sym (append_assoc h.0 line_with_lf later),
      λ xs.
          ap whole_lines (append_assoc h.0 line_with_lf xs ∙ ap (λ l. h.0 ++ l) (append_assoc line (10 ∷ []) xs))
          ∙ h.2 (line ++ 10 ∷ xs) ∙ ap (λ ls. before ++ ls) (whole_behind line xs whole.0) ∙ sym (append_assoc before (line ∷ []) (whole_lines xs)),
    )

module _ {S : Type 0} (reply : S → List ℕ → List ℕ) (after : S → List ℕ → S) where
  -- one more line, after lines that have a text
  answered_more : (s : S) (before : List (List ℕ)) (line text : List ℕ) → AllByRecursion IsText before → text_of_line line ≡ Some text
      → answered reply after s (before ++ line ∷ []) ≡ answered reply after s before ++ reply (state_after reply after s before) text
  answered_more s [] line text all e = rw e (append-nil (reply s text))
  answered_more s (l ∷ ls) line text all e = by (text_of_line l) refl all.0 (λ t. answered_more (after s t) ls line text all.1 e)
    where
      by : (found : Option (List ℕ)) → text_of_line l ≡ found → IsSome found → ((t : List ℕ) → answered reply after (after s t) (ls ++ line ∷ []) ≡ answered reply after (after s t) ls ++ reply (state_after reply after (after s t) ls) text)
          → answered reply after s (l ∷ ls ++ line ∷ []) ≡ answered reply after s (l ∷ ls) ++ reply (state_after reply after s (l ∷ ls)) text
      by None f some rest = cc
      by (Some t) f some rest = rw (f, rest t) (sym (append_assoc (reply s t) (answered reply after (after s t) ls) (reply (state_after reply after (after s t) ls) text)))

  state_more : (s : S) (before : List (List ℕ)) (line text : List ℕ) → AllByRecursion IsText before → text_of_line line ≡ Some text → state_after reply after s (before ++ line ∷ []) ≡ after (state_after reply after s before) text
  state_more s [] line text all e = rw e refl
  state_more s (l ∷ ls) line text all e = by (text_of_line l) refl all.0 (λ t. state_more (after s t) ls line text all.1 e)
    where
      by : (found : Option (List ℕ)) → text_of_line l ≡ found → IsSome found → ((t : List ℕ) → state_after reply after (after s t) (ls ++ line ∷ []) ≡ after (state_after reply after (after s t) ls) text)
          → state_after reply after s (l ∷ ls ++ line ∷ []) ≡ after (state_after reply after s (l ∷ ls)) text
      by None f some rest = cc
      by (Some t) f some rest = rw f (rest t)

  text_more : (before : List (List ℕ)) (line text : List ℕ) → AllByRecursion IsText before → text_of_line line ≡ Some text → AllByRecursion IsText (before ++ line ∷ [])
  text_more [] line text all e = (rw e refl, tt)
  text_more (l ∷ ls) line text all e = (all.0, text_more ls line text all.1 e)

  -- What was said is the replies to the first lines of these bytes, each of which has a text. They came whole with the bytes before
  -- `rest`, except for the last one if the reader has ended.
  abbrev HasSaid : S → List ℕ → S → List ℕ → Bool → List ℕ → Type 0
  HasSaid s bytes t rest ended said =
      (before : List (List ℕ)) × (cut bytes ≡ before ++ cut rest) × AllByRecursion IsText before × (said ≡ answered reply after s before) × (t ≡ state_after reply after s before)
      × (((taken : List ℕ) × (bytes ≡ taken ++ rest) × AreOf before taken) ⊎ (ended ≡ true))

  -- from the state s and the writer w, with these bytes, to the state t and the writer v, with `rest` still to come
  abbrev pub HasCome : S → List ℕ → Option (List ℕ) → S → List ℕ → Bool → Option (List ℕ) → Type 0
  HasCome s bytes w t rest ended v =
      (said : List ℕ) × Appends w v said × (answered reply after s (cut bytes) ≡ said ++ answered reply after t (cut rest))
      × (state_after reply after s (cut bytes) ≡ state_after reply after t (cut rest)) × HasSaid s bytes t rest ended said

  pub come_nowhere : (s : S) (bytes : List ℕ) (w : Option (List ℕ)) (ended : Bool) → HasCome s bytes w s bytes ended w
  come_nowhere s bytes w ended = ([], appends_nothing w, refl, refl, ([], refl, tt, refl, refl, inl ([], refl, λ xs. refl)))

  -- the same if the reader has ended since
  pub come_ended : (s : S) (bytes : List ℕ) (w : Option (List ℕ)) (t : S) (rest : List ℕ) (ended ended_now : Bool) (v : Option (List ℕ)) → HasCome s bytes w t rest ended v → (ended ≡ true → ended_now ≡ true) → HasCome s bytes w t rest ended_now v
  come_ended s bytes w t rest ended ended_now v come stays = (
    come.0,
    come.1,
    come.2,
    come.3,
    (
      come.4.0,
      come.4.1,
      come.4.2,
      come.4.3,
      come.4.4,
      elim come.4.5 [
        | inl before ↦ inl before
        | inr is ↦ inr (stays is)
      ],
    ),
  )

  module _ (s : S) (bytes : List ℕ) (w : Option (List ℕ)) (t : S) (rest : List ℕ) (ended : Bool) (v : Option (List ℕ)) (come : HasCome s bytes w t rest ended v) (flushed : Option (List ℕ)) (kept : Keeps v flushed) where
    -- one more line
    pub come_further : (line later text : List ℕ) (u : S) (ended_now : Bool) (written : Option (List ℕ)) → IsFirstLine line later rest ended_now → (ended ≡ true → ended_now ≡ true) → text_of_line line ≡ Some text → u ≡ after t text
        → Appends flushed written (reply t text) → HasCome s bytes w u later ended_now written
    come_further line later text u ended_now written first stays is_text next grown =
        let said = come.0 in
        let before = come.4.0 in
        let front = first.0 in
        let here : answered reply after t (cut rest) ≡ reply t text ++ answered reply after u (cut later) = rw (front, is_text, next) refl in
        let state : state_after reply after t (cut rest) ≡ state_after reply after u (cut later) = rw (front, is_text, next) refl in
        let all = come.4.2 in (
          said ++ reply t text,
          Appends-trans w flushed written said (reply t text) (Appends-kept w v flushed said come.1 kept) grown,
          come.2 ∙ ap (λ l. said ++ l) here ∙ sym (append_assoc said (reply t text) (answered reply after u (cut later))),
          come.3 ∙ state,
          (
            before ++ line ∷ [],
            come.4.1 ∙ ap (λ l. before ++ l) front ∙ sym (append_assoc before (line ∷ []) (cut later)),
            text_more before line text all is_text,
            ap (λ l. l ++ reply t text) come.4.3 ∙ ap (λ x. answered reply after s before ++ reply x text) come.4.4 ∙ sym (answered_more s before line text all is_text),
            next ∙ ap (λ x. after x text) come.4.4 ∙ sym (state_more s before line text all is_text),
            taken_further bytes before rest ended line later ended_now come.4.5 first stays,
          ),
        )

    -- if no other line came whole, exactly those that did were answered
    pub all_answered : (remaining : Option (List ℕ)) → ended ≢ true → HasNoWholeLine rest remaining → AreAllAnswered reply after s bytes remaining (Appends w flushed)
    all_answered None more none = absurd none
    all_answered (Some left) more none = by come.4.5
      where
        by : ((taken : List ℕ) × (bytes ≡ taken ++ rest) × AreOf come.4.0 taken) ⊎ (ended ≡ true) → AreAllAnswered reply after s bytes (Some left) (Appends w flushed)
        by (inr is) = absurd (more is)
        by (inl before) =
            let whole : whole_lines (before.0 ++ none.0) ≡ come.4.0 = before.2 none.0 ∙ ap (λ ls. come.4.0 ++ ls) (no_whole_lines none.0 none.2) ∙ append-nil come.4.0 in (
              before.0 ++ none.0,
              before.1 ∙ ap (λ l. before.0 ++ l) none.1 ∙ sym (append_assoc before.0 none.0 left),
              subst (AllByRecursion IsText) (sym whole) come.4.2,
              subst (Appends w flushed) (come.4.3 ∙ ap (answered reply after s) (sym whole)) (Appends-kept w v flushed come.0 come.1 kept),
            )

    -- if memory ran out for the next line, those before it were answered
    pub answered_before : HasFirstLine rest (λ line. Unit {0}) → AreAnsweredBefore reply after s bytes (λ said line. Appends w flushed said)
    answered_before first = (
      come.4.0,
      first.0,
      first.1,
      come.4.1 ∙ ap (λ ls. come.4.0 ++ ls) first.2,
      come.4.2,
      subst (Appends w flushed) come.4.3 (Appends-kept w v flushed come.0 come.1 kept),
    )

    -- if memory ran out for the reply to the next line, those before it were answered, and then this was reported
    pub refused_behind : (refused : List ℕ → List ℕ) (line later text : List ℕ) (ended_now : Bool) (written : Option (List ℕ)) → IsFirstLine line later rest ended_now → text_of_line line ≡ Some text → Appends flushed written (refused text)
        → AreAnsweredBefore reply after s bytes (λ said line. IsSomeAnd (text_of_line line) (λ text. Appends w written (said ++ refused text)))
    refused_behind refused line later text ended_now written first is_text grown = (
      come.4.0,
      line,
      cut later,
      come.4.1 ∙ ap (λ ls. come.4.0 ++ ls) first.0,
      come.4.2,
      rw is_text (subst (λ said. Appends w written (said ++ refused text)) come.4.3 (Appends-trans w flushed written come.0 (refused text) (Appends-kept w v flushed come.0 come.1 kept) grown)),
    )

    -- nothing is left
    pub all_written : rest ≡ [] → Appends w flushed (answered reply after s (cut bytes))
    all_written none =
        let is : answered reply after s (cut bytes) ≡ come.0 = come.2 ∙ ap (λ l. come.0 ++ answered reply after t (cut l)) none ∙ append-nil come.0 in
        subst (Appends w flushed) (sym is) (Appends-kept w v flushed come.0 come.1 kept)

    pub state_at_end : rest ≡ [] → state_after reply after s (cut bytes) ≡ t
    state_at_end none = come.3 ∙ ap (λ l. state_after reply after t (cut l)) none

    -- a line without a text: it is too long, or isn't UTF-8
    pub bye_written : (written : Option (List ℕ)) → HasFirstLine rest (λ line. text_of_line line ≡ None) → Appends flushed written bye_bad_line → Appends w written (answered reply after s (cut bytes))
    bye_written written bad grown =
        let here : answered reply after t (cut rest) ≡ bye_bad_line = rw (bad.2, bad.3) refl in
        subst (Appends w written) (sym (come.2 ∙ ap (λ l. come.0 ++ l) here)) (Appends-trans w flushed written come.0 bye_bad_line (Appends-kept w v flushed come.0 come.1 kept) grown)

    pub state_at_bye : HasFirstLine rest (λ line. text_of_line line ≡ None) → state_after reply after s (cut bytes) ≡ t
    state_at_bye bad = let here : state_after reply after t (cut rest) ≡ t = rw (bad.2, bad.3) refl in come.3 ∙ here

-- if all lines have a text, those still to come have one
module _ (lines rest : List (List ℕ)) (texts : All IsText lines → All IsText rest) (line : List ℕ) (later : List (List ℕ)) (front : rest ≡ line ∷ later) where
  pub texts_further : All IsText lines → All IsText later
  texts_further all = All-tail IsText line later (subst (All IsText) front (texts all))

  pub bad_is_no_text : text_of_line line ≡ None → ¬ (All IsText lines)
  bad_is_no_text no_text all = let wrong = rw no_text at (All-head IsText line later (subst (All IsText) front (texts all))) in cc

pub on_ok : {T E : Type 0} (r : Result T E) (P : Type 0) → P → OnOk r P
on_ok (Ok x) P h = h
on_ok (Err e) P h = tt

pub on_ok_then : {T E : Type 0} (r : Result T E) (P Q : Type 0) → OnOk r P → (P → Q) → OnOk r Q
on_ok_then (Ok x) P Q h f = f h
on_ok_then (Err e) P Q h f = tt

-- what follows for the bytes that a reader is known to have
pub if_known : (known : Option (List ℕ)) (P Q : List ℕ → Type 0) → IfSome known P → ((bytes : List ℕ) → P bytes → Q bytes) → IfSome known Q
if_known None P Q h f = tt
if_known (Some bytes) P Q h f = f bytes h

pub all_known : (known : Option (List ℕ)) {Q : List ℕ → Type 0} → ((bytes : List ℕ) → known ≡ Some bytes → Q bytes) → IfSome known Q
all_known None f = tt
all_known (Some bytes) f = f bytes refl

-- what a writer has is kept, and kept again
pub kept_on : (u v w : Option (List ℕ)) → Keeps u v → Keeps v w → Keeps u w
kept_on None v w a b = tt
kept_on (Some xs) None w a b = absurd a
kept_on (Some xs) (Some ys) None a b = absurd b
kept_on (Some xs) (Some ys) (Some zs) a b = b ∙ a
