-- The lines of a run, one line of the file further.
use Rattle.std.proofs.Common.{◌≡◌, ◌≢◌, ◌+◌, ◌-◌, ◌<◌, ◌≤◌, ◌==◌, Bool, true, false, if◌then◌else◌, List, [], ◌∷◌, ◌++◌, length, drop, take, get_or, suc, Bor, map, Result, Ok, Err, ℕ, refl, sym, ap, ◌∙◌, append_assoc, arith}
use Rattle.std.proofs.lemmas.Bool.{eq-eqb, eqb-true}
use Rattle.std.proofs.Math.Seq.{get_or-append_seam}
use Rattle.std.proofs.lemmas.List.{drop_more, get_or-drop, length-append, map-append, take_all, take_at, take_more}
use Rattle.std.specs.List.{after_first, before_first, position_or_len}
use Rattle.std.specs.Str.Lines.{strip_carriage_return}
use Rattle.script_reports.specs.cited.Runs.{RunEntry, is_reply, is_remark, reply_in, parts_of, entries_from, with_entry}

-- these entries in front of the others, if there is no fault after them
abbrev pub with_entries : List RunEntry → Result (List RunEntry) ℕ → Result (List RunEntry) ℕ
with_entries before (Ok entries) = Ok (before ++ entries)
with_entries before (Err number) = Err number

-- a text with a CR at its end, and one without
pub cr_stripped : (text front : List ℕ) → text ≡ front ++ 13 ∷ [] → strip_carriage_return text ≡ front
cr_stripped text front e =
    let count : length text ≡ length front + 1 = ap (λ (t : List ℕ). length t) e ∙ length-append front (13 ∷ []) in
    let place : length front ≡ length text - 1 = omega (arith, count) in
    let last : get_or text (length text - 1) 0 ≡ 13 = ap (λ n. get_or text n 0) (sym place) ∙ (ap (λ (t : List ℕ). get_or t (length front) 0) e ∙ get_or-append_seam front 13 [] 0) in
    let same : take (length text - 1) text ≡ front = ap (λ (t : List ℕ). take (length text - 1) t) e ∙ take_at front (13 ∷ []) (length text - 1) place in
    ap (λ b. if b then take (length text - 1) text else text) (eq-eqb (get_or text (length text - 1) 0) 13 last) ∙ same

pub cr_kept : (text : List ℕ) → ((front : List ℕ) → text ≢ front ++ 13 ∷ []) → strip_carriage_return text ≡ text
cr_kept [] none = refl
cr_kept (c ∷ cs) none = by (get_or (c ∷ cs) n 0 == 13) refl
  where
    n : ℕ
    n = length (c ∷ cs) - 1

    whole : get_or (c ∷ cs) n 0 ≡ 13 → c ∷ cs ≡ take n (c ∷ cs) ++ 13 ∷ []
    whole is =
        sym (take_all (n + 1) (c ∷ cs) (omega arith)) ∙ (take_more (c ∷ cs) n 0 (omega arith) ∙ ap (λ x. take n (c ∷ cs) ++ x ∷ []) is)

    by : (b : Bool) → (get_or (c ∷ cs) n 0 == 13) ≡ b → (if b then take n (c ∷ cs) else c ∷ cs) ≡ c ∷ cs
    by false is = refl
    by true is = absurd (none (take n (c ∷ cs)) (whole (eqb-true (get_or (c ∷ cs) n 0) 13 is)))

-- a reply begins with four blanks
pub blanks_in_front : (part : List ℕ) → is_reply part ≡ true → (4 ≤ length part) × (get_or part 3 0 ≡ 32)
blanks_in_front [] e = absurd (cc)
blanks_in_front (a ∷ []) e = absurd (cc)
blanks_in_front (a ∷ b ∷ []) e = absurd (cc)
blanks_in_front (a ∷ b ∷ c ∷ []) e = absurd (cc)
blanks_in_front (a ∷ b ∷ c ∷ d ∷ []) e = absurd (cc)
blanks_in_front (a ∷ b ∷ c ∷ d ∷ f ∷ more) e = (omega arith, by (a == 32) (b == 32) (c == 32) (d == 32) refl e)
  where
    by : (p q r s : Bool) → (d == 32) ≡ s → (if p then (if q then (if r then s else false) else false) else false) ≡ true → d ≡ 32
    by true true true true is h = eqb-true d 32 is
    by true true true false is h = absurd (cc)
    by true true false s is h = absurd (cc)
    by true false r s is h = absurd (cc)
    by false q r s is h = absurd (cc)

no_feed_in_front : (c : ℕ) (cs : List ℕ) → (c == 10) ≡ false → position_or_len (λ d. d == 10) (c ∷ cs) ≡ suc (position_or_len (λ d. d == 10) cs)
no_feed_in_front c cs e = rw e (omega arith)

feed_in_front : (c : ℕ) (cs : List ℕ) → (c == 10) ≡ true → position_or_len (λ d. d == 10) (c ∷ cs) ≡ 0
feed_in_front c cs e = rw e refl

-- a text cut at its first LF
pub cut_at_first : (text : List ℕ) → position_or_len (λ c. c == 10) text < length text → parts_of text ≡ before_first (λ c. c == 10) text ∷ parts_of (after_first (λ c. c == 10) text)
cut_at_first [] within = absurd (omega (arith, within))
cut_at_first (c ∷ cs) within = by (c == 10) refl (cut_at_first cs)
  where
    by : (b : Bool) → (c == 10) ≡ b → (position_or_len (λ d. d == 10) cs < length cs → parts_of cs ≡ before_first (λ d. d == 10) cs ∷ parts_of (after_first (λ d. d == 10) cs))
        → parts_of (c ∷ cs) ≡ before_first (λ d. d == 10) (c ∷ cs) ∷ parts_of (after_first (λ d. d == 10) (c ∷ cs))
    by true e later = rw (feed_in_front c cs e, e) refl
    by false e later =
        let k = position_or_len (λ d. d == 10) cs in
        let place = no_feed_in_front c cs e in
        let rest = later (omega (arith, within, place)) in
        let next : suc k + 1 ≡ suc (k + 1) = omega arith in
        rw (place, next, e, rest) refl

-- a text without an LF
pub uncut : (text : List ℕ) → position_or_len (λ c. c == 10) text ≡ length text → parts_of text ≡ text ∷ []
uncut [] ended = refl
uncut (c ∷ cs) ended = by (c == 10) refl (uncut cs)
  where
    by : (b : Bool) → (c == 10) ≡ b → (position_or_len (λ d. d == 10) cs ≡ length cs → parts_of cs ≡ cs ∷ []) → parts_of (c ∷ cs) ≡ (c ∷ cs) ∷ []
    by true e later = let none = feed_in_front c cs e in absurd (omega (arith, none, ended))
    by false e later = let place = no_feed_in_front c cs e in let rest = later (omega (arith, place, ended)) in rw (e, rest) refl

-- one more line of the file
pub parts_further : (before : List (List ℕ)) (rest part behind : List ℕ) (all : List (List ℕ)) → position_or_len (λ c. c == 10) rest < length rest → part ≡ before_first (λ c. c == 10) rest → behind ≡ after_first (λ c. c == 10) rest
    → before ++ parts_of rest ≡ all → (before ++ part ∷ []) ++ parts_of behind ≡ all
parts_further before rest part behind all within first later h =
    let here : parts_of rest ≡ part ∷ parts_of behind = cut_at_first rest within ∙ sym (ap (λ x. x ∷ parts_of behind) first ∙ ap (λ x. before_first (λ c. c == 10) rest ∷ parts_of x) later) in
    append_assoc before (part ∷ []) (parts_of behind) ∙ (sym (ap (λ l. before ++ l) here) ∙ h)

module _ (parts : List (List ℕ)) (place : ℕ) (awaited : Bool) (there : place < length parts) where
  front : drop place parts ≡ get_or parts place [] ∷ drop (place + 1) parts
  front = drop_more parts place [] there

  pub unawaited : is_reply (get_or parts place []) ≡ true → awaited ≡ false → entries_from awaited place (drop place parts) ≡ Err (place + 1)
  unawaited is none = rw (front, is, none) refl

  pub reply_further : is_reply (get_or parts place []) ≡ true → awaited ≡ true → entries_from awaited place (drop place parts) ≡ entries_from false (place + 1) (drop (place + 1) parts)
  reply_further is some = rw (front, is, some) refl

  pub remark_further : is_reply (get_or parts place []) ≡ false → is_remark (get_or parts place []) ≡ true → entries_from awaited place (drop place parts) ≡ entries_from false (place + 1) (drop (place + 1) parts)
  remark_further other is = rw (front, other, is) refl

  pub entry_further : is_reply (get_or parts place []) ≡ false → is_remark (get_or parts place []) ≡ false
      → entries_from awaited place (drop place parts)
      ≡ with_entry (record { number = place + 1; text = get_or parts place []; reply = reply_in (get_or parts (place + 1) []) }) (entries_from true (place + 1) (drop (place + 1) parts))
  entry_further other no_remark =
      let same : place + 1 + 0 ≡ place + 1 = omega arith in
      let next : get_or (drop (place + 1) parts) 0 [] ≡ get_or parts (place + 1) [] = get_or-drop (place + 1) parts 0 [] ∙ ap (λ n. get_or parts n []) same in
      rw (front, other, no_remark, next) refl

-- the rest is the same, one line of the file further
pub same_behind : (before : List RunEntry) (r s all : Result (List RunEntry) ℕ) → r ≡ s → with_entries before r ≡ all → with_entries before s ≡ all
same_behind before r s all is h = sym (ap (with_entries before) is) ∙ h

with_one_more : (before : List RunEntry) (entry : RunEntry) (r : Result (List RunEntry) ℕ) → with_entries (before ++ entry ∷ []) r ≡ with_entries before (with_entry entry r)
with_one_more before entry (Ok entries) = ap (λ (l : List RunEntry). Ok l) (append_assoc before (entry ∷ []) entries)
with_one_more before entry (Err number) = refl

-- one more entry
pub one_more : (before after : List RunEntry) (entry : RunEntry) (r s all : Result (List RunEntry) ℕ) → r ≡ with_entry entry s → after ≡ before ++ entry ∷ [] → with_entries before r ≡ all → with_entries after s ≡ all
one_more before after entry r s all is grown h = ap (λ (l : List RunEntry). with_entries l s) grown ∙ (with_one_more before entry s ∙ (sym (ap (with_entries before) is) ∙ h))

pub pushed : (before after : List (Bor (List ℕ))) (x : Bor (List ℕ)) → after ≡ before ++ x ∷ [] → map (λ (p : Bor (List ℕ)). p.now) after ≡ map (λ (p : Bor (List ℕ)). p.now) before ++ x.now ∷ []
pushed before after x grown = ap (map (λ (p : Bor (List ℕ)). p.now)) grown ∙ map-append (λ (p : Bor (List ℕ)). p.now) before (x ∷ [])

-- after the last LF
pub parts_at_end : (before now : List (List ℕ)) (rest : List ℕ) (all : List (List ℕ)) → position_or_len (λ c. c == 10) rest ≡ length rest → now ≡ before ++ rest ∷ [] → before ++ parts_of rest ≡ all → now ≡ all
parts_at_end before now rest all ended grown h = grown ∙ (sym (ap (λ l. before ++ l) (uncut rest ended)) ∙ h)
