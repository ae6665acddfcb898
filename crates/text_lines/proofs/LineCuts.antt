-- What the codec finds at the front of some bytes is the first of the lines into which they are cut.
use Rattle.std.proofs.Common.{◌≡◌, ℕ, zero, suc, ◌+◌, ◌-◌, ◌<◌, ◌≤◌, ◌==◌, ◌⊎◌, Bool, true, false, cond, ◌&&◌, nat_le, nat_lt, if◌then◌else◌, List, [], ◌∷◌, ◌++◌, length, take, drop, replicate, get_or, Option, Some, None, Result, Ok, Err, String, Global, IsUtf8, string_bytes, refl, sym, ap, ◌∙◌, subst, inl, inr, lit<, arith, length-append, length-drop, append-nil}
use Rattle.std.proofs.lemmas.List.{length-take-le, length-replicate, append_cancel_right, take_all}
use Rattle.std.proofs.Math.Seq.{take-append_seam}
use Rattle.std.proofs.lemmas.Bool.{cases_lt, eqb-true}
use Rattle.std.proofs.lemmas.Bool.Decides.{nat_tests}
use Rattle.std.proofs.lemmas.Str.{IsUtf8-append, IsUtf8-from_ascii, IsUtf8-take, IsUtf8-nil, IsUtf8-from_is_utf8, is_utf8-from_IsUtf8, IsUtf8-string_bytes}
use Rattle.std.specs.IoError.{error_kind}
use Rattle.std.specs.List.{position_or_len}
use Rattle.std.specs.Str.{is_utf8}
use Rattle.std.specs.declared.io.Error.{Error}
use Rattle.std.specs.declared.io.ErrorKind.TheVariants.{InvalidData, OutOfMemory}
use Rattle.tokio_util.specs.declared.codec.lines_codec.LinesCodec.{LinesCodec}
use Rattle.tokio_util.specs.declared.codec.lines_codec.LinesCodecError.{LinesCodecError}
use Rattle.tokio_util.specs.declared.codec.lines_codec.LinesCodecError.TheVariants.{MaxLineLengthExceeded, Io}
use Rattle.tokio_util.specs.Codec.Next.{decoded, partial, at_end, Resumes}
use Rattle.tokio_util.specs.Codec.Lines.{newline_from, without_carriage_return, max_length, Scan, line, too_long, unfinished, read_line, skip_line, scan, at_line_start, discarding, IsOutOfMemory, IsSettled, IsUnfinished, Answers, AnswersAtEnd, gives_lines}
use Rattle.tokio_util.specs.Codec.LinesLaws.{read_line_found, read_line_long, read_line_short, skip_line_found, skip_line_missing}
use Rattle.rig_model.specs.lines.Words.{joined_to_first}
use Rattle.rig_model.specs.TextLines.{cut, lf_count, without_last_cr, text_of_line}
use Rattle.text_lines.specs.cited.Reading.{HasFirstLine}
use Rattle.rig_model.specs.declared.limits.TheConstants.{MAX_LINE}

-- the place of the first LF, or the length
abbrev pub first_lf : List ℕ → ℕ
first_lf xs = position_or_len (λ b. b == 10) xs

-- the bytes before the first LF have none
no_lf_before : (xs : List ℕ) → lf_count (take (first_lf xs) xs) ≡ 0
no_lf_before [] = refl
no_lf_before (c ∷ cs) = by (c == 10) refl (no_lf_before cs)
  where
    by : (b : Bool) → (c == 10) ≡ b → lf_count (take (first_lf cs) cs) ≡ 0 → lf_count (take (first_lf (c ∷ cs)) (c ∷ cs)) ≡ 0
    by true e none = rw e refl
    by false e none =
        let on : 1 + first_lf cs ≡ suc (first_lf cs) = omega arith in
        rw (e, on, e) none

no_lf : (xs : List ℕ) → length xs ≤ first_lf xs → lf_count xs ≡ 0
no_lf xs none = subst (λ ys. lf_count ys ≡ 0) (take_all (first_lf xs) xs none) (no_lf_before xs)

-- an LF divides the bytes
parted_at_lf : (xs : List ℕ) → first_lf xs < length xs → xs ≡ take (first_lf xs) xs ++ 10 ∷ drop (first_lf xs + 1) xs
parted_at_lf [] h = absurd (omega arith)
parted_at_lf (c ∷ cs) h = by (c == 10) refl (parted_at_lf cs)
  where
    by : (b : Bool) → (c == 10) ≡ b → (first_lf cs < length cs → cs ≡ take (first_lf cs) cs ++ 10 ∷ drop (first_lf cs + 1) cs)
        → c ∷ cs ≡ take (first_lf (c ∷ cs)) (c ∷ cs) ++ 10 ∷ drop (first_lf (c ∷ cs) + 1) (c ∷ cs)
    by true e rest = rw e (ap (λ x. x ∷ cs) (eqb-true c 10 e))
    by false e rest =
        let n = first_lf cs in
        let on : 1 + n ≡ suc n = omega arith in
        let past : suc n + 1 ≡ suc (n + 1) = omega arith in
        let found : 1 + n < suc (length cs) = rw e at h in
        rw (e, on, past) (ap (λ ys. c ∷ ys) (rest (omega arith)))

-- if there are bytes, there is a line at their front
pub some_line : (xs : List ℕ) → 0 < length xs → HasFirstLine xs (λ line. Unit {0})
some_line [] some = absurd (omega arith)
some_line (c ∷ cs) some = by (c == 10) refl
  where
    joined : (ls : List (List ℕ)) → cut (c ∷ cs) ≡ joined_to_first c ls → HasFirstLine (c ∷ cs) (λ line. Unit {0})
    joined [] e = (c ∷ [], [], e, tt)
    joined (l ∷ ls) e = (c ∷ l, ls, e, tt)

    by : (b : Bool) → (c == 10) ≡ b → HasFirstLine (c ∷ cs) (λ line. Unit {0})
    by true e = ([], cut cs, rw e refl, tt)
    by false e = joined (cut cs) (rw e refl)

pub lf_count-append : (xs ys : List ℕ) → lf_count (xs ++ ys) ≡ lf_count xs + lf_count ys
lf_count-append [] ys = omega arith
lf_count-append (c ∷ cs) ys = by (c == 10) refl (lf_count-append cs ys)
  where
    by : (b : Bool) → (c == 10) ≡ b → lf_count (cs ++ ys) ≡ lf_count cs + lf_count ys → lf_count (c ∷ cs ++ ys) ≡ lf_count (c ∷ cs) + lf_count ys
    by true e rest = rw e (omega (arith, rest))
    by false e rest = rw e rest

-- with an LF
cut_at_lf : (xs : List ℕ) → first_lf xs < length xs → cut xs ≡ take (first_lf xs) xs ∷ cut (drop (first_lf xs + 1) xs)
cut_at_lf [] h = absurd (omega arith)
cut_at_lf (c ∷ cs) h = by (c == 10) refl (cut_at_lf cs)
  where
    by : (b : Bool) → (c == 10) ≡ b → (first_lf cs < length cs → cut cs ≡ take (first_lf cs) cs ∷ cut (drop (first_lf cs + 1) cs)) → cut (c ∷ cs) ≡ take (first_lf (c ∷ cs)) (c ∷ cs) ∷ cut (drop (first_lf (c ∷ cs) + 1) (c ∷ cs))
    by true e rest = rw e refl
    by false e rest =
        let n = first_lf cs in
        let on : 1 + n ≡ suc n = omega arith in
        let past : suc n + 1 ≡ suc (n + 1) = omega arith in
        let found : 1 + n < suc (length cs) = rw e at h in
        rw (e, on, past, rest (omega arith)) refl

-- without an LF
cut_without_lf : (xs : List ℕ) → length xs ≤ first_lf xs → 0 < length xs → cut xs ≡ xs ∷ []
cut_without_lf [] h some = absurd (omega arith)
cut_without_lf (c ∷ cs) h some = by (c == 10) refl (cut_without_lf cs)
  where
    joined : (ds : List ℕ) → (0 < length ds → cut ds ≡ ds ∷ []) → joined_to_first c (cut ds) ≡ (c ∷ ds) ∷ []
    joined [] rest = refl
    joined (d ∷ ds) rest = rw (rest (omega arith)) refl

    by : (b : Bool) → (c == 10) ≡ b → (length cs ≤ first_lf cs → 0 < length cs → cut cs ≡ cs ∷ []) → cut (c ∷ cs) ≡ (c ∷ cs) ∷ []
    by true e rest = let none : suc (length cs) ≤ 0 = rw e at h in absurd (omega arith)
    by false e rest =
        let none : suc (length cs) ≤ 1 + first_lf cs = rw e at h in
        rw e (joined cs (rest (omega arith)))

without_cr-cons : (c d : ℕ) (cs : List ℕ) → without_carriage_return (c ∷ d ∷ cs) ≡ c ∷ without_carriage_return (d ∷ cs)
unfolding without_carriage_return
without_cr-cons c d cs =
    let e : suc (suc (length cs)) - 1 ≡ suc (length cs) = omega arith in
    let f : suc (length cs) - 1 ≡ length cs = omega arith in
    let g : nat_lt 0 (suc (suc (length cs))) ≡ true = grind (arith, nat_tests) in
    let h : nat_lt 0 (suc (length cs)) ≡ true = grind (arith, nat_tests) in
    rw (e, f, g, h) (by (get_or (d ∷ cs) (length cs) 0 == 13))
  where
    by : (b : Bool) → cond b (c ∷ take (length cs) (d ∷ cs)) (c ∷ d ∷ cs) ≡ c ∷ cond b (take (length cs) (d ∷ cs)) (d ∷ cs)
    by true = refl
    by false = refl

-- the codec removes one CR in the same way
pub without_cr_same : (xs : List ℕ) → without_carriage_return xs ≡ without_last_cr xs
unfolding without_carriage_return
without_cr_same [] = refl
without_cr_same (c ∷ []) = refl
without_cr_same (c ∷ d ∷ cs) = without_cr-cons c d cs ∙ ap (λ l. c ∷ l) (without_cr_same (d ∷ cs))

-- a CR at the end was removed, or nothing was
cr_or_same : (xs : List ℕ) → (xs ≡ without_last_cr xs ++ 13 ∷ []) ⊎ (xs ≡ without_last_cr xs)
cr_or_same [] = inr refl
cr_or_same (c ∷ []) = by (c == 13) refl
  where
    by : (b : Bool) → (c == 13) ≡ b → (c ∷ [] ≡ without_last_cr (c ∷ []) ++ 13 ∷ []) ⊎ (c ∷ [] ≡ without_last_cr (c ∷ []))
    by true e = inl (rw e (ap (λ x. x ∷ []) (eqb-true c 13 e)))
    by false e = inr (rw e refl)
cr_or_same (c ∷ d ∷ cs) = elim (cr_or_same (d ∷ cs)) [ inl e ↦ inl (ap (λ l. c ∷ l) e) | inr e ↦ inr (ap (λ l. c ∷ l) e) ]

cr_is_text : IsUtf8 (13 ∷ [])
cr_is_text = IsUtf8-from_ascii (13 ∷ []) low
  where
    low : (i : ℕ) → get_or (13 ∷ []) i 0 < 128
    low zero = lit< tt
    low (suc i) = lit< tt

-- a line is UTF-8 if it is UTF-8 without its CR
is_text_with_cr : (xs : List ℕ) → IsUtf8 (without_last_cr xs) → IsUtf8 xs
is_text_with_cr xs u =
    elim (cr_or_same xs) [
      | inl e ↦ subst IsUtf8 (sym e) (IsUtf8-append (without_last_cr xs) (13 ∷ []) u cr_is_text)
      | inr e ↦ subst IsUtf8 (sym e) u
    ]

at_last : (ys : List ℕ) → get_or (ys ++ 13 ∷ []) (length ys) 0 ≡ 13
at_last [] = refl
at_last (y ∷ ys) = at_last ys

is_text_without_cr : (xs : List ℕ) → IsUtf8 xs → IsUtf8 (without_last_cr xs)
is_text_without_cr xs u =
    let ys = without_last_cr xs in
    elim (cr_or_same xs) [
      | inl e ↦
          subst IsUtf8 (take-append_seam ys (13 ∷ []))
          (IsUtf8-take (ys ++ 13 ∷ []) (length ys) (subst IsUtf8 e u)
          (omega (arith, length-append ys (13 ∷ [])), λ _ high. omega (arith, at_last ys, high)))
      | inr e ↦ subst IsUtf8 e u
    ]

pub text_of_short : (xs : List ℕ) → length xs ≤ MAX_LINE → IsUtf8 (without_last_cr xs) → text_of_line xs ≡ Some (without_last_cr xs)
text_of_short xs short u = let text = is_utf8-from_IsUtf8 xs (is_text_with_cr xs u) in grind (arith, nat_tests, text)

text_of_long : (xs : List ℕ) → MAX_LINE < length xs → text_of_line xs ≡ None
text_of_long xs long = grind (arith, nat_tests)

text_of_no_text : (xs : List ℕ) → ¬ IsUtf8 (without_last_cr xs) → text_of_line xs ≡ None
text_of_no_text xs h = by (nat_le (length xs) MAX_LINE) (is_utf8 xs) refl
  where
    by : (a b : Bool) → is_utf8 xs ≡ b → (if a && b then Some (without_last_cr xs) else None) ≡ None
    by a true e = absurd (h (is_text_without_cr xs (IsUtf8-from_is_utf8 xs e)))
    by true false e = refl
    by false false e = refl

-- what the front of xs is, by what the codec finds there
abbrev Scanned : List ℕ → Scan → Type 0
Scanned xs (line text rest) =
    (raw : List ℕ) × (cut xs ≡ raw ∷ cut rest) × (length raw ≤ MAX_LINE) × (text ≡ without_last_cr raw) × (lf_count raw ≡ 0) × (xs ≡ raw ++ 10 ∷ rest)
Scanned xs (too_long rest) = (raw : List ℕ) × (later : List (List ℕ)) × (cut xs ≡ raw ∷ later) × (MAX_LINE < length raw)
Scanned xs (unfinished is_dropped kept) = (is_dropped ≡ false) × (kept ≡ xs) × (length xs ≤ MAX_LINE) × (0 < length xs → cut xs ≡ xs ∷ []) × (lf_count xs ≡ 0)

lf_from_start : (xs : List ℕ) → newline_from 0 xs ≡ first_lf xs
unfolding newline_from
lf_from_start xs = omega arith

scanned : (xs : List ℕ) → Scanned xs (read_line MAX_LINE 0 xs)
scanned xs =
    let same = lf_from_start xs in
    let n = newline_from 0 xs in
    elim (cases_lt n (length xs)) [
      | inl found ↦
          let whole = cut_at_lf xs (rw (← same) found) in
          let front : length (take (first_lf xs) xs) ≡ first_lf xs = length-take-le (first_lf xs) xs (omega arith) in
          elim (cases_lt MAX_LINE n) [
            | inl far ↦ subst (Scanned xs) (sym (read_line_long MAX_LINE 0 xs far (omega arith))) (take (first_lf xs) xs, cut (drop (first_lf xs + 1) xs), whole, omega arith)
            | inr near ↦ subst (Scanned xs) (sym (read_line_found MAX_LINE 0 xs found near))
                (take n xs, rw same whole, rw same (omega arith), without_cr_same (take n xs), rw same (no_lf_before xs), rw same (parted_at_lf xs (rw (← same) found)))
          ]
      | inr missing ↦
          let alone = cut_without_lf xs (rw (← same) missing) in
          elim (cases_lt MAX_LINE (length xs)) [
            | inl long ↦ subst (Scanned xs) (sym (read_line_long MAX_LINE 0 xs (omega arith) long)) (xs, [], alone (omega arith), long)
            | inr short ↦ subst (Scanned xs) (sym (read_line_short MAX_LINE 0 xs missing short)) (refl, refl, short, alone, no_lf xs (rw (← same) missing))
          ]
    ]

-- the first line of xs has the text, and ys follows it; after an error, the line is bad, or memory ran out for it
abbrev pub Cuts : List ℕ → Result (String Global) LinesCodecError → LinesCodec → List ℕ → Type 0
Cuts xs (Ok text) t ys =
    (t ≡ at_line_start MAX_LINE) × (raw : List ℕ) × (cut xs ≡ raw ∷ cut ys) × (text_of_line raw ≡ Some (string_bytes text)) × (lf_count raw ≡ 0) × (xs ≡ raw ++ 10 ∷ ys)
Cuts xs (Err e) t ys =
    (IsOutOfMemory {T = ℕ} (Err e) × HasFirstLine xs (λ line. Unit {0})) ⊎ (¬ IsOutOfMemory {T = ℕ} (Err e) × HasFirstLine xs (λ line. text_of_line line ≡ None))

-- the same at the end of the input: the codec finds no line if there are no bytes, or a CR alone
abbrev pub CutsLast : List ℕ → Result (Option (String Global)) LinesCodecError → LinesCodec → List ℕ → Type 0
CutsLast xs (Ok None) t ys = (t ≡ at_line_start MAX_LINE) × (ys ≡ xs) × ((xs ≡ []) ⊎ (xs ≡ 13 ∷ []))
CutsLast xs (Ok (Some text)) t ys = (t ≡ at_line_start MAX_LINE) × (raw : List ℕ) × (cut xs ≡ raw ∷ cut ys) × (text_of_line raw ≡ Some (string_bytes text)) × (ys ≡ [])
CutsLast xs (Err e) t ys = (IsOutOfMemory {T = ℕ} (Err e) × (ys ≡ xs)) ⊎ (¬ IsOutOfMemory {T = ℕ} (Err e) × HasFirstLine xs (λ line. text_of_line line ≡ None))

text_found : (raw text : List ℕ) (x : String Global) → length raw ≤ MAX_LINE → text ≡ without_last_cr raw → string_bytes x ≡ text → text_of_line raw ≡ Some (string_bytes x)
text_found raw text x short e f =
    let g : string_bytes x ≡ without_last_cr raw = f ∙ e in
    text_of_short raw short (subst IsUtf8 g (IsUtf8-string_bytes x)) ∙ ap (λ zs. Some zs) (sym g)

pub not_memory : (e : Error) → error_kind e ≡ InvalidData → ¬ (error_kind e ≡ OutOfMemory)
not_memory e is m = cc

pub decoded_cuts : (xs : List ℕ) (r : Result (String Global) LinesCodecError) (t : LinesCodec) (ys : List ℕ) → gives_lines (at_line_start MAX_LINE) xs (decoded r t ys) → Cuts xs r t ys
decoded_cuts xs r t ys h = by (read_line MAX_LINE 0 xs) r (scanned xs) h
  where
    by : (s : Scan) (r : Result (String Global) LinesCodecError) → Scanned xs s → Answers MAX_LINE s r t ys → Cuts xs r t ys
    by (line text rest) (Ok x) s (inl a) = (a.1, s.0, rw a.2 s.1, text_found s.0 text x s.2 s.3 a.0, s.4, rw a.2 s.5)
    by (line text rest) (Ok x) s (inr a) = absurd a.0
    by (line text rest) (Err MaxLineLengthExceeded) s (inl a) = absurd a.0
    by (line text rest) (Err MaxLineLengthExceeded) s (inr a) = absurd a.0
    by (line text rest) (Err (Io e)) s (inl a) = inr (not_memory e a.0.0, (s.0, cut rest, s.1, text_of_no_text s.0 (λ u. a.0.1 (subst IsUtf8 (sym s.3) u))))
    by (line text rest) (Err (Io e)) s (inr a) = inl (a.0, (s.0, cut rest, s.1, tt))
    by (too_long rest) (Ok x) s a = let wrong = a.0 in cc
    by (too_long rest) (Err e) s a =
        let is : e ≡ MaxLineLengthExceeded = let same = a.0 in cc in
        inr (subst (λ f. ¬ IsOutOfMemory {T = ℕ} (Err f)) (sym is) (λ m. m), (s.0, s.1, s.2, text_of_long s.0 s.3))
    by (unfinished is_dropped kept) r s a = absurd a

pub last_cuts : (xs : List ℕ) (r : Result (Option (String Global)) LinesCodecError) (t : LinesCodec) (ys : List ℕ) → gives_lines (at_line_start MAX_LINE) xs (at_end r t ys) → CutsLast xs r t ys
last_cuts xs r t ys h = by (read_line MAX_LINE 0 xs) r (scanned xs) h
  where
    some_of : (zs : List ℕ) → 0 < length (without_carriage_return zs) → 0 < length zs
    some_of zs h = go zs (subst (λ l. 0 < length l) (without_cr_same zs) h)
      where
        go : (zs : List ℕ) → 0 < length (without_last_cr zs) → 0 < length zs
        go [] h = absurd (omega arith)
        go (z ∷ zs) h = omega arith

    not_text : (zs : List ℕ) → ¬ IsUtf8 (without_carriage_return zs) → 0 < length zs
    not_text zs h = go zs (λ u. h (subst IsUtf8 (sym (without_cr_same zs)) u))
      where
        go : (zs : List ℕ) → ¬ IsUtf8 (without_last_cr zs) → 0 < length zs
        go [] h = absurd (h IsUtf8-nil)
        go (z ∷ zs) h = omega arith

    by : (s : Scan) (r : Result (Option (String Global)) LinesCodecError) → Scanned xs s → AnswersAtEnd MAX_LINE s r t ys → CutsLast xs r t ys
    by (line text rest) r s a = absurd a
    by (too_long rest) r s a = absurd a
    by (unfinished true kept) r s a = let wrong = s.0 in cc
    by (unfinished false kept) (Ok None) s a =
        let none : without_last_cr xs ≡ [] = sym (without_cr_same xs) ∙ ap without_carriage_return (sym s.1) ∙ a.0.0 in (
          a.1,
          a.0.1 ∙ s.1,
          elim (cr_or_same xs) [ inl e ↦ inr (e ∙ ap (λ l. l ++ 13 ∷ []) none) | inr e ↦ inl (e ∙ none) ],
        )
    by (unfinished false kept) (Ok (Some x)) s a =
        let some = some_of xs (subst (λ l. 0 < length (without_carriage_return l)) s.1 a.0.0) in (
          a.1,
          xs,
          rw a.0.2 (s.3 some),
          text_found xs (without_carriage_return xs) x s.2 (without_cr_same xs) (a.0.1 ∙ ap without_carriage_return s.1),
          a.0.2,
        )
    by (unfinished false kept) (Err MaxLineLengthExceeded) s a = elim a.0 [ inl b ↦ absurd b.0 | inr b ↦ absurd b.0 ]
    by (unfinished false kept) (Err (Io e)) s a =
        elim a.0 [
          | inl b ↦
              let no_text : ¬ IsUtf8 (without_carriage_return xs) = subst (λ l. ¬ IsUtf8 (without_carriage_return l)) s.1 b.0.1 in
              inr (not_memory e b.0.0, (xs, [], s.3 (not_text xs no_text), text_of_no_text xs (λ u. no_text (subst IsUtf8 (sym (without_cr_same xs)) u))))
          | inr b ↦ inl (b.0, b.2 ∙ s.1)
        ]

-- the codec drops nothing of bytes without a whole line, and nothing of bytes that are too long
unfinished_is : (max from : ℕ) (xs : List ℕ) (dropped : Bool) (kept : List ℕ) → read_line max from xs ≡ unfinished dropped kept → dropped ≡ false
unfolding read_line
unfinished_is max from xs dropped kept e = by (nat_lt (newline_from from xs) (length xs) && nat_le (newline_from from xs) max) (nat_lt max (length xs)) e
  where
    by : (a b : Bool)
        → (if a then line (without_carriage_return (take (newline_from from xs) xs)) (drop (newline_from from xs + 1) xs) else (if b then too_long xs else unfinished false xs)) ≡ unfinished dropped kept
        → dropped ≡ false
    by true b e = absurd (cc)
    by false true e = absurd (cc)
    by false false e = cc

too_long_is : (max from : ℕ) (xs rest : List ℕ) → read_line max from xs ≡ too_long rest → rest ≡ xs
unfolding read_line
too_long_is max from xs rest e = by (nat_lt (newline_from from xs) (length xs) && nat_le (newline_from from xs) max) (nat_lt max (length xs)) e
  where
    by : (a b : Bool)
        → (if a then line (without_carriage_return (take (newline_from from xs) xs)) (drop (newline_from from xs + 1) xs) else (if b then too_long xs else unfinished false xs)) ≡ too_long rest
        → rest ≡ xs
    by true b e = absurd (cc)
    by false true e = cc
    by false false e = absurd (cc)

line_is_shorter : (max from : ℕ) (xs text rest : List ℕ) → read_line max from xs ≡ line text rest → length rest < length xs
unfolding read_line
line_is_shorter max from xs text rest e = by (nat_lt (newline_from from xs) (length xs)) refl (nat_le (newline_from from xs) max) (nat_lt max (length xs)) e
  where
    by : (a : Bool) → nat_lt (newline_from from xs) (length xs) ≡ a → (b c : Bool)
        → (if a && b then line (without_carriage_return (take (newline_from from xs) xs)) (drop (newline_from from xs + 1) xs) else (if c then too_long xs else unfinished false xs)) ≡ line text rest
        → length rest < length xs
    by true f true c e =
        let found : newline_from from xs < length xs = grind (arith, nat_tests, f) in
        let is : rest ≡ drop (newline_from from xs + 1) xs = cc in
        let long : length rest ≡ length xs - (newline_from from xs + 1) = ap (λ (l : List ℕ). length l) is ∙ length-drop (newline_from from xs + 1) xs in
        omega (arith, found, long)
    by true f false true e = absurd (cc)
    by true f false false e = absurd (cc)
    by false f b true e = absurd (cc)
    by false f b false e = absurd (cc)

-- an unfinished line has no LF after the place where the search began
unfinished_has_none : (max from : ℕ) (xs : List ℕ) → IsUnfinished (read_line max from xs) → length xs ≤ newline_from from xs
unfinished_has_none max from xs h =
    elim (cases_lt (newline_from from xs) (length xs)) [
      | inl found ↦ elim (cases_lt max (newline_from from xs)) [
        | inl far ↦ absurd (subst IsUnfinished (read_line_long max from xs far (omega arith)) h)
        | inr near ↦ absurd (subst IsUnfinished (read_line_found max from xs found near) h)
      ]
      | inr missing ↦ missing
    ]

-- bytes that aren't LF
abbrev letters : ℕ → List ℕ
letters n = replicate n 97

no_lf_in_letters : (n : ℕ) → lf_count (letters n) ≡ 0
no_lf_in_letters zero = refl
no_lf_in_letters (suc n) = no_lf_in_letters n

fewer_dropped : (n : ℕ) (xs : List ℕ) → lf_count xs ≡ 0 → lf_count (drop n xs) ≡ 0
fewer_dropped zero xs none = none
fewer_dropped (suc n) [] none = refl
fewer_dropped (suc n) (c ∷ cs) none = fewer_dropped n cs (by (c == 10) refl)
  where
    by : (b : Bool) → (c == 10) ≡ b → lf_count cs ≡ 0
    by true e = let wrong : suc (lf_count cs) ≡ 0 = rw e at none in absurd (omega (arith, wrong))
    by false e = rw e at none

dropped_apart : (n : ℕ) (xs ys : List ℕ) → drop n (xs ++ ys) ≡ drop n xs ++ drop (n - length xs) ys
dropped_apart zero xs ys = let none : 0 ≡ 0 - length xs = omega arith in ap (λ k. xs ++ drop k ys) none
dropped_apart (suc n) [] ys = let all : suc n ≡ suc n - 0 = omega arith in ap (λ k. drop k ys) all
dropped_apart (suc n) (x ∷ xs) ys =
    let less : n - length xs ≡ suc n - suc (length xs) = omega arith in
    dropped_apart n xs ys ∙ ap (λ k. drop n xs ++ drop k ys) less

missing_where_none : (xs : List ℕ) → lf_count xs ≡ 0 → length xs ≤ first_lf xs
missing_where_none [] none = omega arith
missing_where_none (c ∷ cs) none = by (c == 10) refl (missing_where_none cs)
  where
    by : (b : Bool) → (c == 10) ≡ b → (lf_count cs ≡ 0 → length cs ≤ first_lf cs) → length (c ∷ cs) ≤ first_lf (c ∷ cs)
    by true e rest = let wrong : suc (lf_count cs) ≡ 0 = rw e at none in absurd (omega (arith, wrong))
    by false e rest = let far = rest (rw e at none) in rw e (omega (arith, far))

newline_is : (from : ℕ) (xs : List ℕ) → newline_from from xs ≡ from + first_lf (drop from xs)
unfolding newline_from
newline_is from xs = refl

-- if letters follow, the search goes on to their end
searched_on : (from : ℕ) (xs : List ℕ) (n : ℕ) → length xs ≤ newline_from from xs → length xs + n ≤ newline_from from (xs ++ letters n)
searched_on from xs n missing =
    let before : length (drop from xs) ≡ length xs - from = length-drop from xs in
    let here = newline_is from xs in
    let none : lf_count (drop from xs) ≡ 0 = no_lf (drop from xs) (omega (arith, before, here, missing)) in
    let behind : lf_count (drop from (xs ++ letters n)) ≡ 0 =
    ap lf_count (dropped_apart from xs (letters n)) ∙ lf_count-append (drop from xs) (drop (from - length xs) (letters n))
    ∙ both none (fewer_dropped (from - length xs) (letters n) (no_lf_in_letters n)) in
    let far = missing_where_none (drop from (xs ++ letters n)) behind in
    let all : length (drop from (xs ++ letters n)) ≡ length (xs ++ letters n) - from = length-drop from (xs ++ letters n) in
    let long : length (xs ++ letters n) ≡ length xs + n = length-append xs (letters n) ∙ ap (λ k. length xs + k) (length-replicate n 97) in
    let is = newline_is from (xs ++ letters n) in
    omega (arith, far, all, long, is)
  where
    both : {a b : ℕ} → a ≡ 0 → b ≡ 0 → a + b ≡ 0
    both e f = omega (arith, e, f)

-- A codec that has found no line, and goes on as a codec at the start of a line would with these bytes, has exactly these bytes, and
-- isn't in a line that was too long.
module _ (now : List ℕ) (t : LinesCodec) (ys : List ℕ) (goes_on : Resumes gives_lines (at_line_start MAX_LINE) now t ys) where
  discards_nothing : IsSettled t ys → t.is_discarding ≡ false
  discards_nothing settled = by t.is_discarding refl
    where
      -- a codec that drops the rest of a line has nothing left
      dropped_all : (b : Bool) → nat_lt (newline_from 0 ys) (length ys) ≡ b → skip_line t.max_length ys ≡ unfinished true ys → ys ≡ []
      dropped_all true e is =
          let found : newline_from 0 ys < length ys = grind (arith, nat_tests, e) in
          let again = sym (skip_line_found t.max_length ys found) ∙ is in
          let wrong : true ≡ false = unfinished_is t.max_length 0 (drop (newline_from 0 ys + 1) ys) true ys again in
          absurd (cc)
      dropped_all false e is =
          let missing : length ys ≤ newline_from 0 ys = grind (arith, nat_tests, e) in
          let same : unfinished true [] ≡ unfinished true ys = sym (skip_line_missing t.max_length ys missing) ∙ is in
          cc

      wrong_at : (s : Scan) → Scanned (now ++ []) s → AnswersAtEnd MAX_LINE s (Ok None) (discarding (max_length t)) [] → ⊥
      wrong_at (line text rest) s a = absurd a
      wrong_at (too_long rest) s a = absurd a
      wrong_at (unfinished dropped kept) s a =
          let is : discarding (max_length t) ≡ at_line_start MAX_LINE = rw s.0 at a.1 in
          let wrong : true ≡ false = ap (λ (c : LinesCodec). c.is_discarding) is in
          absurd (cc)

      by : (b : Bool) → t.is_discarding ≡ b → t.is_discarding ≡ false
      by false e = e
      by true e =
          let skipped : skip_line t.max_length ys ≡ unfinished true ys = rw e at settled in
          let none = dropped_all (nat_lt (newline_from 0 ys) (length ys)) refl skipped in
          let is : scan t (ys ++ []) ≡ unfinished true (ys ++ []) = rw (append-nil ys, e) skipped in
          let ends : gives_lines t (ys ++ []) (at_end (Ok None) (discarding (max_length t)) []) =
          subst (λ s. AnswersAtEnd (max_length t) s (Ok None) (discarding (max_length t)) []) (sym is) ((ap without_carriage_return (append-nil ys ∙ none) ∙ without_cr_same [], sym (append-nil ys ∙ none)), refl) in
          absurd (wrong_at (read_line MAX_LINE 0 (now ++ [])) (scanned (now ++ [])) (goes_on [] (at_end (Ok None) (discarding (max_length t)) []) ends))

  pub same_bytes : IsSettled t ys → (t.is_discarding ≡ false) × (ys ≡ now) × IsUnfinished (scan t ys)
  same_bytes settled = (goes, append_cancel_right ys now (letters n) same, unfinished_here)
    where
      goes : t.is_discarding ≡ false
      goes = discards_nothing settled

      n : ℕ
      n = t.max_length + 1

      unfinished_here : IsUnfinished (scan t ys)
      unfinished_here = subst IsUnfinished (sym settled) tt

      searched : length ys ≤ newline_from t.next_index ys
      searched = unfinished_has_none t.max_length t.next_index ys (rw goes at unfinished_here)

      too_long_here : scan t (ys ++ letters n) ≡ too_long (ys ++ letters n)
      too_long_here =
          let far = searched_on t.next_index ys n searched in
          let long : length (ys ++ letters n) ≡ length ys + n = length-append ys (letters n) ∙ ap (λ k. length ys + k) (length-replicate n 97) in
          rw goes (read_line_long t.max_length t.next_index (ys ++ letters n) (omega (arith, far)) (omega (arith, long)))

      found : gives_lines (at_line_start MAX_LINE) (now ++ letters n) (decoded (Err MaxLineLengthExceeded) (discarding (max_length t)) (ys ++ letters n))
      found =
          goes_on (letters n) (decoded (Err MaxLineLengthExceeded) (discarding (max_length t)) (ys ++ letters n))
          (subst (λ s. Answers (max_length t) s (Err MaxLineLengthExceeded) (discarding (max_length t)) (ys ++ letters n)) (sym too_long_here) (refl, refl, refl))

      same : ys ++ letters n ≡ now ++ letters n
      same = by (read_line MAX_LINE 0 (now ++ letters n)) refl found
        where
          by : (s : Scan) → read_line MAX_LINE 0 (now ++ letters n) ≡ s → Answers MAX_LINE s (Err MaxLineLengthExceeded) (discarding (max_length t)) (ys ++ letters n) → ys ++ letters n ≡ now ++ letters n
          by (line text rest) e (inl a) = absurd a.0
          by (line text rest) e (inr a) = absurd a.0
          by (too_long rest) e a = a.2 ∙ too_long_is MAX_LINE 0 (now ++ letters n) rest e
          by (unfinished dropped kept) e a = absurd a

-- if the codec found no line, no LF was read
pub no_whole_line : (now : List ℕ) → gives_lines (at_line_start MAX_LINE) now partial → lf_count now ≡ 0
no_whole_line now h = by (read_line MAX_LINE 0 now) (scanned now) h
  where
    by : (s : Scan) → Scanned now s → IsUnfinished s → lf_count now ≡ 0
    by (line text rest) s a = absurd a
    by (too_long rest) s a = absurd a
    by (unfinished dropped kept) s a = s.4

-- a line that was found uses up bytes
pub line_takes : (codec : LinesCodec) (now : List ℕ) (text : String Global) (t : LinesCodec) (ys : List ℕ) → codec.is_discarding ≡ false → gives_lines codec now (decoded (Ok text) t ys) → length ys < length now
line_takes codec now text t ys goes h = by (read_line codec.max_length codec.next_index now) refl (rw goes at h)
  where
    by : (s : Scan) → read_line codec.max_length codec.next_index now ≡ s → Answers (max_length codec) s (Ok text) t ys → length ys < length now
    by (line words rest) e (inl a) = let shorter = line_is_shorter codec.max_length codec.next_index now words rest e in subst (λ (l : List ℕ). length l < length now) (sym a.2) shorter
    by (line words rest) e (inr a) = absurd a.0
    by (too_long rest) e a = let wrong = a.0 in absurd (cc)
    by (unfinished dropped kept) e a = absurd a
