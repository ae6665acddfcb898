-- What the codec finds in the bytes that were read is the next line of the whole stream.
use Rattle.std.proofs.Common.{◌≡◌, ◌≢◌, ℕ, ◌<◌, ◌≤◌, ◌+◌, ◌-◌, ◌*◌, ◌⊎◌, Bool, true, List, [], ◌∷◌, ◌++◌, length, Option, Some, None, IsSomeAnd, IfSome, Result, Ok, Err, String, Global, string_bytes, refl, sym, ap, ◌∙◌, subst, inl, inr, lit≤, append-nil, length-append, append_assoc, arith}
use Rattle.std.proofs.lemmas.Str.{IsUtf8-nil}
use Rattle.std.specs.Io.KnownBytes.{Keeps}
use Rattle.tokio_util.specs.declared.codec.lines_codec.LinesCodec.{LinesCodec}
use Rattle.tokio_util.specs.declared.codec.lines_codec.LinesCodecError.{LinesCodecError}
use Rattle.tokio_util.specs.Codec.Next.{decoded, partial, at_end, Resumes, DecodesAtEnd}
use Rattle.tokio_util.specs.Codec.Lines.{at_line_start, gives_lines, IsOutOfMemory, IsSettled}
use Rattle.tokio_util.specs.Codec.LinesLaws.{lines_stable}
use Rattle.text_lines.specs.declared.faults.LinesFault.{LinesFault}
use Rattle.text_lines.specs.declared.faults.LinesFault.TheVariants.{Read, Write, Turns, Memory}
use Rattle.text_lines.specs.declared.lines.Line.{Line}
use Rattle.text_lines.specs.declared.lines.Line.TheVariants.{Whole, Bad, End}
use Rattle.rig_model.specs.TextLines.{cut, text_of_line}
use Rattle.text_lines.specs.declared.lines.Lines.{Lines}
use Rattle.text_lines.specs.cited.Reading.{IsReading, IsNextLine, IsFurther, HasFirstLine, HasNoWholeLine, left_at_most}
use Rattle.text_lines.proofs.LineCuts.{text_of_short, some_line, decoded_cuts, last_cuts, same_bytes, no_whole_line, line_takes}
use Rattle.rig_model.specs.declared.limits.TheConstants.{MAX_LINE, MAX_READS}
use Rattle.text_lines.specs.declared.lines.TheConstants.{PAGE}

-- `AreAhead` and `IsLeft` of the parts
abbrev pub AreAheadIn : List ℕ → Option (List ℕ) → Bool → List ℕ → Type 0
AreAheadIn now rest ended bytes = IsSomeAnd rest (λ more. (ended ≡ true → more ≡ []) × (bytes ≡ now ++ more))

abbrev pub IsLeftIn : LinesCodec → List ℕ → Option (List ℕ) → Bool → List ℕ → Type 0
IsLeftIn codec now rest ended bytes = (codec ≡ at_line_start MAX_LINE) × AreAheadIn now rest ended bytes

pub reading_starts : (codec : LinesCodec) (now : List ℕ) → codec ≡ at_line_start MAX_LINE → IsReading codec now
reading_starts codec now is =
    (λ behind next found. subst (λ (c : LinesCodec). gives_lines c (now ++ behind) next) is found, ap (λ (c : LinesCodec). c.is_discarding) is)

-- the codec has found no line, and goes on with exactly what it had
pub reading_resumes : (codec : LinesCodec) (now : List ℕ) (t : LinesCodec) (ys : List ℕ) → IsReading codec now → Resumes gives_lines codec now t ys → IsSettled t ys → IsReading t ys × (ys ≡ now)
reading_resumes codec now t ys reading again settled =
    let goes_on : Resumes gives_lines (at_line_start MAX_LINE) now t ys = λ behind next found. reading.0 behind next (again behind next found) in
    let is = same_bytes now t ys goes_on settled in
    ((subst (λ zs. Resumes gives_lines (at_line_start MAX_LINE) zs t ys) (sym is.1) goes_on, is.0), is.1)

-- more bytes were read
pub reading_further : (codec : LinesCodec) (now page : List ℕ) → IsReading codec now → IsReading codec (now ++ page)
reading_further codec now page reading = (
  λ behind next found. subst (λ l. gives_lines (at_line_start MAX_LINE) l next) (sym (append_assoc now page behind))
      (reading.0 (page ++ behind) next (subst (λ l. gives_lines codec l next) (append_assoc now page behind) found)),
  reading.1,
)

-- what is found in the bytes that were read is found in the whole stream
carried : (bytes : List ℕ) (codec : LinesCodec) (now more : List ℕ) (r : Result (String Global) LinesCodecError) (t : LinesCodec) (ys : List ℕ)
    → IsReading codec now → bytes ≡ now ++ more → gives_lines codec now (decoded r t ys) → gives_lines (at_line_start MAX_LINE) bytes (decoded r t (ys ++ more))
carried bytes codec now more r t ys reading is found =
    subst (λ l. gives_lines (at_line_start MAX_LINE) l (decoded r t (ys ++ more))) (sym is)
    (reading.0 more (decoded r t (ys ++ more)) (lines_stable codec now r t ys more found))

-- the same at the end of the stream, when all was read
carried_last : (bytes : List ℕ) (codec : LinesCodec) (now more : List ℕ) (r : Result (Option (String Global)) LinesCodecError) (t : LinesCodec) (ys : List ℕ)
    → IsReading codec now → more ≡ [] → bytes ≡ now ++ more → gives_lines codec now (at_end r t ys) → gives_lines (at_line_start MAX_LINE) bytes (at_end r t ys)
carried_last bytes codec now more r t ys reading none is found =
    let all : bytes ≡ now ++ [] = is ∙ ap (λ l. now ++ l) none in
    subst (λ l. gives_lines (at_line_start MAX_LINE) l (at_end r t ys)) (sym all)
    (reading.0 [] (at_end r t ys) (subst (λ l. gives_lines codec l (at_end r t ys)) (sym (append-nil now)) found))

pub line_next : (bytes : List ℕ) (codec : LinesCodec) (now : List ℕ) (rest : Option (List ℕ)) (ended : Bool) (text : String Global) (t : LinesCodec) (ys : List ℕ)
    → IsReading codec now → AreAheadIn now rest ended bytes → gives_lines codec now (decoded (Ok text) t ys) → IsNextLine bytes (Ok (Whole text)) rest ended (IsLeftIn t ys rest ended)
line_next bytes codec now None ended text t ys reading h found = absurd h
line_next bytes codec now (Some more) ended text t ys reading h found =
    let c = decoded_cuts bytes (Ok text) t (ys ++ more) (carried bytes codec now more (Ok text) t ys reading h.1 found) in
    (c.1, ys ++ more, (c.2, inl (c.4, c.5)), c.3, (c.0, (h.0, refl)))

pub last_next : (bytes : List ℕ) (codec : LinesCodec) (now : List ℕ) (rest : Option (List ℕ)) (text : String Global) (t : LinesCodec) (ys : List ℕ)
    → IsReading codec now → AreAheadIn now rest true bytes → DecodesAtEnd gives_lines codec now (Ok (Some text)) t ys → IsNextLine bytes (Ok (Whole text)) rest true (IsLeftIn t ys rest true)
last_next bytes codec now None text t ys reading h found = absurd h
last_next bytes codec now (Some more) text t ys reading h (inl found) = line_next bytes codec now (Some more) true text t ys reading h found
last_next bytes codec now (Some more) text t ys reading h (inr found) =
    let c = last_cuts bytes (Ok (Some text)) t ys (carried_last bytes codec now more (Ok (Some text)) t ys reading (h.0 refl) h.1 found) in
    (c.1, ys, (c.2, inr (refl, c.4)), c.3, (c.0, (h.0, sym (ap (λ l. ys ++ l) (h.0 refl) ∙ append-nil ys))))

-- nothing is left
pub end_next : (bytes now : List ℕ) (rest : Option (List ℕ)) (Left : List ℕ → Type 0) → AreAheadIn now rest true bytes → now ≡ [] → IsNextLine bytes (Ok End) rest true Left
end_next bytes now None Left h none = absurd h
end_next bytes now (Some more) Left h none = (h.1 ∙ ap (λ l. l ++ more) none ∙ h.0 refl, ap (λ l. Some l) (h.0 refl))

-- a CR alone is a blank line
pub cr_next : (bytes : List ℕ) (codec : LinesCodec) (now : List ℕ) (rest : Option (List ℕ)) (t : LinesCodec) (ys cleared : List ℕ) (text : String Global)
    → IsReading codec now → AreAheadIn now rest true bytes → gives_lines codec now (at_end (Ok None) t ys) → 0 < length now → cleared ≡ [] → string_bytes text ≡ []
    → IsNextLine bytes (Ok (Whole text)) rest true (IsLeftIn t cleared rest true)
cr_next bytes codec now None t ys cleared text reading h found some none blank = absurd h
cr_next bytes codec now (Some more) t ys cleared text reading h found some none blank =
    let c = last_cuts bytes (Ok None) t ys (carried_last bytes codec now more (Ok None) t ys reading (h.0 refl) h.1 found) in
    let left : [] ≡ cleared ++ more = sym (ap (λ l. l ++ more) none ∙ h.0 refl) in
    elim c.2 [
      | inl empty ↦
          let short : length (now ++ more) ≡ 0 = ap (λ (l : List ℕ). length l) (sym h.1 ∙ empty) in
          let all = length-append now more in
          absurd (omega (arith, some, short, all))
      | inr cr ↦ (13 ∷ [], [], (ap cut cr, inr (refl, refl)), text_of_short (13 ∷ []) (lit≤ tt) IsUtf8-nil ∙ ap (λ l. Some l) (sym blank), (c.0, (h.0, left)))
    ]

-- what `unread` returns for an error
abbrev pub IsUnread : Result Line LinesFault → LinesCodecError → Type 0
IsUnread r e = (IsOutOfMemory {T = ℕ} (Err e) → r ≡ Err Memory) × (¬ IsOutOfMemory {T = ℕ} (Err e) → r ≡ Ok Bad)

unread_is : (bytes : List ℕ) (r : Result Line LinesFault) (e : LinesCodecError) (rest : Option (List ℕ)) (ended : Bool) (Left : List ℕ → Type 0)
    → (IsOutOfMemory {T = ℕ} (Err e) × HasFirstLine bytes (λ line. Unit {0})) ⊎ (¬ IsOutOfMemory {T = ℕ} (Err e) × HasFirstLine bytes (λ line. text_of_line line ≡ None)) → IsUnread r e → IsNextLine bytes r rest ended Left
unread_is bytes r e rest ended Left (inl memory) is = subst (λ s. IsNextLine bytes s rest ended Left) (sym (is.0 memory.0)) memory.1
unread_is bytes r e rest ended Left (inr bad) is = subst (λ s. IsNextLine bytes s rest ended Left) (sym (is.1 bad.0)) bad.1

pub unread_next : (bytes : List ℕ) (codec : LinesCodec) (now : List ℕ) (rest : Option (List ℕ)) (ended : Bool) (e : LinesCodecError) (t : LinesCodec) (ys : List ℕ) (r : Result Line LinesFault) (Left : List ℕ → Type 0)
    → IsReading codec now → AreAheadIn now rest ended bytes → gives_lines codec now (decoded (Err e) t ys) → IsUnread r e → IsNextLine bytes r rest ended Left
unread_next bytes codec now None ended e t ys r Left reading h found is = absurd h
unread_next bytes codec now (Some more) ended e t ys r Left reading h found is =
    unread_is bytes r e (Some more) ended Left (decoded_cuts bytes (Err e) t (ys ++ more) (carried bytes codec now more (Err e) t ys reading h.1 found)) is

pub unread_last : (bytes : List ℕ) (codec : LinesCodec) (now : List ℕ) (rest : Option (List ℕ)) (e : LinesCodecError) (t : LinesCodec) (ys : List ℕ) (r : Result Line LinesFault) (Left : List ℕ → Type 0)
    → IsReading codec now → AreAheadIn now rest true bytes → 0 < length now → DecodesAtEnd gives_lines codec now (Err e) t ys → IsUnread r e → IsNextLine bytes r rest true Left
unread_last bytes codec now None e t ys r Left reading h some found is = absurd h
unread_last bytes codec now (Some more) e t ys r Left reading h some (inl found) is = unread_next bytes codec now (Some more) true e t ys r Left reading h found is
unread_last bytes codec now (Some more) e t ys r Left reading h some (inr found) is =
    let all = length-append now more in
    let long : 0 < length bytes = subst (λ (l : List ℕ). 0 < length l) (sym h.1) (omega (arith, some, all)) in
    unread_is bytes r e (Some more) true Left (elim (last_cuts bytes (Err e) t ys (carried_last bytes codec now more (Err e) t ys reading (h.0 refl) h.1 found)) [
      | inl memory ↦ inl (memory.0, some_line bytes long)
      | inr bad ↦ inr bad
    ]) is

-- the codec has found no line, and nothing more was taken
pub none_whole : (bytes : List ℕ) (codec : LinesCodec) (now : List ℕ) (rest : Option (List ℕ)) (ended : Bool) (new : Option (List ℕ))
    → IsReading codec now → gives_lines codec now partial → AreAheadIn now rest ended bytes → Keeps rest new → HasNoWholeLine bytes new
none_whole bytes codec now None ended new reading none h kept = absurd h
none_whole bytes codec now (Some more) ended None reading none h kept = absurd kept
none_whole bytes codec now (Some more) ended (Some after) reading none h kept =
    let here : gives_lines (at_line_start MAX_LINE) now partial =
    subst (λ l. gives_lines (at_line_start MAX_LINE) l partial) (append-nil now) (reading.0 [] partial (subst (λ l. gives_lines codec l partial) (sym (append-nil now)) none)) in
    (now, h.1 ∙ ap (λ l. now ++ l) (sym kept), no_whole_line now here)

pub kept_same : (known : Option (List ℕ)) → Keeps known known
kept_same None = tt
kept_same (Some xs) = refl

-- and no read gave more
pub unfilled : (bytes : List ℕ) (codec : LinesCodec) (now : List ℕ) (rest : Option (List ℕ)) (ended ended_now : Bool) (new : Option (List ℕ)) (fault : LinesFault) (Left : List ℕ → Type 0)
    → IsReading codec now → gives_lines codec now partial → AreAheadIn now rest ended bytes → fault ≢ Write → (fault ≢ Memory → Keeps rest new) → (fault ≡ Memory → IfSome rest (λ more. 0 < length more))
    → IsNextLine bytes (Err fault) new ended_now Left
unfilled bytes codec now rest ended ended_now new Read Left reading none h other kept memory = none_whole bytes codec now rest ended new reading none h (kept (λ wrong. cc))
unfilled bytes codec now rest ended ended_now new Write Left reading none h other kept memory = absurd (other refl)
unfilled bytes codec now rest ended ended_now new Turns Left reading none h other kept memory = none_whole bytes codec now rest ended new reading none h (kept (λ wrong. cc))
unfilled bytes codec now None ended ended_now new Memory Left reading none h other kept memory = absurd h
unfilled bytes codec now (Some more) ended ended_now new Memory Left reading none h other kept memory =
    let some : 0 < length more = memory refl in
    let all = length-append now more in
    some_line bytes (subst (λ (l : List ℕ). 0 < length l) (sym h.1) (omega (arith, all, some)))

-- a line that was given uses up bytes, and another one begins
pub line_further : (codec : LinesCodec) (now : List ℕ) (text : String Global) (t : LinesCodec) (ys : List ℕ) → IsReading codec now → gives_lines codec now (decoded (Ok text) t ys)
    → (t ≡ at_line_start MAX_LINE) × (length ys < length now)
line_further codec now text t ys reading found =
    ((decoded_cuts now (Ok text) t (ys ++ []) (carried now codec now [] (Ok text) t ys reading (sym (append-nil now)) found)).0, line_takes codec now text t ys reading.1 found)

pub last_further : (codec : LinesCodec) (now : List ℕ) (text : String Global) (t : LinesCodec) (ys : List ℕ) → IsReading codec now → 0 < length now → DecodesAtEnd gives_lines codec now (Ok (Some text)) t ys
    → (t ≡ at_line_start MAX_LINE) × (length ys < length now)
last_further codec now text t ys reading some (inl found) = line_further codec now text t ys reading found
last_further codec now text t ys reading some (inr found) =
    let c = last_cuts now (Ok (Some text)) t ys (carried_last now codec now [] (Ok (Some text)) t ys reading refl (sym (append-nil now)) found) in
    (c.0, subst (λ (l : List ℕ). length l < length now) (sym c.4) some)

pub cr_further : (codec : LinesCodec) (now : List ℕ) (t : LinesCodec) (ys : List ℕ) → IsReading codec now → gives_lines codec now (at_end (Ok None) t ys) → t ≡ at_line_start MAX_LINE
cr_further codec now t ys reading found = (last_cuts now (Ok None) t ys (carried_last now codec now [] (Ok None) t ys reading refl (sym (append-nil now)) found)).0

pub fewer_left : (reads before after : ℕ) → after < before → (MAX_READS - reads) * (PAGE + 1) + after < (MAX_READS - reads) * (PAGE + 1) + before
fewer_left reads before after fewer = omega (arith, fewer)

-- if less is left than at `mid`, less is left than at `old`
pub further_from : (old mid : Lines) (r : Result Line LinesFault) (new : Lines) → left_at_most mid ≤ left_at_most old → IsFurther mid r new → IsFurther old r new
further_from old mid (Ok (Whole text)) new fewer h = let less = h.1 in (h.0, omega (arith, fewer, less))
further_from old mid (Ok Bad) new fewer h = tt
further_from old mid (Ok End) new fewer h = tt
further_from old mid (Err fault) new fewer h = tt
