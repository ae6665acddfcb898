-- The next line of a stream.
use Rattle.std.specs.Prelude.{◌≡◌, ◌<◌, ◌≤◌, ◌+◌, ◌-◌, ◌*◌, ◌⊎◌, ℕ, Bool, true, false, List, [], ◌∷◌, ◌++◌, length, Option, Some, None, IsSomeAnd, Result, Ok, Err, string_bytes}
use Rattle.tokio_util.specs.declared.codec.lines_codec.LinesCodec.{LinesCodec}
use Rattle.tokio_util.specs.Codec.Next.{Resumes}
use Rattle.tokio_util.specs.Codec.Lines.{gives_lines, at_line_start}
pub use Rattle.text_lines.specs.Left.{AreAhead, IsLeft}
use Rattle.text_lines.specs.declared.faults.LinesFault.{LinesFault}
use Rattle.text_lines.specs.declared.faults.LinesFault.TheVariants.{Read, Write, Turns, Memory}
use Rattle.text_lines.specs.declared.lines.Line.{Line}
use Rattle.text_lines.specs.declared.lines.Line.TheVariants.{Whole, Bad, End}
use Rattle.text_lines.specs.declared.lines.Lines.{Lines}
use Rattle.rig_model.specs.TextLines.{cut, lf_count, text_of_line}
use Rattle.rig_model.specs.declared.limits.TheConstants.{MAX_LINE, MAX_READS}
use Rattle.text_lines.specs.declared.lines.TheConstants.{PAGE}

-- The codec has these bytes of a line: whatever it finds in them and in any bytes after them, a codec at the start of the line finds
-- there too.
abbrev pub IsReading : LinesCodec → List ℕ → Type 0
IsReading codec now = Resumes gives_lines (at_line_start MAX_LINE) now codec now × (codec.is_discarding ≡ false)

-- the number of reads that gave bytes
abbrev pub reads_of : Lines → ℕ
reads_of lines = lines.reads

-- this many reads, each of which took 1 to `PAGE` bytes from the front of `before`, left `after`
pub record AreReads (count : ℕ) (before after : List ℕ) : Type 0 where
  pub taken : List ℕ
  pub split : before ≡ taken ++ after
  pub least : count ≤ length taken
  pub most : length taken ≤ PAGE * count

-- The number of reads went from `old` to `new`: each read that gave bytes was counted, and nothing else, as far as it is known what
-- the reader had and what it has.
abbrev pub AreCounted : ℕ → ℕ → Option (List ℕ) → Option (List ℕ) → Type 0
AreCounted old new None after = old ≤ new
AreCounted old new (Some before) None = ⊥
AreCounted old new (Some before) (Some after) = (count : ℕ) × (new ≡ old + count) × AreReads count before after

-- whether the reader has reported its end
abbrev pub has_ended : Lines → Bool
has_ended lines = lines.at_end

-- a line begins with what is read next
abbrev pub AreAtLineStart : Lines → Type 0
AreAtLineStart lines = (lines.codec ≡ at_line_start MAX_LINE) × (reads_of lines ≤ MAX_READS)

-- the most bytes that can still be given, and one for each read that may come
abbrev pub left_at_most : Lines → ℕ
left_at_most lines = (MAX_READS - lines.reads) * (PAGE + 1) + length lines.buffer.items

-- after a line another one begins, and less is left than before
abbrev pub IsFurther : Lines → Result Line LinesFault → Lines → Type 0
IsFurther old (Ok (Whole text)) new = AreAtLineStart new × (left_at_most new < left_at_most old)
IsFurther old (Ok Bad) new = Unit {0}
IsFurther old (Ok End) new = Unit {0}
IsFurther old (Err fault) new = Unit {0}

-- a line at the front of these bytes and what follows it: it ends with an LF, or with the bytes if the reader has ended
abbrev pub IsFirstLine : List ℕ → List ℕ → List ℕ → Bool → Type 0
IsFirstLine line rest bytes ended =
    (cut bytes ≡ line ∷ cut rest) × (((lf_count line ≡ 0) × (bytes ≡ line ++ 10 ∷ rest)) ⊎ ((ended ≡ true) × (rest ≡ [])))

-- there is a line at the front of these bytes, and `IsOf` holds of it
abbrev pub HasFirstLine : List ℕ → (List ℕ → Type 0) → Type 0
HasFirstLine bytes IsOf = (line : List ℕ) × (later : List (List ℕ)) × (cut bytes ≡ line ∷ later) × IsOf line

-- no line came whole: no LF is among the bytes that were taken, up to those that the reader still has
abbrev pub HasNoWholeLine : List ℕ → Option (List ℕ) → Type 0
HasNoWholeLine bytes remaining = IsSomeAnd remaining (λ more. (taken : List ℕ) × (bytes ≡ taken ++ more) × (lf_count taken ≡ 0))

-- What the next line of these bytes is, by what the reader still has and whether it has ended. `Left` holds of the bytes that are left
-- after the line. If memory ran out for a line, there is one.
abbrev pub IsNextLine : List ℕ → Result Line LinesFault → Option (List ℕ) → Bool → (List ℕ → Type 0) → Type 0
IsNextLine bytes (Ok (Whole text)) remaining ended Left =
    (line : List ℕ) × (rest : List ℕ) × IsFirstLine line rest bytes ended × (text_of_line line ≡ Some (string_bytes text)) × Left rest
IsNextLine bytes (Ok Bad) remaining ended Left = HasFirstLine bytes (λ line. text_of_line line ≡ None)
IsNextLine bytes (Ok End) remaining ended Left = (bytes ≡ []) × (remaining ≡ Some [])
IsNextLine bytes (Err Read) remaining ended Left = HasNoWholeLine bytes remaining
IsNextLine bytes (Err Write) remaining ended Left = HasNoWholeLine bytes remaining
IsNextLine bytes (Err Turns) remaining ended Left = HasNoWholeLine bytes remaining
IsNextLine bytes (Err Memory) remaining ended Left = HasFirstLine bytes (λ line. Unit {0})
