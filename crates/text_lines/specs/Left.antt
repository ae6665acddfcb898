-- What is left of a stream of lines: the bytes that were read, and those that the reader still has.
use Rattle.std.specs.Prelude.{◌≡◌, ℕ, true, List, [], ◌++◌, Option, IsSomeAnd}
use Rattle.tokio_util.specs.Codec.Lines.{at_line_start}
use Rattle.text_lines.specs.declared.lines.Lines.{Lines}
use Rattle.rig_model.specs.declared.limits.TheConstants.{MAX_LINE}

-- these bytes are those in the buffer, and then those that the reader still has
abbrev pub AreAhead : Lines → Option (List ℕ) → List ℕ → Type 0
AreAhead lines remaining bytes = IsSomeAnd remaining (λ more. (lines.at_end ≡ true → more ≡ []) × (bytes ≡ lines.buffer.items ++ more))

-- these bytes are left of the stream, and a line begins with them; `remaining` is what the reader still has, if that is known
abbrev pub IsLeft : Lines → Option (List ℕ) → List ℕ → Type 0
IsLeft lines remaining bytes = (lines.codec ≡ at_line_start MAX_LINE) × AreAhead lines remaining bytes
