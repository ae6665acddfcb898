use Rattle.std.proofs.Common.{rules, ap, ◌∙◌, ◌++◌, drop, replicate}
use Rattle.std.specs.Int.{w64, from_le_bytes}
use Rattle.std.proofs.lemmas.Nat.{le_bytes_8}
use Rattle.giotto_tasks.proofs.WordLemmas.{first_padded, length_padded, byte_padded}
use Rattle.giotto_tasks.proofs.names.first_word.Goals as goal

pub returns : goal.returns
returns c =
    let bytes = c.args.bytes.now in
    let is = ap (λ front. front ++ drop c.min-count.result (replicate 8 0)) c.copy_from_slice.ensures.after ∙ first_padded 8 _ bytes c.min-count.ensures in
    le_bytes_8 _ _ (length_padded 8 bytes) (byte_padded 8 bytes (search rules)) (c.from_le_bytes.ensures ∙ ap (from_le_bytes w64) is)
