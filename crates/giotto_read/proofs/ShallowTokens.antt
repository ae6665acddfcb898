-- The tokens that are left nest no deeper than all tokens.
use Rattle.std.proofs.Common.{◌≡◌, false, ◌++◌, take, ap, sym, ◌∙◌, arith}
use Rattle.std.proofs.lemmas.List.{map-append, take-append-drop}
use Rattle.giotto_text.specs.Nesting.{nests_too_deep}
use Rattle.giotto_text.specs.Tokens.{bare}
use Rattle.giotto_text.proofs.cited.CanonicalNesting.{open_after, deep_parts, deep_less}
use Rattle.giotto_read.specs.inner.Doing.{left}
use Rattle.giotto_read.specs.declared.reader.Reader.{Reader}

pub left_shallow : (r : Reader) → nests_too_deep (bare (left r)) ≡ false
left_shallow r =
    let front = take r.at r.tokens.now in
    let whole : bare front ++ bare (left r) ≡ bare r.tokens.now = sym (map-append (λ p. p.token) front (left r)) ∙ ap bare (take-append-drop r.at r.tokens.now) in
    let parts = deep_parts 0 (bare front) (bare (left r)) (ap nests_too_deep whole ∙ r.shallow) in
    deep_less 0 (open_after 0 (bare front)) (bare (left r)) (omega arith) parts.1
