use Rattle.std.proofs.Common.{◌≡◌, drop, nat_eq}
use Rattle.std.specs.Cmp.Lexicographic.{pointwise}
use Rattle.tenant_lines.proofs.words.are_same.Given as goal

abbrev pub invariant-loop-i : goal.invariant-loop-i
invariant-loop-i l = pointwise nat_eq (drop l.i l.bytes) (drop l.i l.others) ≡ pointwise nat_eq l.bytes l.others
