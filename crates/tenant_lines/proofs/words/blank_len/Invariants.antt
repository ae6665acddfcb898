use Rattle.std.proofs.Common.{◌≡◌, ◌+◌, drop}
use Rattle.std.specs.List.{prefix_len}
use Rattle.tenant_lines.specs.Words.{is_blank_of_line}
use Rattle.tenant_lines.proofs.words.blank_len.Given as goal

abbrev pub invariant-loop-i : goal.invariant-loop-i
invariant-loop-i l = prefix_len is_blank_of_line l.line ≡ l.i + prefix_len is_blank_of_line (drop l.i l.line)
