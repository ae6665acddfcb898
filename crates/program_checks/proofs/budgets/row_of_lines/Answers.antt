use Rattle.program_checks.proofs.budgets.row_of_lines.Goals as goal

pub returns : goal.returns
returns c = rw (c.as_str.ensures.value, c.in_ok-reads.ensures, c.as_slice.ensures, c.as_str-2.ensures.value, c.in_ok-writes.ensures, c.as_slice-2.ensures) at c.format.ensures.ok
