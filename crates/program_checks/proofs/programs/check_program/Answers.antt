use Rattle.std.proofs.Common.{inl}
use Rattle.program_checks.proofs.cited.WellFormed.{text_of_program}
use Rattle.giotto_reports.specs.Comments.{one_line}
use Rattle.program_checks.proofs.programs.check_program.Goals as goal

pub returns : goal.returns
returns c =
    let why = rw (c.as_str.ensures.value, c.in_ok-text.ensures.line, c.in-Faulty.is) at c.in_ok-checked.ensures in (
      λ found. why.0 (text_of_program (one_line c.args.source.now) found.0 found.1.0),
      (c.in-Faulty.findings.items, inl why.1, rw c.deref.ensures.value at c.in_ok-shown-in-Faulty.ensures),
    )
