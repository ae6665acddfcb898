use Rattle.giotto_reports.proofs.report_on.Goals as goal

pub returns : goal.returns
returns c =
    let why = rw (c.as_str.ensures.value, c.in_ok-text.ensures.line, c.in-Faulty.is) at c.in_ok-checked.ensures in
    (why.0, (c.in-Faulty.findings.items, why.1, rw c.deref.ensures.value at c.in_ok-shown-in-Faulty.ensures))
