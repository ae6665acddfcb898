use Rattle.std.proofs.Common.{inl, refl}
use Rattle.script_checks.proofs.lines.examine_program.Goals as goal

pub returns-in-Faulty-clause-told : goal.returns-in-Faulty-clause-told
returns-in-Faulty-clause-told c =
    let why = rw c.in-Faulty.is at c.in_ok-findings.ensures in
    rw c.found_at_end.ensures (refl, refl, inl why.1)
