use Rattle.std.proofs.Common.{sym, arith}
use Rattle.std.proofs.lemmas.Str.{IsCharBoundary-after_ascii}
use Rattle.script_reports.proofs.Reading.{blanks_in_front}
use Rattle.script_reports.proofs.runs.reply_in.Goals as goal

pub range_from-requires : goal.range_from-requires
range_from-requires c = λ some.
    let front = blanks_in_front c.args.part.now (sym c.if-not-is_reply.ensures) in
    IsCharBoundary-after_ascii c.args.part.now 3 c.utf8.part (omega (arith, front.0)) (omega (arith, front.1))
