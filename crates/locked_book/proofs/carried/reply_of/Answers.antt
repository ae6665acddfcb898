use Rattle.std.proofs.Common.{◌≢◌}
use Rattle.rig_model.specs.declared.lines.replies.Refusal.TheVariants.{Memory}
use Rattle.rig_model.specs.declared.lines.replies.Reply.TheVariants.{Refused}
use Rattle.locked_book.proofs.Copied.{listed}
use Rattle.locked_book.proofs.carried.reply_of.Goals as goal

pub returns-clause-taken : goal.returns-clause-taken
returns-clause-taken c =
    let other : c.carry_out-reply.result ≢ Refused Memory = λ e. absurd (let f = c.if-is_memory.ensures.1 e in cc) in
    record {
      other = other;
      right = c.carry_out-reply.ensures.reply other;
      step = c.carry_out-reply.ensures.step other;
      listed = λ e. c.carry_out-reply.ensures.listed (listed c.carry_out-reply.result e);
    }
