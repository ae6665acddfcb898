use Rattle.std.proofs.Common.{◌||◌, false, refl, ap}
use Rattle.std.proofs.lemmas.List.{get_or-replicate}
use Rattle.tenant_slots.specs.cited.Due.{is_among_due}
use Rattle.tenant_slots.proofs.due.mark_due.Goals as goal
use Rattle.tenant_slots.specs.declared.due.TheConstants.{TABLED_TASKS}

pub loop-i-init : goal.loop-i-init
loop-i-init c = record {
  time = c.at-due.ensures;
  long = refl;
  positive = c.requires;
  left = λ t small. ap (λ b. b || is_among_due c.args.time t c.args.invocations.now) (get_or-replicate TABLED_TASKS t false false small);
}
