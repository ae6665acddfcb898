use Rattle.std.proofs.Common.{◌≡◌, length, drop}
use Rattle.rig_model.specs.trace.cited.Noted.{noted}
use Rattle.rig_model.specs.FirstHalf.{outputs_happened}
use Rattle.tenant_slots.proofs.tasks.note_outputs.Given as goal

abbrev pub invariant-loop-name : goal.invariant-loop-name
invariant-loop-name l =
    let i = length l.yielded in
    noted l.tick (outputs_happened (drop i l.names) (drop i l.numbers)) l.trace ≡ noted l.tick (outputs_happened l.names l.numbers) l.initial.trace
