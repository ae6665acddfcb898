-- Why a connection gets no session, and the line that it gets instead.
use Rattle.std.specs.Prelude.{◌≡◌, ◌⊎◌, ℕ, List, [], codes}
use Rattle.locked_book.specs.declared.faults.PassFault.{PassFault}
use Rattle.locked_book.specs.declared.faults.PassFault.TheVariants as faults
use Rattle.rig_server.specs.declared.refusals.Refusal.{Refusal}
use Rattle.rig_server.specs.declared.refusals.Refusal.TheVariants.{Closed, Memory, Seats, Thread}

-- why there is no seat, as a refusal
abbrev pub refusal_of : PassFault → Refusal
refusal_of faults.SeatsEnded = Seats
refusal_of faults.Memory = Memory

abbrev pub text_of_refusal : Refusal → List ℕ
text_of_refusal Closed = []
text_of_refusal Seats = codes "bye seats\n"
text_of_refusal Memory = codes "bye memory\n"
text_of_refusal Thread = codes "bye memory\n"

-- no seat is given, for a reason of this kind
abbrev pub IsUnseated : (PassFault → Type 0) → Refusal → Type 0
IsUnseated Reason refusal = (fault : PassFault) × Reason fault × (refusal ≡ refusal_of fault)

-- no further connection is taken, or there is no memory for one
abbrev pub IsUnregistered : Refusal → Type 0
IsUnregistered refusal = (refusal ≡ Closed) ⊎ (refusal ≡ Memory)
