-- One line that is answered.
use Rattle.std.proofs.Common.{◌≡◌, ℕ, ℤ, ◌+◌, ◌-◌, ◌^◌, min, List, [], ◌∷◌, Option, Result, Ok, Err, OnOk, IfErr, map, refl, ◌∙◌}
use Rattle.std.specs.Io.KnownBytes.{Appends}
use Rattle.tenant_jobs.specs.Jobs.{JobValue}
use Rattle.rig_operator.specs.Asked.{Asked, completed, given, number_after, sent}
use Rattle.rig_model.specs.OperatorLines.{OperatorForm}
use Rattle.rig_operator.specs.Operation.{IsAnswered}
use Rattle.rig_operator.specs.declared.faults.OperatorFault.{OperatorFault}
use Rattle.rig_operator.specs.declared.faults.OperatorFault.TheVariants.{Write}
use Rattle.rig_operator.specs.inner.Answering.{AreReplied, IsReply}

-- a reply that was written, or not
pub replied : (Asks : List Asked → Type 0) (old new : ℕ) (line : OperatorForm) (w v : Option (List ℕ)) (r : Result (Unit {0}) OperatorFault) (asked : List Asked) (said : List ℕ)
    → OnOk r (Appends w v said) → IfErr r (λ fault. fault ≡ Write) → Asks asked → IsAnswered old line asked said → new ≡ number_after old asked → IsReply r (AreReplied old new line Asks) (Appends w v)
replied Asks old new line w v (Ok u) asked said written failed asks answered next = (asked, said, asks, written, answered, next)
replied Asks old new line w v (Err fault) asked said written failed asks answered next = (failed, (asked, said, asks, tt, answered, next))

-- completions are not instants
none_given : (n : ℕ) (jobs : List JobValue) → n ≡ number_after n (map completed jobs)
none_given n [] = refl
none_given n (j ∷ js) = none_given n js

pub next_number : (number next : ℕ) (frame : List ℤ) (jobs unsent : List JobValue) → next ≡ min (number + 1) (2 ^ 64 - 1) → next ≡ number_after number (given frame jobs ∷ sent jobs unsent ∷ map completed unsent)
next_number number next frame jobs unsent is = is ∙ none_given (min (number + 1) (2 ^ 64 - 1)) unsent
