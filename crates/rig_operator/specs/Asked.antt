-- The questions of an operator to a rig, with the answers.
use Rattle.std.specs.Prelude.{◌+◌, ◌-◌, ◌^◌, min, ℕ, ℤ, List, [], ◌∷◌}
pub use Rattle.host_core.specs.Adding.{Adds}
use Rattle.host_core.specs.declared.hosts.TickFault.{TickFault}
use Rattle.tenant_jobs.specs.Jobs.{JobValue}
use Rattle.rig_operator.specs.declared.rigs.ArchiveFault.{ArchiveFault}

-- a question with its answer
pub data Asked : Type 0 where
  -- an instant with this frame, which released these jobs
  given : List ℤ → List JobValue → Asked
  -- an instant with this frame, which was refused
  refused : List ℤ → TickFault → Asked
  -- jobs that were to be sent, and those of them that came back
  sent : List JobValue → List JobValue → Asked
  -- the completion of this job
  completed : JobValue → Asked
  -- the lines of the rig are driven with these values
  driven : List ℤ → Asked
  -- there was no memory for the values of the lines
  undriven : Asked
  -- the rig waited until no job was outstanding
  settled : Asked
  -- an archive with this many entries was handed out
  archived : ℕ → Asked
  -- an archive failed
  unarchived : ArchiveFault → Asked

-- the number of the next instant after these questions: each given instant adds one, up to 2 ^ 64 - 1
abbrev pub number_after : ℕ → List Asked → ℕ
number_after number [] = number
number_after number (given frame jobs ∷ later) = number_after (min (number + 1) (2 ^ 64 - 1)) later
number_after number (other ∷ later) = number_after number later
