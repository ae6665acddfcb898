-- Which of some jobs were sent, and which came back.
use Rattle.std.specs.Prelude.{◌≡◌, ◌∷◌, [], Bool, true, false, List, Option, length}
use Rattle.tenant_jobs.specs.Jobs.{JobValue}
use Rattle.host_core.specs.Adding.{Adds}

-- the jobs that were sent, if a list says of each in turn whether it was
abbrev pub sent_of : List Bool → List JobValue → List JobValue
sent_of [] jobs = []
sent_of (sent ∷ told) [] = []
sent_of (true ∷ told) (job ∷ jobs) = job ∷ sent_of told jobs
sent_of (false ∷ told) (job ∷ jobs) = sent_of told jobs

-- the jobs that weren't sent, if a list says of each in turn whether it was
abbrev pub unsent_of : List Bool → List JobValue → List JobValue
unsent_of [] jobs = []
unsent_of (sent ∷ told) [] = []
unsent_of (true ∷ told) (job ∷ jobs) = unsent_of told jobs
unsent_of (false ∷ told) (job ∷ jobs) = job ∷ unsent_of told jobs

-- those of these jobs that weren't sent, in their order
abbrev pub AreUnsent : List JobValue → List JobValue → Type 0
AreUnsent unsent jobs = (told : List Bool) × (length told ≡ length jobs) × (unsent ≡ unsent_of told jobs)

-- each of these jobs was either added to those that were taken so far, if these are known, or came back; both in their order
abbrev pub AreSent : Option (List JobValue) → Option (List JobValue) → List JobValue → List JobValue → Type 0
AreSent before after unsent jobs = (told : List Bool) × (length told ≡ length jobs) × Adds before after (sent_of told jobs) × (unsent ≡ unsent_of told jobs)
