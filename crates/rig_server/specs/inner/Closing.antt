-- The answer of a desk to its close.
use Rattle.std.specs.Prelude.{◌≢◌, ◌⊎◌, ℕ, List, Option, Some, None}
use Rattle.locked_book.specs.Books.{AreAll, BookValue, IsClosedBook, IsMismatch, IsMissing, PassValue}
use Rattle.locked_book.specs.declared.faults.CloseFault.{CloseFault}
use Rattle.locked_book.specs.declared.faults.CloseFault.TheVariants.{Mismatch, Missing}
use Rattle.rig_model.specs.config.Roster.{Rig}
use Rattle.rig_model.specs.declared.logged.Call.{Call}
use Rattle.rig_server.specs.inner.Archived.{FitsArchived}

-- whether this answer fits a book and these passes
abbrev pub FitsPasses : BookValue → List PassValue → Option CloseFault → Type 0
FitsPasses book passes None = AreAll book passes
FitsPasses book passes (Some (Mismatch seat)) = IsMismatch book passes seat
FitsPasses book passes (Some (Missing seat)) = IsMissing book passes seat

-- a desk of this rig, closed with these passes, can give this answer: it fits some book whose log is legal from its base
abbrev pub IsClosed : Rig → ℕ → List PassValue → Option CloseFault → Type 0
IsClosed rig first_tick passes answer = IsClosedBook rig first_tick (λ book. FitsPasses book passes answer)

-- the answer to a close with these passes, when these calls of theirs were archived: why they don't fit the archived ones, else the desk's
abbrev pub IsClosedAfter : Rig → ℕ → List (List Call) → List PassValue → Option CloseFault → Type 0
IsClosedAfter rig first_tick rows passes answer = ((answer ≢ None) × FitsArchived rows passes answer)
    ⊎ (FitsArchived rows passes None × IsClosed rig first_tick passes answer)
