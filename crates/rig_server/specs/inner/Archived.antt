-- The calls that were archived, by seat, as long as the pass of the seat wasn't compared with them.
use Rattle.std.specs.Prelude.{◌≡◌, ◌≢◌, ◌⊎◌, ◌<◌, ℕ, List, [], Bool, true, false, Option, Some, None, length, slice_index_or, take}
use Rattle.std.specs.List.{Contains}
use Rattle.locked_book.specs.Books.{PassValue, has_seat, pass_at}
use Rattle.locked_book.specs.declared.faults.CloseFault.{CloseFault}
use Rattle.locked_book.specs.declared.faults.CloseFault.TheVariants.{Mismatch, Missing}
use Rattle.rig_model.specs.declared.logged.Call.{Call}

-- the archived calls of a seat
abbrev pub archived_of : List (List Call) → ℕ → List Call
archived_of rows seat = slice_index_or rows seat []

-- From passes and archived calls, passes were released: each had no calls, or exactly the archived ones of its seat. The archived calls of a
-- seat are forgotten only with its pass.
pub record IsReleased (rows_before rows : List (List Call)) (before passes : List PassValue) : Type 0 where
  pub compared : (p : PassValue) → Contains before p → Contains passes p ⊎ ((p.calls ≡ []) ⊎ (p.calls ≡ archived_of rows_before p.seat))
  pub none_added : (p : PassValue) → Contains passes p → Contains before p
  pub forgotten : (seat : ℕ) → archived_of rows seat ≡ archived_of rows_before seat
      ⊎ ((archived_of rows seat ≡ []) × (p : PassValue) × Contains before p × (p.seat ≡ seat) × (p.calls ≡ archived_of rows_before seat))

-- these calls begin with those
abbrev pub BeginsWith : List Call → List Call → Type 0
BeginsWith calls those = take (length those) calls ≡ those

-- the pass at this place begins with the archived calls of its seat
abbrev pub Continues : List (List Call) → List PassValue → ℕ → Type 0
Continues rows passes i = BeginsWith (pass_at passes i).calls (archived_of rows (pass_at passes i).seat)

-- the first of these passes that doesn't begin with the archived calls of its seat has this seat
pub record IsUnlike (rows : List (List Call)) (passes : List PassValue) (seat : ℕ) : Type 0 where
  pub place : ℕ
  pub within : place < length passes
  pub its_seat : seat ≡ (pass_at passes place).seat
  pub before : (k : ℕ) → k < place → Continues rows passes k
  pub first : ¬ (Continues rows passes place)

-- all these passes begin with the archived calls of their seats
abbrev pub AllContinue : List (List Call) → List PassValue → Type 0
AllContinue rows passes = (k : ℕ) → k < length passes → Continues rows passes k

-- this is the least seat that has an archived call and no pass
pub record IsWithout (rows : List (List Call)) (passes : List PassValue) (seat : ℕ) : Type 0 where
  pub called : archived_of rows seat ≢ []
  pub none : has_seat passes seat ≡ false
  pub least : (s : ℕ) → s < seat → archived_of rows s ≢ [] → has_seat passes s ≡ true

-- why these passes don't fit the archived calls, if they don't
abbrev pub FitsArchived : List (List Call) → List PassValue → Option CloseFault → Type 0
FitsArchived rows passes None = AllContinue rows passes × ((s : ℕ) → archived_of rows s ≢ [] → has_seat passes s ≡ true)
FitsArchived rows passes (Some (Mismatch seat)) = IsUnlike rows passes seat
FitsArchived rows passes (Some (Missing seat)) = AllContinue rows passes × IsWithout rows passes seat
