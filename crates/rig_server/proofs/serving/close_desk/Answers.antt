use Rattle.std.proofs.Common.{◌≡◌, ℕ, List, Some, refl}
use Rattle.locked_book.specs.Books.{IsClosedBook, IsMismatch, IsMissing, PassValue}
use Rattle.locked_book.specs.declared.faults.CloseFault.{CloseFault}
use Rattle.locked_book.specs.declared.faults.CloseFault.TheVariants.{Mismatch, Missing}
use Rattle.rig_model.specs.config.Roster.{Rig}
use Rattle.rig_server.specs.inner.Closing.{IsClosed}
use Rattle.rig_server.proofs.serving.close_desk.Goals as goal

refused : (rig : Rig) (first_tick : ℕ) (passes : List PassValue) (fault : CloseFault)
    → ((seat : ℕ) → fault ≡ Mismatch seat → IsClosedBook rig first_tick (λ book. IsMismatch book passes seat))
    → ((seat : ℕ) → fault ≡ Missing seat → IsClosedBook rig first_tick (λ book. IsMissing book passes seat))
    → IsClosed rig first_tick passes (Some fault)
refused rig first_tick passes (Mismatch seat) mismatch missing = mismatch seat refl
refused rig first_tick passes (Missing seat) mismatch missing = missing seat refl

pub returns-in-Err : goal.returns-in-Err
returns-in-Err g c = refused g.N.Naming.config g.N.Naming.first_tick c.args.passes.items c.in-Err.fault (λ seat is. c.in-Err.ensures.mismatch seat is) (λ seat is. c.in-Err.ensures.missing seat is)
