-- What a server writes to its operator.
use Rattle.std.specs.Prelude.{ℕ, List, ◌++◌, Option, Some, None, codes}
use Rattle.std.specs.Fmt.{decimal}
use Rattle.locked_book.specs.declared.books.TheConstants.{MOST_SEATS}
use Rattle.locked_book.specs.declared.faults.CloseFault.{CloseFault}
use Rattle.locked_book.specs.declared.faults.CloseFault.TheVariants.{Mismatch, Missing}

abbrev pub ready_line : ℕ → List ℕ
ready_line port = codes "ready " ++ (decimal port ++ codes "\n")

-- a warning that this many seats were given
abbrev pub seats_warning : ℕ → List ℕ
seats_warning given = codes "note: " ++ (decimal given ++ (codes " of " ++ (decimal MOST_SEATS ++ codes " seats were given: restart the server before the last one is\n")))

-- the desk's answer to its close
abbrev pub close_reply : Option CloseFault → List ℕ
close_reply None = codes "bye close ok\n"
close_reply (Some (Mismatch seat)) = codes "bye close mismatch " ++ (decimal seat ++ codes "\n")
close_reply (Some (Missing seat)) = codes "bye close missing " ++ (decimal seat ++ codes "\n")
