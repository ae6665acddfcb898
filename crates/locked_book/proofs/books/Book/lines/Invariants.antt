use Rattle.std.proofs.Common.{◌≡◌, map}
use Rattle.std.specs.List.{range_with_len}
use Rattle.rig_model.specs.HostState.{row_at}
use Rattle.rig_model.specs.LineValues.{value_of_line}
use Rattle.host_core.specs.HostStanding.{ForEachState}
use Rattle.locked_book.proofs.books.Book.lines.Given as goal

abbrev pub invariant-loop-line : goal.invariant-loop-line
invariant-loop-line g l = ForEachState l.self.host (λ setting state. l.values.items ≡ map (value_of_line setting.config (row_at state)) (range_with_len 0 l.line))
