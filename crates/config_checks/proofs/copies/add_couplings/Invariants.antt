use Rattle.std.proofs.Common.{◌≡◌, ◌++◌, take, string_bytes}
use Rattle.std.specs.List.{flat_map}
use Rattle.config_checks.specs.Copies.{table_of}
use Rattle.config_checks.proofs.copies.add_couplings.Given as goal

abbrev pub invariant-loop-coupling : goal.invariant-loop-coupling
invariant-loop-coupling l = string_bytes l.text ≡ string_bytes l.initial.text ++ flat_map table_of (take l.coupling-index l.couplings)
