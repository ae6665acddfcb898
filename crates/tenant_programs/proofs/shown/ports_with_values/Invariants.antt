use Rattle.std.proofs.Common.{◌≡◌, ◌++◌, length, map, drop}
use Rattle.std.specs.List.{zip}
use Rattle.tenant_programs.specs.inner.ShownPorts.{with_its_value}
use Rattle.tenant_programs.proofs.shown.ports_with_values.Given as goal

abbrev pub invariant-loop-name : goal.invariant-loop-name
invariant-loop-name l =
    let i = length l.yielded in
    l.all.items ++ map with_its_value (zip (drop i l.names) (drop i l.values)) ≡ map with_its_value (zip l.names l.values)
