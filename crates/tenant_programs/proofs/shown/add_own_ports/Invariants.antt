use Rattle.std.proofs.Common.{◌≡◌, ◌++◌, map, take}
use Rattle.tenant_programs.specs.inner.ShownPorts.{name_of_own_port}
use Rattle.tenant_programs.proofs.shown.add_own_ports.Given as goal

abbrev pub invariant-loop-name : goal.invariant-loop-name
invariant-loop-name l = l.names.items ≡ l.initial.names.items ++ map (name_of_own_port l.task) (take l.name-index l.own)
