use Rattle.std.proofs.Common.{◌≡◌, take}
use Rattle.tenant_lines.proofs.replies.copy_of_ports.Given as goal

abbrev pub invariant-loop-port : goal.invariant-loop-port
invariant-loop-port l = l.copy.items ≡ take l.port-index l.ports
