use Rattle.std.proofs.Common.{◌++◌, codes, take}
use Rattle.std.specs.Fmt.{HasWritten, IsPlainFormatter}
use Rattle.std.specs.List.{flat_map}
use Rattle.tenant_lines.specs.Replies.{text_of_value}
use Rattle.tenant_lines.proofs.replies.write_ports.Given as goal

abbrev pub invariant-loop-port : goal.invariant-loop-port
invariant-loop-port g l =
    IsPlainFormatter l.fn.f → HasWritten g.W.Write.write_str_gives l.fn.f (codes "ok all" ++ flat_map text_of_value (take l.port-index l.ports)) l.f
