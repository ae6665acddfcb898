use Rattle.std.proofs.Common.{◌≡◌, ◌++◌, codes, string_bytes, take}
use Rattle.std.specs.List.{flat_map}
use Rattle.rig_operator.specs.Replies.{value_text}
use Rattle.rig_operator.proofs.replies.lines_reply.Given as goal

abbrev pub invariant-loop-value : goal.invariant-loop-value
invariant-loop-value l = string_bytes l.text ≡ codes "ok lines" ++ flat_map value_text (take l.value-index l.values)
