-- A reply whose copy takes memory is a list.
use Rattle.std.proofs.Common.{◌≡◌, true, refl}
use Rattle.rig_model.specs.lines.cited.Copies.{has_list}
use Rattle.rig_model.specs.declared.lines.replies.Reply.{Reply}
use Rattle.rig_model.specs.declared.lines.replies.Reply.TheVariants.{Loaded, Replaced, Started, Stopped, Mode, Port, All, Offered, Unoffered, Bound, Unbound, Rows, Refused}
use Rattle.rig_model.specs.declared.lines.replies.Reply.TheVariants as reply
use Rattle.host_core.specs.ListReplies.{is_list}

pub listed : (r : Reply) → has_list r ≡ true → is_list r ≡ true
listed Loaded e = absurd (cc)
listed Replaced e = absurd (cc)
listed Started e = absurd (cc)
listed Stopped e = absurd (cc)
listed (Mode status) e = absurd (cc)
listed (Port port) e = absurd (cc)
listed (All ports) e = refl
listed (reply.Trace records) e = refl
listed Offered e = absurd (cc)
listed Unoffered e = absurd (cc)
listed Bound e = absurd (cc)
listed Unbound e = absurd (cc)
listed (Rows rows) e = refl
listed (Refused refusal) e = absurd (cc)
