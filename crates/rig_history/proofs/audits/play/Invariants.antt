use Rattle.std.proofs.Common.{length, string_bytes}
use denote.Text.{Utf8}
use denote.Shadow.{shadow}
use Rattle.rig_history.specs.inner.Auditing.{HasPlayed}
use Rattle.rig_history.proofs.audits.play.Given as goal

abbrev pub invariant-loop-rest : goal.invariant-loop-rest
invariant-loop-rest l = shadow (Utf8 l.rest) × HasPlayed l.config l.first_tick l.tenant l.host l.entries l.replies (string_bytes l.calls) l.text l.rest

abbrev pub decreases-loop-rest : goal.decreases-loop-rest
decreases-loop-rest l = length l.rest
