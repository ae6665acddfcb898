-- Commands that were carried out, and what their calls leave in a book.
use Rattle.std.specs.Prelude.{◌≡◌, ◌≢◌, ℕ, true, [], ◌∷◌, ◌++◌}
use Rattle.rig_model.specs.HostState.{row_at}
use Rattle.rig_model.specs.Views.{after_command}
use Rattle.rig_model.specs.declared.events.Event.TheVariants.{Own}
use Rattle.rig_model.specs.declared.logged.Call.{Call}
use Rattle.rig_model.specs.declared.logged.Logged.TheVariants as logged
use Rattle.host_core.specs.HostStanding.{ForEachState, HostStanding, TakesEvent}
use Rattle.rig_model.specs.lines.cited.Copies.{has_list}
use Rattle.rig_model.specs.declared.lines.commands.Command.{Command}
use Rattle.rig_model.specs.declared.lines.replies.Refusal.TheVariants.{Memory}
use Rattle.rig_model.specs.declared.lines.replies.Reply.{Reply}
use Rattle.rig_model.specs.declared.lines.replies.Reply.TheVariants.{Refused}
use Rattle.locked_book.specs.Books.{BookValue, PassValue}

-- a call of this command, with this reply
abbrev pub call_with : ℕ → Command → Reply → Call
call_with tenant command reply = record { tenant = tenant; command = command; reply = reply }

-- the host took the command, and this is the reply of the model; if it is a list, the host stays as it was
pub record IsTaken (old new : HostStanding) (tenant : ℕ) (command : Command) (reply : Reply) : Type 0 where
  pub other : reply ≢ Refused Memory
  pub right : ForEachState old (λ setting state. reply ≡ (after_command setting tenant command (row_at state tenant)).reply)
  pub step : TakesEvent (Own tenant command) old new
  pub listed : has_list reply ≡ true → new ≡ old

-- the host took the command, whose call is kept twice
pub record IsCarriedOut (old new : HostStanding) (tenant : ℕ) (command : Command) (for_log for_pass : Call) : Type 0 where
  pub call : for_log ≡ call_with tenant command for_log.reply
  pub same : for_pass ≡ for_log
  pub taken : IsTaken old new tenant command for_log.reply

-- A call with the reply is the last entry of the log and the last call of the pass, the host has taken its command, and `Got` holds of the
-- reply. What the pass has seen doesn't change.
pub record IsNoted (old new : BookValue) (before after : PassValue) (tenant : ℕ) (command : Command) (Got : Reply → Type 0) : Type 0 where
  pub reply : Reply
  pub log : new.log ≡ old.log ++ logged.Call before.seat (call_with tenant command reply) ∷ []
  pub pass : after ≡ record { seat = before.seat; calls = before.calls ++ call_with tenant command reply ∷ []; seen = before.seen }
  pub base : new.base ≡ old.base
  pub seats : new.seats ≡ old.seats
  pub right : ForEachState old.host (λ setting state. reply ≡ (after_command setting tenant command (row_at state tenant)).reply)
  pub step : TakesEvent (Own tenant command) old.host new.host
  pub other : reply ≢ Refused Memory
  pub got : Got reply
