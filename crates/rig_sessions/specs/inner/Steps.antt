-- The steps and replies of the code, as those of the definitions.
use Rattle.std.specs.Prelude.{◌≡◌, ℕ, true, List}
use Rattle.rig_model.specs.config.Roster.{Rig}
use Rattle.rig_model.specs.declared.lines.commands.Command.{Command}
use Rattle.rig_model.specs.lines.cited.Copies.{has_text}
use Rattle.rig_model.specs.Sessions.{Act, State, Step as SessionStep, bye, call, ended, err_bad_command, err_greeted, err_not_greeted, err_who, ok_hello, quiet, say, stranger, tenant}
use Rattle.rig_sessions.specs.declared.replies.OwnReply.{OwnReply}
use Rattle.rig_sessions.specs.declared.replies.OwnReply.TheVariants.{Hello, BadCommand, NotGreeted, Greeted, Who}
use Rattle.rig_sessions.specs.declared.sessions.Party.{Party}
use Rattle.rig_sessions.specs.declared.sessions.Party.TheVariants.{Stranger, Tenant, Ended}
use Rattle.rig_sessions.specs.declared.sessions.Step.{Step}
use Rattle.rig_sessions.specs.declared.sessions.Step.TheVariants.{Quiet, Say, Call, End}

abbrev pub text_of_own : OwnReply → List ℕ
text_of_own Hello = ok_hello
text_of_own BadCommand = err_bad_command
text_of_own NotGreeted = err_not_greeted
text_of_own Greeted = err_greeted
text_of_own Who = err_who

abbrev pub state_of : Party → State
state_of Stranger = stranger
state_of (Tenant t) = tenant t
state_of Ended = ended

-- a session: its configuration, and its state
pub record SessionValue : Type 0 where
  pub config : Rig
  pub state : State

abbrev pub act_of : Step → Act
act_of Quiet = quiet
act_of (Say reply) = say (text_of_own reply)
act_of (Call t c) = call t c
act_of End = say bye

-- the session takes this step
abbrev pub IsStep : Step → SessionValue → SessionValue → SessionStep → Type 0
IsStep step old new taken = (taken ≡ record { act = act_of step; state = new.state }) × (new.config ≡ old.config)

-- a step is a call with a text, and the state after it is the same
abbrev pub IsCallWithText : SessionStep → State → Type 0
IsCallWithText step s = (t : ℕ) × (c : Command) × (step ≡ record { act = call t c; state = s }) × (has_text c ≡ true)
