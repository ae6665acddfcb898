-- What a line does, by its step.
use Rattle.std.proofs.Common.{◌≡◌, ◌≢◌, ℕ, List, [], ◌∷◌, ◌++◌, Option, Some, None, Result, Ok, Err, IfErr, OnOk, refl, sym, ap, ◌∙◌, subst, append-nil}
use Rattle.std.specs.Io.KnownBytes.{Appends}
use Rattle.locked_book.specs.Books.{PassValue}
use Rattle.locked_book.specs.declared.faults.DeskFault.{DeskFault}
use Rattle.locked_book.specs.declared.faults.DeskFault.TheVariants as desk
use Rattle.rig_model.specs.declared.lines.commands.Command.{Command}
use Rattle.rig_model.specs.Sessions.{Outcome, State, Step, call, calls_by, ended, no_memory, pass_full, says, state_by, stays_quiet, strange, text_of_outcome, written}
use Rattle.rig_sessions.specs.inner.Steps.{IsCallWithText}
use Rattle.rig_sessions.specs.Talks.{outcome_of}
use Rattle.rig_sessions.specs.declared.faults.TalkFault.{TalkFault}
use Rattle.rig_sessions.specs.declared.faults.TalkFault.TheVariants.{Write}
use Rattle.rig_sessions.specs.inner.Answered.{IsAnswered, IsTaken}

-- a call, with its outcome
abbrev pub called : (t : ℕ) (c : Command) (o : Outcome) (s : State) (old new : PassValue) → new.calls ≡ old.calls ++ calls_by t c o → IsTaken (record { act = call t c; state = s }) (state_by s o) old new
called t c o s old new added = record {
  given = o ∷ [];
  made = calls_by t c o;
  said = written (text_of_outcome o);
  takes = λ from later calls text. refl;
  pass = added;
}

abbrev pub quiet_taken : (s : State) (old : PassValue) → IsTaken (stays_quiet s) s old old
quiet_taken s old = record {
  given = [];
  made = [];
  said = [];
  takes = λ from later calls text. (let a = sym (append-nil calls) in let b = sym (append-nil text) in λ i. record { state = s; outcomes = later; calls = a i; text = b i });
  pass = sym (append-nil old.calls);
}

abbrev pub said_taken : (reply : List ℕ) (s : State) (old : PassValue) → IsTaken (says reply s) s old old
said_taken reply s old = record {
  given = [];
  made = [];
  said = written reply;
  takes = λ from later calls text. (let a = sym (append-nil calls) in λ i. record { state = s; outcomes = later; calls = a i; text = text ++ written reply });
  pass = sym (append-nil old.calls);
}

-- a call that was refused
pub refused_taken : (f : DeskFault) → f ≢ desk.Memory → (t : ℕ) (c : Command) (s : State) (old new : PassValue) → new ≡ old
    → (x : IsTaken (record { act = call t c; state = s }) ended old new) × (x.given ≡ outcome_of f ∷ []) × (f ≢ desk.Memory)
refused_taken desk.PassFull other t c s old new same = (called t c pass_full s old new (ap (λ (p : PassValue). p.calls) same ∙ sym (append-nil old.calls)), refl, other)
refused_taken (desk.Strange n) other t c s old new same = (called t c strange s old new (ap (λ (p : PassValue). p.calls) same ∙ sym (append-nil old.calls)), refl, other)
refused_taken desk.Memory other t c s old new same = absurd (other refl)

-- a call with no memory for its text
pub unread_taken : (step : Step) (s t : State) (old : PassValue) (Written : List ℕ → Type 0) → IsCallWithText step s → t ≡ s → Written (written (text_of_outcome no_memory)) → IsAnswered step t old old Written
unread_taken step s t old Written is same done =
    subst (λ x. IsAnswered x t old old Written) (sym is.2)
    (subst (λ u. IsAnswered (record { act = call is.0 is.1; state = s }) u old old Written) (sym same) (called is.0 is.1 no_memory s old old (sym (append-nil old.calls)), done))

-- what follows from a result that is a fault
pub on_err : {T : Type 0} (r : Result T TalkFault) (P Q : TalkFault → Type 0) → IfErr r P → ((f : TalkFault) → P f → Q f) → IfErr r Q
on_err (Ok x) P Q h f = tt
on_err (Err e) P Q h f = f e h

-- what follows from two properties of a result
pub on_ok_two : {T E : Type 0} (r : Result T E) (A B Q : Type 0) → OnOk r A → OnOk r B → (A → B → Q) → OnOk r Q
on_ok_two (Ok x) A B Q a b f = f a b
on_ok_two (Err e) A B Q a b f = tt

-- if only a write can fail
pub unsaid : {T : Type 0} (r : Result T TalkFault) (P : TalkFault → Type 0) → IfErr r (λ f. f ≡ Write) → P Write → IfErr r P
unsaid (Ok x) P h p = tt
unsaid (Err e) P h p = subst P (sym h) p

pub appends_nothing : (w : Option (List ℕ)) → Appends w w []
appends_nothing None = tt
appends_nothing (Some xs) = sym (append-nil xs)
