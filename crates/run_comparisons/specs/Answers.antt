-- The answers of a run: the replies to the lines of tenants, and the driven lines of the rig after each tick. The lines of the operator are
-- compared in the same way.
use Rattle.std.specs.Prelude.{ℕ, ◌+◌, ◌==◌, if◌then◌else◌, Bool, true, false, List, [], ◌∷◌, ◌++◌, reverse, filter, codes}
use Rattle.rig_model.specs.Base.{Setting}
use Rattle.rig_model.specs.Legal.{next_tick}
use Rattle.rig_model.specs.Script.{line_step, lines_step, past_behind, reply_to_line, speaker_of}
use Rattle.rig_model.specs.TextLines.{cut}
use Rattle.rig_model.specs.declared.events.Event.{Event}
use Rattle.rig_model.specs.declared.speakers.Speaker.{Speaker}
use Rattle.rig_model.specs.declared.speakers.Speaker.TheVariants.{Nobody, Operator, Tenant, Unknown}
use Rattle.rig_script.specs.Given.{number_behind, texts_of}
use Rattle.rig_script.specs.Instants.{is_instant}
use Rattle.run_comparisons.specs.declared.answers.Subject.{Subject}
use Rattle.run_comparisons.specs.declared.answers.Subject.TheVariants as subject

-- an answer of a run
pub record RunAnswer : Type 0 where
  -- the tenant that it is given to, the driven lines, or the operator
  pub subject : Subject
  -- the number of its line, counted from 1
  pub number : ℕ
  -- how many ticks came up to it
  pub ticks : ℕ
  -- its line
  pub line : List ℕ
  -- with LF; of a line of the operator, the line itself
  pub reply : List ℕ

abbrev pub same_subject : Subject → Subject → Bool
same_subject (subject.Tenant t) (subject.Tenant u) = t == u
same_subject (subject.Tenant t) subject.Lines = false
same_subject (subject.Tenant t) subject.Operator = false
same_subject subject.Lines (subject.Tenant u) = false
same_subject subject.Lines subject.Lines = true
same_subject subject.Lines subject.Operator = false
same_subject subject.Operator (subject.Tenant u) = false
same_subject subject.Operator subject.Lines = false
same_subject subject.Operator subject.Operator = true

-- those of the answers that are this subject's, in their order
abbrev pub answers_of : Subject → List RunAnswer → List RunAnswer
answers_of s answers = filter (λ (a : RunAnswer). same_subject s a.subject) answers

-- a line that was answered, and what the rig shows after it
pub record ShownLine : Type 0 where
  pub speaker : Speaker
  pub gives_tick : Bool
  pub number : ℕ
  -- how many ticks came up to it, its own among them
  pub ticks : ℕ
  pub text : List ℕ
  pub reply : List ℕ
  -- the reply to `op lines` after it
  pub driven : List ℕ

abbrev pub answer_at : ShownLine → Subject → List ℕ → RunAnswer
answer_at line s reply = record { subject = s; number = line.number; ticks = line.ticks; line = line.text; reply = reply }

-- the driven lines after a line, if it gives a tick
abbrev pub driven_at : ShownLine → List RunAnswer
driven_at line = if line.gives_tick then answer_at line subject.Lines line.driven ∷ [] else []

-- the answers at a line: the reply if it is a tenant's; the line itself, and the driven lines, if it is the operator's
abbrev pub answers_at : ShownLine → List RunAnswer
answers_at line = by line.speaker
  where
    by : Speaker → List RunAnswer
    by Nobody = []
    by Operator = answer_at line subject.Operator (line.text ++ codes "\n") ∷ driven_at line
    by (Tenant t) = answer_at line (subject.Tenant t) line.reply ∷ []
    by Unknown = []

module _ (setting : Setting) where
  -- a line of this text after `n` others, if `past` are the events so far
  abbrev pub shown_line : List Event → ℕ → List ℕ → ShownLine
  shown_line past n text = record {
    speaker = speaker_of setting.config text;
    gives_tick = is_instant (reverse (line_step setting past text).events);
    number = number_behind n;
    ticks = next_tick setting (past_behind setting past text);
    text = text;
    reply = reply_to_line setting past text;
    driven = (lines_step setting (past_behind setting past text)).reply;
  }

  -- the answers at lines of these texts after `n` others
  abbrev pub answers_from : List Event → ℕ → List (List ℕ) → List RunAnswer
  answers_from past n [] = []
  answers_from past n (text ∷ texts) = answers_at (shown_line past n text) ++ answers_from (past_behind setting past text) (n + 1) texts

  -- the answers of the run of a script
  abbrev pub run_answers : List ℕ → List RunAnswer
  run_answers bytes = answers_from [] 0 (texts_of (cut bytes))
