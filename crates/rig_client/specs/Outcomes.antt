-- How a session goes on after the answer to a line.
use Rattle.std.specs.Prelude.{ℕ, List, ◌++◌, codes}
use Rattle.std.specs.Fmt.{decimal}
use Rattle.rig_client.specs.declared.answers.AnswerKind.{AnswerKind}
use Rattle.rig_client.specs.declared.answers.AnswerKind.TheVariants as kinds
use Rattle.rig_client.specs.declared.outcomes.Next.{Next}
use Rattle.rig_client.specs.declared.outcomes.Next.TheVariants as nexts
use Rattle.rig_client.specs.declared.outcomes.OnRefusal.{OnRefusal}
use Rattle.rig_client.specs.declared.outcomes.OnRefusal.TheVariants as refusals

-- a refusal ends a session only if the user wants it
abbrev pub next_after_refusal : OnRefusal → Next
next_after_refusal refusals.GoOn = nexts.Line
next_after_refusal refusals.Quit = nexts.Quit

-- what a client does after an answer of this kind
abbrev pub next_after : OnRefusal → AnswerKind → Next
next_after on_refusal kinds.GoesOn = nexts.Line
next_after on_refusal kinds.Refused = next_after_refusal on_refusal
next_after on_refusal kinds.Bye = nexts.Bye
next_after on_refusal kinds.Ended = nexts.Ended

-- "line N: not carried out; with --strict no line after it is sent", and LF
abbrev pub report_on_refusal : ℕ → List ℕ
report_on_refusal number = codes "line " ++ (decimal number ++ codes ": not carried out; with --strict no line after it is sent\n")
