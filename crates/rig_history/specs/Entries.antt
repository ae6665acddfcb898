-- The text of a log: its entries, the oldest first. Each line ends with LF, and a reply has two blanks before it.
use Rattle.std.specs.Prelude.{ℕ, ◌+◌, ℤ, List, [], ◌∷◌, ◌++◌, codes}
use Rattle.std.specs.Fmt.{decimal, signed_decimal}
use Rattle.std.specs.List.{flat_map}
use Rattle.rig_history.specs.Commands.{text_of_command}
use Rattle.rig_model.specs.config.Roster.{Rig, name_at}
use Rattle.rig_model.specs.declared.jobs.JobId.{JobId}
use Rattle.rig_model.specs.declared.logged.Call.{Call}
use Rattle.rig_model.specs.declared.logged.Logged.{Logged}
use Rattle.rig_model.specs.declared.logged.Logged.TheVariants as logged
use Rattle.rig_model.specs.lines.Replies.{text_of_reply}

-- a value in decimal, after a blank
abbrev pub word_of_value : ℤ → List ℕ
word_of_value v = codes " " ++ signed_decimal v

-- "call SEAT TENANT COMMAND"
abbrev pub text_of_asked : Rig → ℕ → Call → List ℕ
text_of_asked rig seat call = codes "call " ++ (decimal seat ++ (codes " " ++ (name_at rig call.tenant ++ (codes " " ++ text_of_command call.command))))

-- what a call asks, and the reply on the next line
abbrev pub text_of_call : Rig → ℕ → Call → List ℕ
text_of_call rig seat call = text_of_asked rig seat call ++ (codes "\n  " ++ (text_of_reply call.reply ++ codes "\n"))

-- the end of a line, and "ok tick N" on the next one, N the number of an instant
abbrev pub text_of_number : ℕ → List ℕ
text_of_number tick = codes "\n  ok tick " ++ (decimal tick ++ codes "\n")

-- "tick V ..", and the reply on the next line
abbrev pub text_of_tick : ℕ → List ℤ → List ℕ
text_of_tick tick frame = codes "tick" ++ (flat_map word_of_value frame ++ text_of_number tick)

-- "done TENANT TICK TASK"
abbrev pub text_of_job : Rig → JobId → List ℕ
text_of_job rig j = codes "done " ++ (name_at rig j.tenant ++ (codes " " ++ (decimal j.tick ++ (codes " " ++ (j.task ++ codes "\n")))))

-- an entry, before which `tick` is the number of the next instant
abbrev pub text_of_entry : Rig → ℕ → Logged → List ℕ
text_of_entry rig tick (logged.Call seat call) = text_of_call rig seat call
text_of_entry rig tick (logged.Tick frame) = text_of_tick tick frame
text_of_entry rig tick (logged.Done j) = text_of_job rig j

-- the number of the next instant after an entry, given the one before it
abbrev pub tick_after : ℕ → Logged → ℕ
tick_after tick (logged.Call seat call) = tick
tick_after tick (logged.Tick frame) = tick + 1
tick_after tick (logged.Done j) = tick

-- these entries, the oldest first, before which `tick` is the number of the next instant
abbrev pub text_of_log : Rig → ℕ → List Logged → List ℕ
text_of_log rig tick [] = []
text_of_log rig tick (e ∷ log) = text_of_entry rig tick e ++ text_of_log rig (tick_after tick e) log
