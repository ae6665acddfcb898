-- What a server's answer means for the session.
use Rattle.std.specs.Prelude.{ℕ, Bool, ◌||◌, nat_eq, if◌then◌else◌, List, codes}
use Rattle.std.specs.List.{starts_with}
use Rattle.giotto_tasks.specs.Names.{same_name}
use Rattle.rig_client.specs.declared.answers.AnswerKind.{AnswerKind}
use Rattle.rig_client.specs.declared.answers.AnswerKind.TheVariants.{GoesOn, Refused, Bye, Ended}

-- a text was refused as no program, or for a rule that its program breaks
abbrev pub is_refused_program : List ℕ → Bool
is_refused_program text = starts_with nat_eq text (codes "err syntax ") || starts_with nat_eq text (codes "err rule ")

-- what an answer means, by its text with the LF: a last line begins with "bye", and a refusal with "err"
abbrev pub kind_of_answer : List ℕ → AnswerKind
kind_of_answer text =
    if same_name text (codes "bye\n") then Bye
    else (if starts_with nat_eq text (codes "bye ") then Ended else (if starts_with nat_eq text (codes "err ") then Refused else GoesOn))
