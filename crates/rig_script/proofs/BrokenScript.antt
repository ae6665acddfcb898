-- How a fault ends a script.
use Rattle.std.proofs.Common.{◌≡◌, ℕ, ◌≤◌, Bool, true, List, Option, Some, None, Result, Err, refl, subst, sym, ◌∙◌, inl, inr, arith}
use Rattle.std.specs.Io.KnownBytes.{Appends, Keeps}
use Rattle.rig_model.specs.Base.{Setting}
use Rattle.rig_model.specs.TextLines.{text_of_line}
use Rattle.rig_model.specs.declared.events.Event.{Event}
use Rattle.rig_model.specs.declared.limits.TheConstants.{MAX_READS}
use Rattle.rig_model.specs.Script.{reply_to_line, memory_reply, past_behind}
use Rattle.rig_script.specs.declared.faults.ScriptFault.{ScriptFault}
use Rattle.rig_script.specs.declared.faults.ScriptFault.TheVariants.{Turns}
use Rattle.rig_script.specs.BrokenOff.{AreBrokenOff, AreFewRead}
use Rattle.rig_script.specs.inner.Faults.{fault_of_lines}
use Rattle.rig_script.specs.inner.Script.{IsUnanswered}
use Rattle.text_lines.specs.declared.faults.LinesFault.{LinesFault}
use Rattle.text_lines.specs.declared.faults.LinesFault.TheVariants as lines
use Rattle.text_lines.specs.cited.Reading.{AreCounted, IsFirstLine, IsNextLine}
use Rattle.text_lines.proofs.cited.AnsweredLines.{HasCome, all_answered, answered_before, refused_behind}
use Rattle.text_lines.proofs.cited.CountedReads.{taken_by}

module _ (setting : Setting) (past : List Event) (bytes : List ℕ) (w : Option (List ℕ)) (now : List Event) (rest : List ℕ) (ended : Bool) (v : Option (List ℕ))
    (come : HasCome (reply_to_line setting) (past_behind setting) past bytes w now rest ended v) (flushed : Option (List ℕ)) (kept : Keeps v flushed) (remaining : Option (List ℕ)) where
  -- the reader of lines gave no further line
  pub lines_broken : (fault : LinesFault) (ended_now : Bool) (Left : List ℕ → Type 0) → (ended ≡ true → fault ≡ lines.Memory) → IsNextLine rest (Err fault) remaining ended_now Left
      → AreBrokenOff remaining (Appends w flushed) (fault_of_lines fault) setting past bytes
  lines_broken lines.Read ended_now Left last next =
      inl (all_answered (reply_to_line setting) (past_behind setting) past bytes w now rest ended v come flushed kept remaining (λ is. let wrong = last is in absurd (cc)) next)
  lines_broken lines.Write ended_now Left last next = tt
  lines_broken lines.Turns ended_now Left last next =
      all_answered (reply_to_line setting) (past_behind setting) past bytes w now rest ended v come flushed kept remaining (λ is. let wrong = last is in absurd (cc)) next
  lines_broken lines.Memory ended_now Left last next =
      inr (answered_before (reply_to_line setting) (past_behind setting) past bytes w now rest ended v come flushed kept (next.0, next.1, next.2, tt))

  -- the reply to a line wasn't written
  pub reply_broken : (fault : ScriptFault) (line later text : List ℕ) (ended_now : Bool) (written : Option (List ℕ)) → IsFirstLine line later rest ended_now → text_of_line line ≡ Some text
      → IsUnanswered fault (Appends flushed written (memory_reply setting text)) → AreBrokenOff remaining (Appends w written) fault setting past bytes
  reply_broken fault line later text ended_now written first is (inl failed) = subst (λ f. AreBrokenOff remaining (Appends w written) f setting past bytes) (sym failed) tt
  reply_broken fault line later text ended_now written first is (inr memory) =
      subst (λ f. AreBrokenOff remaining (Appends w written) f setting past bytes) (sym memory.0)
      (refused_behind (reply_to_line setting) (past_behind setting) past bytes w now rest ended v come flushed kept (memory_reply setting) line later text ended_now written first is memory.1)

-- the bytes that were read, by the number of reads that gave bytes
pub few_read : {T : Type 0} (r : Result T ScriptFault) (known after : Option (List ℕ)) (count : ℕ) → AreCounted 0 count known after → count ≤ MAX_READS → (r ≡ Err Turns → MAX_READS ≤ count) → AreFewRead r known after
few_read r None after count counted few many = tt
few_read r (Some bytes) None count counted few many = absurd counted
few_read r (Some bytes) (Some more) count counted few many =
    let taken = taken_by count bytes (Some more) counted in
    let least = taken.2 in
    let most = taken.3 in
    (taken.0, taken.1, omega (arith, most, few), λ is. let enough = many is in omega (arith, least, enough))

-- only `Turns` of the lines becomes `Turns` of the script
pub lines_turns : (fault : LinesFault) → fault_of_lines fault ≡ Turns → fault ≡ lines.Turns
lines_turns lines.Read is = absurd (cc)
lines_turns lines.Write is = absurd (cc)
lines_turns lines.Turns is = refl
lines_turns lines.Memory is = absurd (cc)

pub unanswered_no_turns : {Said : Type 0} (fault : ScriptFault) → IsUnanswered fault Said → fault ≡ Turns → ⊥
unanswered_no_turns fault (inl failed) is = let wrong = sym failed ∙ is in cc
unanswered_no_turns fault (inr memory) is = let wrong = sym memory.0 ∙ is in cc

pub same_fault : {T : Type 0} (r : Result T ScriptFault) (fault : ScriptFault) → r ≡ Err fault → r ≡ Err Turns → fault ≡ Turns
same_fault r fault one other = let same = sym one ∙ other in cc
