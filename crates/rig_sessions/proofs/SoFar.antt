-- How far a session has come over the lines of a reader, and how it ends.
use Rattle.std.proofs.Common.{◌≡◌, ◌≢◌, ◌≤◌, ◌⊎◌, ℕ, Bool, true, List, [], ◌∷◌, ◌++◌, Option, Some, None, IsSome, Result, Ok, Err, IfErr, take, refl, sym, ap, ◌∙◌, subst, inl, inr, append_assoc, append-nil, arith}
use Rattle.std.proofs.KnownBytes.{Appends-trans, Appends-kept}
use Rattle.std.specs.Io.KnownBytes.{Appends, Keeps}
use Rattle.std.specs.List.{AllByRecursion}
use Rattle.locked_book.specs.Books.{PassValue}
use Rattle.rig_model.specs.config.Roster.{Rig}
use Rattle.rig_model.specs.Answered.{IsText, state_after}
use Rattle.rig_model.specs.TextLines.{cut, text_of_line, whole_lines}
use Rattle.rig_model.specs.declared.limits.TheConstants.{MAX_READS}
use Rattle.rig_model.specs.declared.logged.Call.{Call}
use Rattle.rig_model.specs.Sessions.{Outcome, Session, State, Step, begun, behind_line, behind_lines, behind_step, bye_bad_line, ended, line_step, says, stranger, tenant, text_step, written}
use Rattle.rig_sessions.specs.inner.Faults.{fault_of_lines}
use Rattle.rig_sessions.specs.Talks.{outcome_of, AreFewRead, IsCutOff, Talked, TalkedInto, TookWholeLines}
use Rattle.rig_sessions.specs.declared.faults.TalkFault.{TalkFault}
use Rattle.rig_sessions.specs.declared.faults.TalkFault.TheVariants.{Read, Write, Turns, Desk}
use Rattle.rig_sessions.specs.inner.Answered.{AreAnswered, AreTaken, AreUnanswered, behind_texts}
use Rattle.rig_sessions.proofs.Answering.{appends_nothing}
use Rattle.text_lines.specs.declared.faults.LinesFault.{LinesFault}
use Rattle.text_lines.specs.declared.faults.LinesFault.TheVariants as lines
use Rattle.text_lines.specs.cited.Batches.{AreFirstLines}
use Rattle.text_lines.specs.cited.Reading.{AreCounted, HasFirstLine, HasNoWholeLine, IsFirstLine, IsNextLine}
use Rattle.text_lines.proofs.cited.AnsweredLines.{AreOf, HasCome, come_nowhere, come_further, come_ended}
use Rattle.text_lines.proofs.cited.FirstLines.{behind_first, first_of_both}
use Rattle.text_lines.proofs.cited.CountedReads.{taken_by}

module _ (config : Rig) where
  -- after a line's text
  abbrev pub after : Session → List ℕ → Session
  after s text = behind_step s (line_step config s.state (Some text))

  abbrev pub silent : Session → List ℕ → List ℕ
  silent s text = []

  -- over lines that are text
  pub as_texts : (s : Session) (ls : List (List ℕ)) → AllByRecursion IsText ls → state_after silent after s ls ≡ behind_lines config s ls
  as_texts s [] all = refl
  as_texts s (l ∷ ls) all = by (text_of_line l) refl all.0 (λ t. as_texts (after s t) ls all.1)
    where
      by : (found : Option (List ℕ)) → text_of_line l ≡ found → IsSome found → ((t : List ℕ) → state_after silent after (after s t) ls ≡ behind_lines config (after s t) ls)
          → state_after silent after s (l ∷ ls) ≡ behind_lines config s (l ∷ ls)
      by None f some rest = cc
      by (Some t) f some rest = rw f (rest t)

  pub lines_both : (s : Session) (xs ys : List (List ℕ)) → behind_lines config s (xs ++ ys) ≡ behind_lines config (behind_lines config s xs) ys
  lines_both s [] ys = refl
  lines_both s (x ∷ xs) ys = lines_both (behind_line config s x) xs ys

  -- after the end
  pub ended_stays : (os : List Outcome) (calls : List Call) (text : List ℕ) (ls : List (List ℕ))
      → behind_lines config (record { state = ended; outcomes = os; calls = calls; text = text }) ls ≡ record { state = ended; outcomes = os; calls = calls; text = text }
  ended_stays os calls text [] = refl
  ended_stays os calls text (l ∷ ls) = by (text_of_line l) refl (ended_stays os calls text ls)
    where
      by : (found : Option (List ℕ)) → text_of_line l ≡ found
          → behind_lines config (record { state = ended; outcomes = os; calls = calls; text = text }) ls ≡ record { state = ended; outcomes = os; calls = calls; text = text }
          → behind_lines config (record { state = ended; outcomes = os; calls = calls; text = text }) (l ∷ ls) ≡ record { state = ended; outcomes = os; calls = calls; text = text }
      by None f rest = rw f rest
      by (Some t) f rest = rw f rest

  bad_step : (s : State) → s ≢ ended → line_step config s None ≡ says bye_bad_line ended
  bad_step stranger other = refl
  bad_step (tenant t) other = refl
  bad_step ended other = absurd (other refl)

  -- These bytes were taken up to `rest`. With some outcomes, whatever comes later, the session is in this state, has made the new calls of
  -- the pass, and has written these bytes.
  abbrev pub IsOn : List ℕ → List ℕ → Bool → State → PassValue → PassValue → Option (List ℕ) → Option (List ℕ) → Type 0
  IsOn bytes rest over s old new w v =
      (given : List Outcome) × (made : List Call) × (said : List ℕ) × (new.calls ≡ old.calls ++ made) × Appends w v said
      × ((later : List Outcome) → HasCome silent after (begun (given ++ later)) bytes None (record { state = s; outcomes = later; calls = made; text = said }) rest over None)

  -- over the texts of the first remaining lines
  pub come_over : (begin : Session) (bytes : List ℕ) (x : Session) (rest : List ℕ) (over : Bool) (texts : List (List ℕ)) (later : List ℕ)
      → HasCome silent after begin bytes None x rest over None → AreFirstLines rest texts over (λ r. r ≡ later) → HasCome silent after begin bytes None (behind_texts config x texts) later over None
  come_over begin bytes x rest over [] later come first = subst (λ r. HasCome silent after begin bytes None x r over None) first come
  come_over begin bytes x rest over (text ∷ texts) later come first =
      come_over begin bytes (after x text) first.1 over texts later
      (come_further silent after begin bytes None x rest over None come None tt first.0 first.1 text (after x text) over None first.2 (λ is. is) first.3 refl tt) first.4

  pub on_nowhere : (bytes : List ℕ) (over : Bool) (old : PassValue) (w : Option (List ℕ)) → IsOn bytes bytes over stranger old old w w
  on_nowhere bytes over old w = ([], [], [], sym (append-nil old.calls), appends_nothing w, λ later. come_nowhere silent after (begun later) bytes None over)

  module _ (bytes rest : List ℕ) (over : Bool) (s : State) (old mid : PassValue) (w v : Option (List ℕ)) (on : IsOn bytes rest over s old mid w v) (u : Option (List ℕ)) (kept : Keeps v u) where
    -- the lines so far, with these outcomes left for later
    abbrev front : (later : List Outcome) → (before : List (List ℕ)) × (cut bytes ≡ before ++ cut rest)
        × (behind_lines config (begun (on.0 ++ later)) before ≡ record { state = s; outcomes = later; calls = on.1; text = on.2 })
    front later =
        let come = on.5 later in
        (come.4.0, come.4.1, sym (as_texts (begun (on.0 ++ later)) come.4.0 come.4.2) ∙ sym come.4.4)

    -- and over these further texts
    abbrev pub on_further : (new : PassValue) (z : Option (List ℕ)) (t : State) (texts : List (List ℕ)) (later : List ℕ) (over_now : Bool) → AreFirstLines rest texts over_now (λ r. r ≡ later) → (over ≡ true → over_now ≡ true)
        → AreAnswered config s texts t mid new (Appends u z) → IsOn bytes later over_now t old new w z
    on_further new z t texts later over_now first stays done =
        let taken = done.0 in (
          on.0 ++ taken.given,
          on.1 ++ taken.made,
          on.2 ++ taken.said,
          taken.pass ∙ ap (λ l. l ++ taken.made) on.3 ∙ append_assoc old.calls on.1 taken.made,
          Appends-trans w u z on.2 taken.said (Appends-kept w v u on.2 on.4 kept) done.1,
          λ more.
              (let from : Session = record { state = s; outcomes = taken.given ++ more; calls = on.1; text = on.2 } in
              let come : HasCome silent after (begun (on.0 ++ (taken.given ++ more))) bytes None from rest over_now None =
              come_ended silent after (begun (on.0 ++ (taken.given ++ more))) bytes None from rest over over_now None (on.5 (taken.given ++ more)) stays in
              subst (λ gs. HasCome silent after (begun gs) bytes None (record { state = t; outcomes = more; calls = on.1 ++ taken.made; text = on.2 ++ taken.said }) later over_now None) (sym (append_assoc on.0 taken.given more))
              (subst (λ x. HasCome silent after (begun (on.0 ++ (taken.given ++ more))) bytes None x later over_now None) (taken.takes more on.1 on.2)
              (come_over (begun (on.0 ++ (taken.given ++ more))) bytes from rest over_now texts later come first))),
        )

    -- exactly the lines so far
    abbrev so_far : Talked config (front []).0 old mid
    so_far = record { outcomes = on.0 ++ []; state = s; made = on.1; said = on.2; session = (front []).2; pass = on.3 }

    so_far_into : TalkedInto config old mid (Appends w u) (front []).0
    so_far_into = (so_far, Appends-kept w v u on.2 on.4 kept)

    -- nothing is left
    pub all_taken : rest ≡ [] → TalkedInto config old mid (Appends w u) (cut bytes)
    all_taken none =
        let all : cut bytes ≡ (front []).0 = (front []).1 ∙ ap (λ r. (front []).0 ++ cut r) none ∙ append-nil (front []).0 in
        subst (TalkedInto config old mid (Appends w u)) (sym all) so_far_into

    -- a line that is too long or not UTF-8
    pub bad_taken : s ≢ ended → HasFirstLine rest (λ line. text_of_line line ≡ None) → (z : Option (List ℕ)) → Appends u z (written bye_bad_line)
        → (t : Talked config (cut bytes) old mid) × Appends w z t.said × (t.state ≡ ended)
    bad_taken other bad z grown =
        let before = (front []).0 in
        let split : cut bytes ≡ before ++ (bad.0 ∷ bad.1) = (front []).1 ∙ ap (λ l. before ++ l) bad.2 in
        let last : behind_line config (record { state = s; outcomes = []; calls = on.1; text = on.2 }) bad.0 ≡ record { state = ended; outcomes = []; calls = on.1; text = on.2 ++ written bye_bad_line } =
        ap (λ found. behind_step (record { state = s; outcomes = []; calls = on.1; text = on.2 }) (line_step config s found)) bad.3
        ∙ ap (behind_step (record { state = s; outcomes = []; calls = on.1; text = on.2 })) (bad_step s other) in (
          record {
            outcomes = on.0 ++ [];
            state = ended;
            made = on.1;
            said = on.2 ++ written bye_bad_line;
            session =
                ap (behind_lines config (begun (on.0 ++ []))) split ∙ lines_both (begun (on.0 ++ [])) before (bad.0 ∷ bad.1)
                ∙ ap (λ x. behind_lines config x (bad.0 ∷ bad.1)) (front []).2 ∙ ap (λ x. behind_lines config x bad.1) last ∙ ended_stays [] on.1 (on.2 ++ written bye_bad_line) bad.1;
            pass = on.3;
          },
          Appends-trans w u z on.2 (written bye_bad_line) (Appends-kept w v u on.2 on.4 kept) grown,
          refl,
        )

    -- a session that ended
    abbrev pub over_taken : s ≡ ended → Talked config (cut bytes) old mid
    over_taken is =
        let at = front [] in
        record {
          outcomes = on.0 ++ [];
          state = ended;
          made = on.1;
          said = on.2;
          session =
              ap (behind_lines config (begun (on.0 ++ []))) at.1 ∙ lines_both (begun (on.0 ++ [])) at.0 (cut rest)
              ∙ ap (λ x. behind_lines config x (cut rest)) (at.2 ∙ ap (λ x. record { state = x; outcomes = []; calls = on.1; text = on.2 }) is) ∙ ended_stays [] on.1 on.2 (cut rest);
          pass = on.3;
        }

    pub over_into : s ≡ ended → (t : Talked config (cut bytes) old mid) × Appends w u t.said × (t.state ≡ ended)
    over_into is = (over_taken is, Appends-kept w v u on.2 on.4 kept, refl)

    -- the lines up to here
    pub down_to : (before : List (List ℕ)) × (behind : List (List ℕ)) × (cut bytes ≡ before ++ behind) × Talked config before old mid
    down_to = ((front []).0, cut rest, (front []).1, so_far)

    -- exactly the complete lines
    whole_taken : (remaining : Option (List ℕ)) → over ≢ true → HasNoWholeLine rest remaining → TookWholeLines bytes remaining (TalkedInto config old mid (Appends w u))
    whole_taken None more none = absurd none
    whole_taken (Some left) more none = by (on.5 []).4.5
      where
        by : ((taken : List ℕ) × (bytes ≡ taken ++ rest) × AreOf (front []).0 taken) ⊎ (over ≡ true) → TookWholeLines bytes (Some left) (TalkedInto config old mid (Appends w u))
        by (inr is) = absurd (more is)
        by (inl before) =
            let no_more : whole_lines none.0 ≡ [] = ap (λ n. take n (cut none.0)) none.2 in
            let whole : whole_lines (before.0 ++ none.0) ≡ (front []).0 = before.2 none.0 ∙ ap (λ ls. (front []).0 ++ ls) no_more ∙ append-nil (front []).0 in (
              before.0 ++ none.0,
              before.1 ∙ ap (λ l. before.0 ++ l) none.1 ∙ sym (append_assoc before.0 none.0 left),
              subst (TalkedInto config old mid (Appends w u)) (sym whole) so_far_into,
            )

    -- the reader gave no further line
    pub lines_cut : (remaining : Option (List ℕ)) (fault : LinesFault) (over_now : Bool) (Left : List ℕ → Type 0) → (over ≡ true → fault ≡ lines.Memory) → IsNextLine rest (Err fault) remaining over_now Left
        → IsCutOff config old mid (Appends w u) remaining bytes (fault_of_lines fault)
    lines_cut remaining lines.Read over_now Left last next = inl (whole_taken remaining (λ is. let wrong = last is in absurd (cc)) next)
    lines_cut remaining lines.Write over_now Left last next = ((front []).0, cut rest, (front []).1, so_far)
    lines_cut remaining lines.Turns over_now Left last next = whole_taken remaining (λ is. let wrong = last is in absurd (cc)) next
    lines_cut remaining lines.Memory over_now Left last next = inr ((front []).0, next.0, next.1, (front []).1 ∙ ap (λ l. (front []).0 ++ l) next.2, so_far_into)

    -- the writer failed at the end
    pub end_cut : (Written : List ℕ → Type 0) (remaining : Option (List ℕ)) → IsCutOff config old mid Written remaining bytes Write
    end_cut Written remaining = ((front []).0, cut rest, (front []).1, so_far)

module _ (config : Rig) (bytes rest : List ℕ) (over : Bool) (s : State) (old mid : PassValue) (w v : Option (List ℕ)) (on : IsOn config bytes rest over s old mid w v) where
  -- the same, with nothing promised about the bytes written
  abbrev unwritten : IsOn config bytes rest over s old mid None None
  unwritten = (on.0, on.1, on.2, on.3, tt, on.5)

  -- texts of the next lines that weren't all answered
  pub texts_cut : (new : PassValue) (texts : List (List ℕ)) (over_now : Bool) (Then : List ℕ → Type 0) → AreFirstLines rest texts over_now Then → (over ≡ true → over_now ≡ true)
      → (fault : TalkFault) (Written : List ℕ → Type 0) (remaining : Option (List ℕ)) → AreUnanswered config s texts mid new fault → IsCutOff config old new Written remaining bytes fault
  texts_cut new texts over_now Then first stays Read Written remaining failed = absurd failed
  texts_cut new texts over_now Then first stays Turns Written remaining failed = absurd failed
  texts_cut new texts over_now Then first stays Write Written remaining failed =
      let parts = first_of_both rest failed.0 failed.1 over_now Then (subst (λ l. AreFirstLines rest l over_now Then) failed.2 first) in
      let at = behind_first rest failed.0 over_now (λ r. AreFirstLines r failed.1 over_now Then) parts in
      down_to config bytes at.0 over_now failed.3 old new None None
      (on_further config bytes rest over s old mid None None unwritten None tt new None failed.3 failed.0 at.0 over_now at.2 stays (failed.4, tt)) None tt
  texts_cut new texts over_now Then first stays (Desk fault) Written remaining failed =
      let at = behind_first rest texts over_now Then first in
      let t = over_taken config bytes at.0 over_now ended old new None None
      (on_further config bytes rest over s old mid None None unwritten None tt new None ended texts at.0 over_now at.2 stays (failed.0, tt)) None tt refl in
      (t, on.0 ++ failed.1, append-nil (on.0 ++ failed.0.given) ∙ ap (λ l. on.0 ++ l) failed.2 ∙ sym (append_assoc on.0 failed.1 (outcome_of fault ∷ [])), refl, failed.3)

pub kept_here : (known : Option (List ℕ)) → Keeps known known
kept_here None = tt
kept_here (Some xs) = refl

-- after the texts of the next lines
pub batch_on : (config : Rig) (bytes rest : List ℕ) (over : Bool) (s : State) (old mid : PassValue) (w v u z : Option (List ℕ)) → IsOn config bytes rest over s old mid w v → Keeps v u
    → (texts : List (List ℕ)) (over_now : Bool) (Then : List ℕ → Type 0) → AreFirstLines rest texts over_now Then → (over ≡ true → over_now ≡ true) → (t : State) (new : PassValue) → AreAnswered config s texts t mid new (Appends u z)
    → (later : List ℕ) × Then later × IsOn config bytes later over_now t old new w z
batch_on config bytes rest over s old mid w v u z on kept texts over_now Then first stays t new done =
    let at = behind_first rest texts over_now Then first in
    (at.0, at.1, on_further config bytes rest over s old mid w v on u kept new z t texts at.0 over_now at.2 stays done)

-- the bytes that were read, by the number of reads that gave bytes
pub few_read : (r : Result Unit TalkFault) (known after : Option (List ℕ)) (count : ℕ) → AreCounted 0 count known after → count ≤ MAX_READS → (r ≡ Err Turns → MAX_READS ≤ count) → AreFewRead r known after
few_read r None after count counted few many = tt
few_read r (Some bytes) None count counted few many = absurd counted
few_read r (Some bytes) (Some more) count counted few many =
    let taken = taken_by count bytes (Some more) counted in
    let least = taken.2 in
    let most = taken.3 in
    (taken.0, taken.1, omega (arith, most, few), λ is. let enough = many is in omega (arith, least, enough))

-- only `Turns` of the lines becomes `Turns` of the session
pub lines_turns : (fault : LinesFault) → fault_of_lines fault ≡ Turns → fault ≡ lines.Turns
lines_turns lines.Read is = absurd (cc)
lines_turns lines.Write is = absurd (cc)
lines_turns lines.Turns is = refl
lines_turns lines.Memory is = absurd (cc)

pub unanswered_no_turns : (config : Rig) (from : State) (texts : List (List ℕ)) (old new : PassValue) (fault : TalkFault) → AreUnanswered config from texts old new fault → fault ≡ Turns → ⊥
unanswered_no_turns config from texts old new Read failed is = failed
unanswered_no_turns config from texts old new Turns failed is = failed
unanswered_no_turns config from texts old new Write failed is = cc
unanswered_no_turns config from texts old new (Desk f) failed is = cc

pub same_fault : {T : Type 0} (r : Result T TalkFault) (fault : TalkFault) → r ≡ Err fault → r ≡ Err Turns → fault ≡ Turns
same_fault r fault one other = let same = sym one ∙ other in cc

-- if only a write can fail
pub write_no_turns : {T : Type 0} (r : Result T TalkFault) → IfErr r (λ f. f ≡ Write) → r ≡ Err Turns → ⊥
write_no_turns (Ok x) failed is = cc
write_no_turns (Err f) failed is = cc

-- the calls that texts made, if they weren't all answered
pub unanswered_calls : (config : Rig) (from : State) (texts : List (List ℕ)) (old new : PassValue) (fault : TalkFault) → AreUnanswered config from texts old new fault → (made : List Call) × (new.calls ≡ old.calls ++ made)
unanswered_calls config from texts old new Read failed = absurd failed
unanswered_calls config from texts old new Turns failed = absurd failed
unanswered_calls config from texts old new Write failed = (failed.4.made, failed.4.pass)
unanswered_calls config from texts old new (Desk f) failed = (failed.0.made, failed.0.pass)

pub calls_both : (old mid new : PassValue) → (made : List Call) × (mid.calls ≡ old.calls ++ made) → (more : List Call) × (new.calls ≡ mid.calls ++ more) → (made : List Call) × (new.calls ≡ old.calls ++ made)
calls_both old mid new one other = (one.0 ++ other.0, other.1 ∙ ap (λ l. l ++ other.0) one.1 ∙ append_assoc old.calls one.0 other.0)
