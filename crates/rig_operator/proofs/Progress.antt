-- How far the lines of an operator have come.
use Rattle.std.proofs.Common.{◌≡◌, ◌≢◌, ◌⊎◌, ℕ, Bool, true, List, [], ◌∷◌, ◌++◌, map, Option, Some, None, IsSome, Err, refl, sym, ap, ◌∙◌, subst, inl, inr, take, append_assoc, append-nil}
use Rattle.std.proofs.lemmas.List.{map-append}
use Rattle.std.proofs.KnownBytes.{Appends-kept}
use Rattle.std.specs.Io.KnownBytes.{Appends, Keeps}
use Rattle.std.specs.List.{AllByRecursion}
use Rattle.rig_model.specs.Answered.{IsText, state_after}
use Rattle.rig_model.specs.TextLines.{cut, text_of_line, whole_lines}
use Rattle.rig_operator.proofs.Adding.{adds_both}
use Rattle.rig_operator.specs.Asked.{Adds, Asked, archived, completed, driven, given, number_after, refused, sent, settled, unarchived, undriven}
use Rattle.rig_operator.specs.Operation.{AreAnswered, AreWhole, BeginWith, IsBrokenOff, IsTextAnswered, WrittenBefore}
use Rattle.rig_operator.specs.declared.faults.OperatorFault.{OperatorFault}
use Rattle.rig_operator.specs.declared.faults.OperatorFault.TheVariants.{Read, Write}
use Rattle.rig_operator.specs.inner.Faults.{fault_of_lines}
use Rattle.rig_operator.specs.inner.Answering.{HasReplied}
use Rattle.text_lines.proofs.cited.AnsweredLines.{AreOf, HasCome, come_further, come_nowhere}
use Rattle.text_lines.specs.cited.Reading.{HasNoWholeLine, IsFirstLine, IsNextLine}
use Rattle.text_lines.specs.declared.faults.LinesFault.{LinesFault}
use Rattle.text_lines.specs.declared.faults.LinesFault.TheVariants as lines

abbrev no_reply : List (List ℕ) → List ℕ → List ℕ
no_reply texts text = []

abbrev with_text : List (List ℕ) → List ℕ → List (List ℕ)
with_text texts text = texts ++ text ∷ []

-- the first lines of these bytes were read, with these texts, and `rest` is still to come
abbrev pub HasRead : List ℕ → List (List ℕ) → List ℕ → Bool → Type 0
HasRead bytes texts rest ended = HasCome no_reply with_text [] bytes None texts rest ended None

pub reads_nothing : (bytes : List ℕ) (ended : Bool) → HasRead bytes [] bytes ended
reads_nothing bytes ended = come_nowhere no_reply with_text [] bytes None ended

-- the texts of lines that are text
texts_of_state : (s before : List (List ℕ)) → AllByRecursion IsText before → map Some (state_after no_reply with_text s before) ≡ map Some s ++ map text_of_line before
texts_of_state s [] all = sym (append-nil (map Some s))
texts_of_state s (l ∷ ls) all = by (text_of_line l) refl all.0 (λ t. texts_of_state (s ++ t ∷ []) ls all.1)
  where
    by : (found : Option (List ℕ)) → text_of_line l ≡ found → IsSome found
        → ((t : List ℕ) → map Some (state_after no_reply with_text (s ++ t ∷ []) ls) ≡ map Some (s ++ t ∷ []) ++ map text_of_line ls)
        → map Some (state_after no_reply with_text s (l ∷ ls)) ≡ map Some s ++ map text_of_line (l ∷ ls)
    by None f some rest = cc
    by (Some t) f some rest =
        rw f (rest t ∙ ap (λ ts. ts ++ map text_of_line ls) (map-append Some s (t ∷ [])) ∙ append_assoc (map Some s) (Some t ∷ []) (map text_of_line ls))

module _ (bytes : List ℕ) (texts : List (List ℕ)) (rest : List ℕ) (ended : Bool) (read : HasRead bytes texts rest ended) where
  pub reads_further : (line later text : List ℕ) (ended_now : Bool) → IsFirstLine line later rest ended_now → (ended ≡ true → ended_now ≡ true) → text_of_line line ≡ Some text → HasRead bytes (texts ++ text ∷ []) later ended_now
  reads_further line later text ended_now first stays is = come_further no_reply with_text [] bytes None texts rest ended None read None tt line later text (texts ++ text ∷ []) ended_now None first stays is refl tt

  texts_read : map text_of_line read.4.0 ≡ map Some texts
  texts_read = sym (ap (λ (ts : List (List ℕ)). map Some ts) read.4.4 ∙ texts_of_state [] read.4.0 read.4.2)

  -- what holds of the lines that are still to come
  pub begins : (Then : List (List ℕ) → Type 0) → Then (cut rest) → BeginWith bytes texts Then
  begins Then h = (read.4.0, cut rest, read.4.1, texts_read, h)

  -- nothing is left
  pub all_read : rest ≡ [] → map text_of_line (cut bytes) ≡ map Some texts
  all_read none = ap (map text_of_line) (read.4.1 ∙ ap (λ l. read.4.0 ++ cut l) none ∙ append-nil read.4.0) ∙ texts_read

  -- no further line is complete
  pub whole_read : (remaining : Option (List ℕ)) → ended ≢ true → HasNoWholeLine rest remaining → AreWhole bytes remaining texts
  whole_read None more none = absurd none
  whole_read (Some left) more none = by read.4.5
    where
      by : ((taken : List ℕ) × (bytes ≡ taken ++ rest) × AreOf read.4.0 taken) ⊎ (ended ≡ true) → AreWhole bytes (Some left) texts
      by (inr is) = absurd (more is)
      by (inl before) =
          let no_more : whole_lines none.0 ≡ [] = ap (λ n. take n (cut none.0)) none.2 in
          let whole : whole_lines (before.0 ++ none.0) ≡ read.4.0 = before.2 none.0 ∙ ap (λ ls. read.4.0 ++ ls) no_more ∙ append-nil read.4.0 in (
            before.0 ++ none.0,
            before.1 ∙ ap (λ l. before.0 ++ l) none.1 ∙ sym (append_assoc before.0 none.0 left),
            ap (map text_of_line) whole ∙ texts_read,
          )

-- if the reader of lines gave no further line
module _ (bytes : List ℕ) (texts : List (List ℕ)) (rest : List ℕ) (ended : Bool) (read : HasRead bytes texts rest ended) (remaining : Option (List ℕ)) (ended_now : Bool) (Left : List ℕ → Type 0) where
  pub lines_broken : (fault : LinesFault) → (ended ≡ true → fault ≡ lines.Memory) → IsNextLine rest (Err fault) remaining ended_now Left → IsBrokenOff (fault_of_lines fault) bytes texts remaining
  lines_broken lines.Read last next = inl (whole_read bytes texts rest ended read remaining (λ is. let wrong = last is in absurd (cc)) next)
  lines_broken lines.Write last next = begins bytes texts rest ended read (λ ls. Unit {0}) tt
  lines_broken lines.Turns last next = inl (whole_read bytes texts rest ended read remaining (λ is. let wrong = last is in absurd (cc)) next)
  lines_broken lines.Memory last next = inr (begins bytes texts rest ended read (λ ls. (line : List ℕ) × (later : List (List ℕ)) × (ls ≡ line ∷ later)) (next.0, next.1, next.2))

pub written_before : (fault : OperatorFault) (Writes : List ℕ → Type 0) (said : List ℕ) → Writes said → WrittenBefore fault Writes said
written_before Read Writes said h = h
written_before Write Writes said h = tt

number_after_both : (xs : List Asked) (n : ℕ) (ys : List Asked) → number_after n (xs ++ ys) ≡ number_after (number_after n xs) ys
number_after_both [] n ys = refl
number_after_both (given frame jobs ∷ xs) n ys = number_after_both xs _ ys
number_after_both (refused frame fault ∷ xs) n ys = number_after_both xs n ys
number_after_both (sent jobs unsent ∷ xs) n ys = number_after_both xs n ys
number_after_both (completed job ∷ xs) n ys = number_after_both xs n ys
number_after_both (driven values ∷ xs) n ys = number_after_both xs n ys
number_after_both (undriven ∷ xs) n ys = number_after_both xs n ys
number_after_both (settled ∷ xs) n ys = number_after_both xs n ys
number_after_both (archived entries ∷ xs) n ys = number_after_both xs n ys
number_after_both (unarchived fault ∷ xs) n ys = number_after_both xs n ys

-- one more line
pub answered_more : (texts : List (List ℕ)) (n : ℕ) (text : List ℕ) (asked more : List Asked) (said reply : List ℕ) → AreAnswered n texts asked said → IsTextAnswered (number_after n asked) text more reply
    → AreAnswered n (texts ++ text ∷ []) (asked ++ more) (said ++ reply)
answered_more [] n text asked more said reply so_far one = (
  more,
  [],
  reply,
  [],
  ap (λ l. l ++ more) so_far.0 ∙ sym (append-nil more),
  ap (λ l. l ++ reply) so_far.1 ∙ sym (append-nil reply),
  subst (λ a. IsTextAnswered (number_after n a) text more reply) so_far.0 one,
  (refl, refl),
)
answered_more (t ∷ ts) n text asked more said reply so_far one =
    let first = so_far.0 in
    let later = so_far.1 in
    let same = ap (number_after n) so_far.4 ∙ number_after_both first n later in (
      first,
      later ++ more,
      so_far.2,
      so_far.3 ++ reply,
      ap (λ l. l ++ more) so_far.4 ∙ append_assoc first later more,
      ap (λ l. l ++ reply) so_far.5 ∙ append_assoc so_far.2 so_far.3 reply,
      so_far.6,
      answered_more ts (number_after n first) text later more so_far.3 reply so_far.7 (subst (λ m. IsTextAnswered m text more reply) same one),
    )

-- Lines with some texts were answered, with what was asked and written; the next instant has this number, and `Reads` holds of the texts.
abbrev pub HasOperated : (List Asked → Type 0) → (List ℕ → Type 0) → ℕ → (List (List ℕ) → Type 0) → Type 0
HasOperated Asks Writes number Reads =
    (texts : List (List ℕ)) × (asked : List Asked) × (said : List ℕ) × Asks asked × Writes said × AreAnswered 0 texts asked said × (number ≡ number_after 0 asked) × Reads texts

-- one more line, after a flush
module _ (u v w : Option (List Asked)) (before old flushed : Option (List ℕ)) (n m : ℕ) (text : List ℕ) (Reads : List (List ℕ) → Type 0) (so_far : HasOperated (Adds u v) (Appends before old) n Reads)
    (kept : Keeps old flushed) where
  -- it was answered, and what was written is known to this extent
  pub operated_further : (Writes All : List ℕ → Type 0) → ((said reply : List ℕ) → Appends before flushed said → Writes reply → All (said ++ reply)) → HasReplied n m text (Adds v w) Writes
      → (asked : List Asked) × (said : List ℕ) × Adds u w asked × All said × AreAnswered 0 (so_far.0 ++ text ∷ []) asked said × (m ≡ number_after 0 asked)
  operated_further Writes All both one = (
    so_far.1 ++ one.0,
    so_far.2 ++ one.1,
    adds_both u v w so_far.1 one.0 so_far.3 one.2,
    both so_far.2 one.1 (Appends-kept before old flushed so_far.2 so_far.4 kept) one.3,
    answered_more so_far.0 0 text so_far.1 one.0 so_far.2 one.1 so_far.5 (subst (λ k. IsTextAnswered k text one.0 one.1) so_far.6 one.4),
    one.5 ∙ ap (λ k. number_after k one.0) so_far.6 ∙ sym (number_after_both so_far.1 0 one.0),
  )
