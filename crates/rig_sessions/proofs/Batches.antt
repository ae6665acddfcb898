-- Lines that are answered together.
use Rattle.std.proofs.Common.{◌≡◌, ◌≢◌, ℕ, zero, suc, ◌+◌, ◌<◌, ◌≤◌, ◌⊎◌, List, [], ◌∷◌, ◌++◌, length, map, take, drop, Option, Some, None, Result, Err, OnErr, String, Global, string_bytes, get_or, refl, sym, ap, ◌∙◌, subst, inl, inr, append_assoc, append-nil, arith}
use Rattle.std.proofs.KnownBytes.{Appends-trans}
use Rattle.std.proofs.lemmas.List.{drop-take, map-append, take-append-drop, take-take, take_all, take_more}
use Rattle.std.proofs.Math.Seq.{drop-append_seam}
use Rattle.std.specs.Io.KnownBytes.{Appends}
use Rattle.locked_book.specs.Books.{AreCalled, PassValue, asked_by, asking}
use Rattle.locked_book.specs.declared.faults.DeskFault.{DeskFault}
use Rattle.locked_book.specs.declared.faults.DeskFault.TheVariants as desk
use Rattle.rig_model.specs.config.Roster.{Rig, greeted}
use Rattle.rig_model.specs.Sessions.{Outcome, Session, SessionLine, State, Step, ask, behind_step, blank, call, ended, form_step, hello, hello_step, no_memory, quit, replied, session_line_of, strange, stranger, tenant, text_of_outcome, text_step, untold, written}
use Rattle.rig_model.specs.declared.logged.Call.{Call}
use Rattle.rig_model.specs.declared.lines.commands.Command.{Command}
use Rattle.rig_sessions.specs.Talks.{outcome_of}
use Rattle.rig_sessions.specs.declared.faults.TalkFault.{TalkFault}
use Rattle.rig_sessions.specs.declared.faults.TalkFault.TheVariants.{Read, Write, Turns, Desk}
use Rattle.rig_sessions.specs.inner.Answered.{AreAnswered, AreTaken, AreTold, AreUnanswered, AreWaiting, IsAnswered, IsTaken, IsUnanswered, IsUnderWay, behind_texts}
use Rattle.rig_sessions.proofs.Answering.{called as a_call, refused_taken}

take_both : {A : Type 0} (m n : ℕ) (xs : List A) → take (m + n) xs ≡ take m xs ++ take n (drop m xs)
take_both m n xs =
    sym (take-append-drop m (take (m + n) xs)) ∙ ap (λ l. l ++ drop m (take (m + n) xs)) (take-take m (m + n) xs (omega arith)) ∙ ap (λ l. take m xs ++ l) (drop-take m n xs)

-- the new calls of a pass
pub calls_are : (old new : PassValue) (made calls : List Call) (before : ℕ) → new.calls ≡ old.calls ++ made → before ≡ length old.calls → calls ≡ drop before new.calls → calls ≡ made
calls_are old new made calls before added many are = are ∙ ap (λ n. drop n new.calls) many ∙ ap (λ l. drop (length old.calls) l) added ∙ drop-append_seam old.calls made

-- calls always have outcomes and a text
pub all_told : (made : List Call) → (os : List Outcome) × (said : List ℕ) × AreTold made os said
all_told [] = ([], [], (refl, refl))
all_told (k ∷ ks) =
    let rest = all_told ks in
    (replied k.reply ∷ rest.0, written (text_of_outcome (replied k.reply)) ++ rest.1, (replied k.reply, rest.0, rest.1, inl refl, refl, refl, rest.2))

-- one call more
pub told_more : (made : List Call) (os : List Outcome) (said : List ℕ) (k : Call) (o : Outcome) → AreTold made os said → (o ≡ replied k.reply) ⊎ (o ≡ untold k.reply)
    → AreTold (made ++ k ∷ []) (os ++ o ∷ []) (said ++ written (text_of_outcome o))
told_more [] os said k o told is = (o, [], [], is, ap (λ l. l ++ o ∷ []) told.0, ap (λ l. l ++ written (text_of_outcome o)) told.1 ∙ sym (append-nil (written (text_of_outcome o))), (refl, refl))
told_more (m ∷ ms) os said k o told is =
    let rest = told_more ms told.1 told.2 k o told.6 is in
    (told.0, told.1 ++ o ∷ [], told.2 ++ written (text_of_outcome o), told.3, ap (λ l. l ++ o ∷ []) told.4, ap (λ l. l ++ written (text_of_outcome o)) told.5 ∙ append_assoc (written (text_of_outcome told.0)) told.2 (written (text_of_outcome o)), rest)

-- the texts of lines, at one of them
pub texts_at : (lines : List (String Global)) (i : ℕ) (line : String Global) (text : List ℕ) → line ≡ get_or lines i line → i < length lines → text ≡ string_bytes line
    → (map string_bytes (take i lines) ++ text ∷ []) ++ map string_bytes (drop (i + 1) lines) ≡ map string_bytes lines
texts_at lines i line text is within same =
    ap (λ t. (map string_bytes (take i lines) ++ t ∷ []) ++ map string_bytes (drop (i + 1) lines)) same
    ∙ ap (λ l. l ++ map string_bytes (drop (i + 1) lines)) (sym (map-append string_bytes (take i lines) (line ∷ [])))
    ∙ ap (λ (l : List (String Global)). map string_bytes l ++ map string_bytes (drop (i + 1) lines)) (sym (take_more lines i line within ∙ ap (λ (x : String Global). take i lines ++ x ∷ []) (sym is)))
    ∙ sym (map-append string_bytes (take (i + 1) lines) (drop (i + 1) lines)) ∙ ap (map string_bytes) (take-append-drop (i + 1) lines)

module _ (config : Rig) where
  pub texts_both : (s : Session) (xs ys : List (List ℕ)) → behind_texts config s (xs ++ ys) ≡ behind_texts config (behind_texts config s xs) ys
  texts_both s [] ys = refl
  texts_both s (x ∷ xs) ys = texts_both (behind_step s (text_step config s.state x)) xs ys

  -- no texts
  abbrev pub none_taken : (s : State) (old : PassValue) → AreTaken config s [] s old old
  none_taken s old = record {
    given = [];
    made = [];
    said = [];
    takes = λ later calls text. (let a = sym (append-nil calls) in let b = sym (append-nil text) in λ i. record { state = s; outcomes = later; calls = a i; text = b i });
    pass = sym (append-nil old.calls);
  }

  abbrev pub one_taken : (s t : State) (x : List ℕ) (old new : PassValue) → IsTaken (text_step config s x) t old new → AreTaken config s (x ∷ []) t old new
  one_taken s t x old new taken = record {
    given = taken.given;
    made = taken.made;
    said = taken.said;
    takes = λ later calls text. taken.takes s later calls text;
    pass = taken.pass;
  }

  -- some texts, and others after them
  abbrev pub both_taken : (a b c : State) (xs ys : List (List ℕ)) (old mid new : PassValue) → AreTaken config a xs b old mid → AreTaken config b ys c mid new → AreTaken config a (xs ++ ys) c old new
  both_taken a b c xs ys old mid new one other = record {
    given = one.given ++ other.given;
    made = one.made ++ other.made;
    said = one.said ++ other.said;
    takes = λ later calls text.
        (let now : List Outcome → Session = λ os. record { state = a; outcomes = os; calls = calls; text = text } in
        let p = append_assoc calls one.made other.made in
        let q = append_assoc text one.said other.said in
        ap (λ os. behind_texts config (now os) (xs ++ ys)) (append_assoc one.given other.given later)
        ∙ texts_both (now (one.given ++ (other.given ++ later))) xs ys
        ∙ ap (λ s. behind_texts config s ys) (one.takes (other.given ++ later) calls text)
        ∙ other.takes later (calls ++ one.made) (text ++ one.said)
        ∙ (λ i. record { state = c; outcomes = later; calls = p i; text = q i }));
    pass = other.pass ∙ ap (λ l. l ++ other.made) one.pass ∙ append_assoc old.calls one.made other.made;
  }

  pub ended_texts : (xs : List (List ℕ)) (os : List Outcome) (calls : List Call) (text : List ℕ)
      → behind_texts config (record { state = ended; outcomes = os; calls = calls; text = text }) xs ≡ record { state = ended; outcomes = os; calls = calls; text = text }
  ended_texts [] os calls text = refl
  ended_texts (x ∷ xs) os calls text = ended_texts xs os calls text

  -- texts after the end
  abbrev pub ended_taken : (xs : List (List ℕ)) (old : PassValue) → AreTaken config ended xs ended old old
  ended_taken xs old = record {
    given = [];
    made = [];
    said = [];
    takes = λ later calls text. (let a = sym (append-nil calls) in let b = sym (append-nil text) in ended_texts xs later calls text ∙ (λ i. record { state = ended; outcomes = later; calls = a i; text = b i }));
    pass = sym (append-nil old.calls);
  }

  -- some texts were answered, and not all of those after them
  pub unanswered_behind : (a b : State) (xs ys : List (List ℕ)) (old mid new : PassValue) (fault : TalkFault) → AreTaken config a xs b old mid → AreUnanswered config b ys mid new fault → AreUnanswered config a (xs ++ ys) old new fault
  unanswered_behind a b xs ys old mid new Read one other = absurd other
  unanswered_behind a b xs ys old mid new Turns one other = absurd other
  unanswered_behind a b xs ys old mid new Write one other =
      (xs ++ other.0, other.1, ap (λ l. xs ++ l) other.2 ∙ sym (append_assoc xs other.0 other.1), other.3, both_taken a b other.3 xs other.0 old mid new one other.4)
  unanswered_behind a b xs ys old mid new (Desk f) one other =
      (both_taken a b ended xs ys old mid new one other.0, one.given ++ other.1, ap (λ l. one.given ++ l) other.2 ∙ sym (append_assoc one.given other.1 (outcome_of f ∷ [])), other.3)

  -- and further texts after those
  pub unanswered_before : (a : State) (xs ys : List (List ℕ)) (old new : PassValue) (fault : TalkFault) → AreUnanswered config a xs old new fault → AreUnanswered config a (xs ++ ys) old new fault
  unanswered_before a xs ys old new Read other = other
  unanswered_before a xs ys old new Turns other = other
  unanswered_before a xs ys old new Write other = (other.0, other.1 ++ ys, ap (λ l. l ++ ys) other.2 ∙ append_assoc other.0 other.1 ys, other.3, other.4)
  unanswered_before a xs ys old new (Desk f) other = (
    both_taken a ended ended xs ys old new new other.0 (ended_taken ys new),
    other.1,
    append-nil other.0.given ∙ other.2,
    other.3,
  )

  -- only the greeted tenant makes a call, and stays greeted
  hello_asks_none : (found : Option ℕ) (s u : State) (t : ℕ) (c : Command) → hello_step config found ≡ record { act = call t c; state = u } → (s ≡ tenant t) × (u ≡ s)
  hello_asks_none None s u t c e = let wrong = ap (λ (x : Step). x.act) e in absurd (cc)
  hello_asks_none (Some n) s u t c e = let wrong = ap (λ (x : Step). x.act) e in absurd (cc)

  asks_by : (s u : State) (t : ℕ) (c : Command) (found : Option SessionLine) → form_step config s found ≡ record { act = call t c; state = u } → (s ≡ tenant t) × (u ≡ s)
  asks_by ended u t c found e = let wrong = ap (λ (x : Step). x.act) e in absurd (cc)
  asks_by stranger u t c None e = let wrong = ap (λ (x : Step). x.act) e in absurd (cc)
  asks_by stranger u t c (Some blank) e = let wrong = ap (λ (x : Step). x.act) e in absurd (cc)
  asks_by stranger u t c (Some (hello x key)) e = hello_asks_none (greeted config x key) stranger u t c e
  asks_by stranger u t c (Some quit) e = let wrong = ap (λ (x : Step). x.act) e in absurd (cc)
  asks_by stranger u t c (Some (ask d)) e = let wrong = ap (λ (x : Step). x.act) e in absurd (cc)
  asks_by (tenant v) u t c None e = let wrong = ap (λ (x : Step). x.act) e in absurd (cc)
  asks_by (tenant v) u t c (Some blank) e = let wrong = ap (λ (x : Step). x.act) e in absurd (cc)
  asks_by (tenant v) u t c (Some (hello x key)) e = let wrong = ap (λ (x : Step). x.act) e in absurd (cc)
  asks_by (tenant v) u t c (Some quit) e = let wrong = ap (λ (x : Step). x.act) e in absurd (cc)
  asks_by (tenant v) u t c (Some (ask d)) e =
      let acts = ap (λ (x : Step). x.act) e in
      let same : v ≡ t = cc in
      (ap tenant same, sym (ap (λ (x : Step). x.state) e))

  pub asks : (s u : State) (t : ℕ) (c : Command) (x : List ℕ) → text_step config s x ≡ record { act = call t c; state = u } → (s ≡ tenant t) × (u ≡ s)
  asks s u t c x e = asks_by s u t c (session_line_of x) e

  -- one more text that waits
  pub one_more_waits : (s : State) (t v : ℕ) (xs : List (List ℕ)) (cs : List Command) (x : List ℕ) (c : Command) → s ≡ tenant v → text_step config s x ≡ record { act = call v c; state = s }
      → AreWaiting config s t xs cs → AreWaiting config s v (xs ++ x ∷ []) (cs ++ c ∷ [])
  one_more_waits s t v [] [] x c is asked waits = (is, asked, tt)
  one_more_waits s t v [] (d ∷ ds) x c is asked waits = absurd waits
  one_more_waits s t v (y ∷ ys) [] x c is asked waits = absurd waits
  one_more_waits s t v (y ∷ ys) (d ∷ ds) x c is asked waits =
      let other = waits.0 in
      let same : t ≡ v = cc in
      (is, subst (λ n. text_step config s y ≡ record { act = call n d; state = s }) same waits.1, one_more_waits s t v ys ds x c is asked waits.2)

  pub as_many_wait : (s : State) (t : ℕ) (xs : List (List ℕ)) (cs : List Command) → AreWaiting config s t xs cs → length xs ≡ length cs
  as_many_wait s t [] [] waits = refl
  as_many_wait s t [] (d ∷ ds) waits = absurd waits
  as_many_wait s t (y ∷ ys) [] waits = absurd waits
  as_many_wait s t (y ∷ ys) (d ∷ ds) waits = ap suc (as_many_wait s t ys ds waits.2)

  pub others_wait : (n : ℕ) (s : State) (t : ℕ) (xs : List (List ℕ)) (cs : List Command) → AreWaiting config s t xs cs → AreWaiting config s t (drop n xs) (drop n cs)
  others_wait zero s t xs cs waits = waits
  others_wait (suc n) s t [] [] waits = tt
  others_wait (suc n) s t [] (d ∷ ds) waits = absurd waits
  others_wait (suc n) s t (y ∷ ys) [] waits = absurd waits
  others_wait (suc n) s t (y ∷ ys) (d ∷ ds) waits = others_wait n s t ys ds waits.2

  -- a text that waits, and the texts before and after it
  abbrev pub WaitsAt : State → ℕ → List (List ℕ) → ℕ → Type 0
  WaitsAt s t xs n =
      (x : List ℕ) × (rest : List (List ℕ)) × (c : Command) × (xs ≡ take n xs ++ x ∷ rest) × (take (suc n) xs ≡ take n xs ++ x ∷ []) × (text_step config s x ≡ record { act = call t c; state = s })

  pub waits_at : (n : ℕ) (s : State) (t : ℕ) (xs : List (List ℕ)) (cs : List Command) → AreWaiting config s t xs cs → n < length cs → WaitsAt s t xs n
  waits_at n s t [] [] waits less = absurd (omega (arith, less))
  waits_at n s t [] (d ∷ ds) waits less = absurd waits
  waits_at n s t (y ∷ ys) [] waits less = absurd waits
  waits_at zero s t (y ∷ ys) (d ∷ ds) waits less = (y, ys, d, refl, refl, waits.1)
  waits_at (suc n) s t (y ∷ ys) (d ∷ ds) waits less =
      let on = waits_at n s t ys ds waits.2 (omega (arith, less)) in
      (on.0, on.1, on.2, ap (λ l. y ∷ l) on.3, ap (λ l. y ∷ l) on.4, on.5)

  -- the calls of texts that waited, whether their replies were written or not
  pub told_texts : (s : State) (t : ℕ) (xs : List (List ℕ)) (cs : List Command) (made : List Call) (os : List Outcome) (said : List ℕ) → AreWaiting config s t xs cs
      → map asked_by made ≡ map (asking t) (take (length made) cs) → AreTold made os said
      → (later : List Outcome) (calls : List Call) (text : List ℕ)
      → behind_texts config (record { state = s; outcomes = os ++ later; calls = calls; text = text }) (take (length made) xs) ≡ record { state = s; outcomes = later; calls = calls ++ made; text = text ++ said }
  told_texts s t xs cs [] os said waits asked told later calls text =
      (let a = sym (append-nil calls) in let b = sym (append-nil text) in
      rw (told.0, told.1) (λ i. record { state = s; outcomes = later; calls = a i; text = b i }))
  told_texts s t [] [] (k ∷ ks) os said waits asked told later calls text = absurd (cc)
  told_texts s t [] (d ∷ ds) (k ∷ ks) os said waits asked told later calls text = absurd waits
  told_texts s t (y ∷ ys) [] (k ∷ ks) os said waits asked told later calls text = absurd waits
  told_texts s t (y ∷ ys) (d ∷ ds) (k ∷ ks) os said waits asked told later calls text =
      let o = told.0 in
      let head : asked_by k ≡ asking t d = cc in
      let tail : map asked_by ks ≡ map (asking t) (take (length ks) ds) = cc in
      let call_is : record { tenant = t; command = d; reply = k.reply } ≡ k = (λ i. record { tenant = (sym head i).0; command = (sym head i).1; reply = k.reply }) in
      let first : behind_step (record { state = s; outcomes = o ∷ (told.1 ++ later); calls = calls; text = text }) (record { act = call t d; state = s })
      ≡ record { state = s; outcomes = told.1 ++ later; calls = calls ++ k ∷ []; text = text ++ written (text_of_outcome o) } =
      (elim told.3 [
        | inl is ↦ rw is (ap (λ (x : Call). record { state = s; outcomes = told.1 ++ later; calls = calls ++ x ∷ []; text = text ++ written (text_of_outcome (replied k.reply)) }) call_is)
        | inr is ↦ rw is (ap (λ (x : Call). record { state = s; outcomes = told.1 ++ later; calls = calls ++ x ∷ []; text = text ++ written (text_of_outcome (untold k.reply)) }) call_is)
      ]) in
      let rest = told_texts s t ys ds ks told.1 told.2 waits.2 tail told.6 later (calls ++ k ∷ []) (text ++ written (text_of_outcome o)) in
      let p = append_assoc calls (k ∷ []) ks in
      let q = append_assoc text (written (text_of_outcome o)) told.2 in
      ap (λ l. behind_texts config (record { state = s; outcomes = l ++ later; calls = calls; text = text }) (y ∷ take (length ks) ys)) told.4
      ∙ ap (λ (x : Step). behind_texts config (behind_step (record { state = s; outcomes = o ∷ (told.1 ++ later); calls = calls; text = text }) x) (take (length ks) ys)) waits.1
      ∙ ap (λ (x : Session). behind_texts config x (take (length ks) ys)) first
      ∙ rest
      ∙ (λ i. record { state = s; outcomes = later; calls = p i; text = q i })
      ∙ ap (λ l. record { state = s; outcomes = later; calls = calls ++ k ∷ ks; text = text ++ l }) (sym told.5)

  -- the same of calls that were made together
  abbrev pub calls_taken : (s : State) (t : ℕ) (xs : List (List ℕ)) (cs : List Command) (r : Result Unit DeskFault) (old new : PassValue) (called : AreCalled t cs r old new) (made : List Call) → made ≡ called.made
      → (os : List Outcome) (said : List ℕ) → AreTold made os said → AreWaiting config s t xs cs → AreTaken config s (take (length made) xs) s old new
  calls_taken s t xs cs r old new called made same os said told waits = record {
    given = os;
    made = made;
    said = said;
    takes = told_texts s t xs cs made os said waits (subst (λ (m : List Call). map asked_by m ≡ map (asking t) (take (length m) cs)) (sym same) called.asked) told;
    pass = called.calls ∙ ap (λ l. old.calls ++ l) (sym same);
  }

  fewer_called : (t : ℕ) (cs : List Command) (fault : DeskFault) (old new : PassValue) (r : Result Unit DeskFault) → r ≡ Err fault → (called : AreCalled t cs r old new) (made : List Call) → made ≡ called.made → length made < length cs
  fewer_called t cs fault old new r is called made same =
      subst (λ (m : List Call). length m < length cs) (sym same) (subst (λ (x : Result Unit DeskFault). OnErr x (length called.made < length cs)) is called.fewer)

  -- a call after them found no memory
  pub memory_behind : (s : State) (t : ℕ) (xs : List (List ℕ)) (cs : List Command) (r : Result Unit DeskFault) (old new : PassValue) → r ≡ Err desk.Memory → (called : AreCalled t cs r old new) (made : List Call) → made ≡ called.made
      → (os : List Outcome) (said : List ℕ) → AreTold made os said → AreWaiting config s t xs cs → (w v z : Option (List ℕ)) → Appends w v said → Appends v z (written (text_of_outcome no_memory))
      → AreAnswered config s (take (length made + 1) xs) s old new (Appends w z)
  memory_behind s t xs cs r old new is called made same os said told waits w v z one other =
      let n = length made in
      let at = waits_at n s t xs cs waits (fewer_called t cs desk.Memory old new r is called made same) in
      let more : n + 1 ≡ suc n = omega arith in
      let here : (k : IsTaken (text_step config s at.0) s new new) × Appends v z k.said =
      subst (λ (x : Step). (k : IsTaken x s new new) × Appends v z k.said) (sym at.5) (a_call t at.2 no_memory s new new (sym (append-nil new.calls)), other) in
      let both = both_taken s s s (take n xs) (at.0 ∷ []) old new new (calls_taken s t xs cs r old new called made same os said told waits) (one_taken s s at.0 new new here.0) in
      subst (λ l. AreAnswered config s l s old new (Appends w z)) (sym (ap (λ m. take m xs) more ∙ at.4))
      (both, Appends-trans w v z said here.0.said one here.1)

  -- a call after them was refused, and the session ended
  pub refused_behind : (f : DeskFault) → f ≢ desk.Memory → (s : State) (t : ℕ) (xs : List (List ℕ)) (cs : List Command) (r : Result Unit DeskFault) (old new : PassValue) → r ≡ Err f → (called : AreCalled t cs r old new) (made : List Call)
      → made ≡ called.made → (os : List Outcome) (said : List ℕ) → AreTold made os said → AreWaiting config s t xs cs → AreUnanswered config s xs old new (Desk f)
  refused_behind f other s t xs cs r old new is called made same os said told waits =
      let n = length made in
      let at = waits_at n s t xs cs waits (fewer_called t cs f old new r is called made same) in
      let refused = refused_taken f other t at.2 s new new refl in
      let here : (k : IsTaken (text_step config s at.0) ended new new) × (k.given ≡ outcome_of f ∷ []) =
      subst (λ (x : Step). (k : IsTaken x ended new new) × (k.given ≡ outcome_of f ∷ [])) (sym at.5) (refused.0, refused.1) in
      let before = calls_taken s t xs cs r old new called made same os said told waits in
      let down = both_taken s s ended (take n xs) (at.0 ∷ []) old new new before (one_taken s ended at.0 new new here.0) in
      let all = both_taken s ended ended (take n xs ++ at.0 ∷ []) at.1 old new new down (ended_taken at.1 new) in
      subst (λ l. AreUnanswered config s l old new (Desk f)) (append_assoc (take n xs) (at.0 ∷ []) at.1 ∙ sym at.3)
      (all, os, append-nil (os ++ here.0.given) ∙ ap (λ l. os ++ l) here.1, other)

  -- their replies couldn't be written
  pub unwritten_behind : (s : State) (t : ℕ) (xs : List (List ℕ)) (cs : List Command) (r : Result Unit DeskFault) (old new : PassValue) (called : AreCalled t cs r old new) (made : List Call) → made ≡ called.made
      → AreWaiting config s t xs cs → AreUnanswered config s xs old new Write
  unwritten_behind s t xs cs r old new called made same waits =
      let told = all_told made in
      (take (length made) xs, drop (length made) xs, sym (take-append-drop (length made) xs), s, calls_taken s t xs cs r old new called made same told.0 told.1 told.2 waits)

  -- further calls of texts that waited
  pub further_answered : (s : State) (xs : List (List ℕ)) (at n : ℕ) (old mid new : PassValue) (w v z : Option (List ℕ)) → AreAnswered config s (take at xs) s old mid (Appends w v) → AreAnswered config s (take n (drop at xs)) s mid new (Appends v z)
      → AreAnswered config s (take (at + n) xs) s old new (Appends w z)
  further_answered s xs at n old mid new w v z one other =
      subst (λ l. AreAnswered config s l s old new (Appends w z)) (sym (take_both at n xs))
      (both_taken s s s (take at xs) (take n (drop at xs)) old mid new one.0 other.0, Appends-trans w v z one.0.said other.0.said one.1 other.1)

  pub further_unanswered : (s : State) (xs : List (List ℕ)) (at : ℕ) (old mid new : PassValue) (Written : List ℕ → Type 0) (fault : TalkFault) → AreAnswered config s (take at xs) s old mid Written → AreUnanswered config s (drop at xs) mid new fault
      → AreUnanswered config s xs old new fault
  further_unanswered s xs at old mid new Written fault one other =
      subst (λ l. AreUnanswered config s l old new fault) (take-append-drop at xs) (unanswered_behind s s (take at xs) (drop at xs) old mid new fault one.0 other)

  pub all_answered : (s : State) (t : ℕ) (xs : List (List ℕ)) (cs : List Command) (at : ℕ) (old new : PassValue) (Written : List ℕ → Type 0) → AreWaiting config s t xs cs → length cs ≤ at → AreAnswered config s (take at xs) s old new Written → AreAnswered config s xs s old new Written
  all_answered s t xs cs at old new Written waits all done =
      let many = as_many_wait s t xs cs waits in
      subst (λ l. AreAnswered config s l s old new Written) (take_all at xs (omega (arith, many, all))) done

  -- a text that is answered by itself, after those that waited
  pub one_behind : (from s u : State) (texts : List (List ℕ)) (t : ℕ) (waiting : List Command) (old mid now new : PassValue) (w v z y : Option (List ℕ)) (x : List ℕ) → IsUnderWay config from texts s t waiting old mid (Appends w v)
      → ((xs : List (List ℕ)) → AreWaiting config s t xs waiting → AreAnswered config s xs s mid now (Appends v z)) → IsAnswered (text_step config s x) u now new (Appends z y) → (v2 : ℕ) (rest : List Command) → rest ≡ []
      → IsUnderWay config from (texts ++ x ∷ []) u v2 rest old new (Appends w y)
  one_behind from s u texts t waiting old mid now new w v z y x on called done v2 rest none =
      let back = called on.back on.waits in
      let front = both_taken from s s on.front on.back old mid now on.answered.0 back.0 in
      record {
        front = (on.front ++ on.back) ++ x ∷ [];
        back = [];
        split = ap (λ l. l ++ x ∷ []) on.split ∙ sym (append-nil ((on.front ++ on.back) ++ x ∷ []));
        answered = (
          both_taken from s u (on.front ++ on.back) (x ∷ []) old now new front (one_taken s u x now new done.0),
          Appends-trans w z y (on.answered.0.said ++ back.0.said) done.0.said (Appends-trans w v z on.answered.0.said back.0.said on.answered.1 back.1) done.1,
        );
        waits = rw none tt;
      }

  one_failed : (s : State) (x : List ℕ) (old new : PassValue) (fault : TalkFault) → IsUnanswered (text_step config s x) old new fault → AreUnanswered config s (x ∷ []) old new fault
  one_failed s x old new Read failed = absurd failed
  one_failed s x old new Turns failed = absurd failed
  one_failed s x old new Write failed = (x ∷ [], [], refl, failed.0, one_taken s failed.0 x old new failed.1)
  one_failed s x old new (Desk f) failed = (one_taken s ended x old new failed.0, [], failed.1, failed.2)

  -- a text that isn't answered
  pub one_unanswered : (from s : State) (texts : List (List ℕ)) (t : ℕ) (waiting : List Command) (old mid now new : PassValue) (Before Behind : List ℕ → Type 0) (x : List ℕ) (fault : TalkFault) → IsUnderWay config from texts s t waiting old mid Before
      → ((xs : List (List ℕ)) → AreWaiting config s t xs waiting → AreAnswered config s xs s mid now Behind) → IsUnanswered (text_step config s x) now new fault → AreUnanswered config from (texts ++ x ∷ []) old new fault
  one_unanswered from s texts t waiting old mid now new Before Behind x fault on called failed =
      let back = called on.back on.waits in
      let front = both_taken from s s on.front on.back old mid now on.answered.0 back.0 in
      subst (λ l. AreUnanswered config from (l ++ x ∷ []) old new fault) (sym on.split)
      (unanswered_behind from s (on.front ++ on.back) (x ∷ []) old now new fault front (one_failed s x now new fault failed))

  -- not all texts that waited were answered
  pub waiting_unanswered : (from s : State) (texts : List (List ℕ)) (t : ℕ) (waiting : List Command) (old mid new : PassValue) (Before : List ℕ → Type 0) (x : List (List ℕ)) (fault : TalkFault) → IsUnderWay config from texts s t waiting old mid Before
      → ((xs : List (List ℕ)) → AreWaiting config s t xs waiting → AreUnanswered config s xs mid new fault) → AreUnanswered config from (texts ++ x) old new fault
  waiting_unanswered from s texts t waiting old mid new Before x fault on called =
      subst (λ l. AreUnanswered config from (l ++ x) old new fault) (sym on.split)
      (unanswered_before from (on.front ++ on.back) x old new fault (unanswered_behind from s on.front on.back old mid new fault on.answered.0 (called on.back on.waits)))

  -- not all texts that waited were answered, or the bytes after them weren't written
  pub answered_or_not : (from s : State) (texts : List (List ℕ)) (t : ℕ) (waiting : List Command) (old mid new : PassValue) (Before : List ℕ → Type 0) (x : List ℕ) (fault : TalkFault) → IsUnderWay config from texts s t waiting old mid Before
      → ((xs : List (List ℕ)) → AreWaiting config s t xs waiting → ((fault ≡ Write) × AreTaken config s xs s mid new) ⊎ AreUnanswered config s xs mid new fault) → AreUnanswered config from (texts ++ x ∷ []) old new fault
  answered_or_not from s texts t waiting old mid new Before x fault on called = elim (called on.back on.waits) [
    | inl p ↦ subst (AreUnanswered config from (texts ++ x ∷ []) old new) (sym p.0)
        (texts, x ∷ [], refl, s, subst (λ l. AreTaken config from l s old new) (sym on.split) (both_taken from s s on.front on.back old mid new on.answered.0 p.1))
    | inr failed ↦ subst (λ l. AreUnanswered config from (l ++ x ∷ []) old new fault) (sym on.split)
        (unanswered_before from (on.front ++ on.back) (x ∷ []) old new fault (unanswered_behind from s on.front on.back old mid new fault on.answered.0 failed))
  ]

  -- one more text waits
  pub one_waits : (from s u : State) (texts : List (List ℕ)) (t v : ℕ) (waiting more : List Command) (old mid : PassValue) (Written : List ℕ → Type 0) (x : List ℕ) (c : Command) → IsUnderWay config from texts s t waiting old mid Written
      → text_step config s x ≡ record { act = call v c; state = u } → more ≡ waiting ++ c ∷ [] → IsUnderWay config from (texts ++ x ∷ []) u v more old mid Written
  one_waits from s u texts t v waiting more old mid Written x c on asked added =
      let who = asks s u v c x asked in
      let here : text_step config s x ≡ record { act = call v c; state = s } = asked ∙ ap (λ y. record { act = call v c; state = y }) who.1 in
      let all = one_more_waits s t v on.back waiting x c who.0 here on.waits in
      subst (λ y. IsUnderWay config from (texts ++ x ∷ []) y v more old mid Written) (sym who.1)
      (record {
        front = on.front;
        back = on.back ++ x ∷ [];
        split = ap (λ l. l ++ x ∷ []) on.split ∙ append_assoc on.front on.back (x ∷ []);
        answered = on.answered;
        waits = subst (AreWaiting config s v (on.back ++ x ∷ [])) (sym added) all;
      })

  pub nothing_waits : (from s : State) (texts : List (List ℕ)) (t : ℕ) (waiting : List Command) (old mid new : PassValue) (w v z : Option (List ℕ)) → IsUnderWay config from texts s t waiting old mid (Appends w v)
      → ((xs : List (List ℕ)) → AreWaiting config s t xs waiting → AreAnswered config s xs s mid new (Appends v z)) → AreAnswered config from texts s old new (Appends w z)
  nothing_waits from s texts t waiting old mid new w v z on called =
      let back = called on.back on.waits in
      subst (λ l. AreAnswered config from l s old new (Appends w z)) (sym on.split)
      (both_taken from s s on.front on.back old mid new on.answered.0 back.0, Appends-trans w v z on.answered.0.said back.0.said on.answered.1 back.1)
