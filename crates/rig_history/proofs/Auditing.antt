-- One more entry of a text that is audited.
use Rattle.std.proofs.Common.{◌≡◌, ℕ, ◌+◌, ◌-◌, ◌≤◌, Bool, true, false, cond, List, [], ◌∷◌, ◌++◌, Option, None, Some, filter, length, take, reverse, refl, sym, ap, subst, ◌∙◌, arith, append_assoc, length-append}
use Rattle.std.proofs.Math.Seq.{take-append_seam}
use Rattle.std.proofs.lemmas.List.{append-nil, reverse-append}
use Rattle.std.proofs.lemmas.List.Sums.{sum_by-cons}
use Rattle.host_core.specs.HostStanding.{HostStanding, Stands}
use Rattle.rig_history.specs.Audits.{IsHistoryText, calls_in, is_call_of}
use Rattle.rig_history.specs.Entries.{text_of_entry, text_of_log, tick_after}
use Rattle.rig_history.specs.inner.Auditing.{HasPlayed, HasRead, first_setting}
use Rattle.rig_model.specs.Base.{Setting, new_base}
use Rattle.rig_model.specs.Host.{after_event, host_after}
use Rattle.rig_model.specs.HostState.{HostState, is_awaited}
use Rattle.rig_model.specs.Logs.{Gives, event_of, events_of}
use Rattle.rig_model.specs.config.Roster.{Rig}
use Rattle.rig_model.specs.declared.logged.Logged.{Logged}
use Rattle.rig_model.specs.declared.logged.Logged.TheVariants as logged

-- the number of the next instant after some entries, given the one before them
abbrev ticks_after : ℕ → List Logged → ℕ
ticks_after tick [] = tick
ticks_after tick (e ∷ log) = ticks_after (tick_after tick e) log

ticks_on : (tick : ℕ) (log : List Logged) (e : Logged) → ticks_after tick (log ++ e ∷ []) ≡ tick_after (ticks_after tick log) e
ticks_on tick [] e = refl
ticks_on tick (d ∷ log) e = ticks_on (tick_after tick d) log e

text_on : (rig : Rig) (tick : ℕ) (log : List Logged) (e : Logged) → text_of_log rig tick (log ++ e ∷ []) ≡ text_of_log rig tick log ++ text_of_entry rig (ticks_after tick log) e
text_on rig tick [] e = append-nil (text_of_entry rig tick e)
text_on rig tick (d ∷ log) e =
    ap (λ text. text_of_entry rig tick d ++ text) (text_on rig (tick_after tick d) log e)
    ∙ sym (append_assoc (text_of_entry rig tick d) (text_of_log rig (tick_after tick d) log) (text_of_entry rig (ticks_after (tick_after tick d) log) e))

-- the clock of the host after an entry
clock_on : (setting : Setting) (state : HostState) (e : Logged) → (after_event setting state (event_of e)).clock ≡ tick_after state.clock e
clock_on setting state (logged.Call seat call) = refl
clock_on setting state (logged.Tick frame) = refl
clock_on setting state (logged.Done j) = by (is_awaited state j)
  where
    by : (b : Bool) → (cond b (record state { counted = j ∷ state.counted }) state).clock ≡ state.clock
    by true = refl
    by false = refl

turned : (past : List Logged) (e : Logged) → reverse (e ∷ past) ≡ reverse past ++ e ∷ []
turned past e = reverse-append (e ∷ []) past

clock_after : (rig : Rig) (first : ℕ) (log : List Logged) → (host_after (first_setting rig first) (events_of log)).clock ≡ ticks_after first (reverse log)
clock_after rig first [] = refl
clock_after rig first (e ∷ past) =
    clock_on (first_setting rig first) (host_after (first_setting rig first) (events_of past)) e
    ∙ (ap (λ n. tick_after n e) (clock_after rig first past)
    ∙ (sym (ticks_on first (reverse past) e) ∙ ap (ticks_after first) (sym (turned past e))))

pub some_text : (rig : Rig) (tick : ℕ) (e : Logged) → 1 ≤ length (text_of_entry rig tick e)
some_text rig tick (logged.Call seat call) = omega arith
some_text rig tick (logged.Tick frame) = omega arith
some_text rig tick (logged.Done j) = omega arith

few_calls : (e : Logged) → calls_in e ≤ 1
few_calls (logged.Call seat call) = omega arith
few_calls (logged.Tick frame) = omega arith
few_calls (logged.Done j) = omega arith

-- nothing is read yet
pub none_played : (rig : Rig) (first : ℕ) (tenant : Option ℕ) (host : HostStanding) (calls text : List ℕ) → Stands (first_setting rig first) host (new_base rig first) → calls ≡ []
    → HasPlayed rig first tenant host 0 0 calls text text
none_played rig first tenant host calls text stands none = record {
  log = [];
  replay = tt;
  reached = stands;
  spells = refl;
  as_many = refl;
  answered = refl;
  called = none;
  bound = omega arith;
  fewer = omega arith;
}

-- the text of a call doesn't depend on the number of the next instant
text_of_any : (rig : Rig) (tenant : Option ℕ) (tick other : ℕ) (e : Logged) → is_call_of tenant e ≡ true → text_of_entry rig tick e ≡ text_of_entry rig other e
text_of_any rig None tick other e is = absurd (cc)
text_of_any rig (Some t) tick other (logged.Call seat call) is = refl
text_of_any rig (Some t) tick other (logged.Tick frame) is = absurd (cc)
text_of_any rig (Some t) tick other (logged.Done j) is = absurd (cc)

-- one more entry, whose text is appended if it is a call of the tenant
called_on : (rig : Rig) (first : ℕ) (tenant : Option ℕ) (tick : ℕ) (e : Logged) (past : List Logged) (calls own : List ℕ) → own ≡ text_of_entry rig tick e
    → calls ≡ text_of_log rig first (reverse (filter (is_call_of tenant) past))
    → calls ++ cond (is_call_of tenant e) own [] ≡ text_of_log rig first (reverse (filter (is_call_of tenant) (e ∷ past)))
called_on rig first tenant tick e past calls own written called = by (is_call_of tenant e) refl
  where
    kept : List Logged
    kept = filter (is_call_of tenant) past

    by : (b : Bool) → is_call_of tenant e ≡ b → calls ++ cond b own [] ≡ text_of_log rig first (reverse (cond b (e ∷ kept) kept))
    by true is =
        ap (λ front. front ++ own) called
        ∙ (ap (λ text. text_of_log rig first (reverse kept) ++ text) (written ∙ text_of_any rig tenant tick (ticks_after first (reverse kept)) e is)
        ∙ (sym (text_on rig first (reverse kept) e) ∙ ap (text_of_log rig first) (sym (turned kept e))))
    by false is = append-nil calls ∙ called

-- the text after an entry is shorter
pub read_shorter : (rig : Rig) (before after : HostStanding) (e : Logged) (own text later : List ℕ) → HasRead rig before after e own text later → length later + 1 ≤ length text
read_shorter rig before after e own text later read =
    let some = subst (λ (o : List ℕ). 1 ≤ length o) (sym read.written) (some_text rig before.clock e) in
    let both = ap length read.spells ∙ length-append own later in
    omega (arith, some, both)

-- one more entry
pub played_on : (rig : Rig) (first : ℕ) (tenant : Option ℕ) (before after : HostStanding) (e : Logged) (entries replies one : ℕ) (calls more own text rest later : List ℕ)
    → HasPlayed rig first tenant before entries replies calls text rest → HasRead rig before after e own rest later → one ≡ calls_in e
    → more ≡ calls ++ cond (is_call_of tenant e) own [] → HasPlayed rig first tenant after (entries + 1) (replies + one) more text later
played_on rig first tenant before after e entries replies one calls more own text rest later played read counted added = record {
  log = e ∷ played.log;
  replay = (given.1, played.replay);
  reached = given.0;
  spells = all_text;
  as_many = (let n = played.as_many in omega (arith, n));
  answered = (let n = played.answered in let both = sum_by-cons calls_in e played.log in omega (arith, n, counted, both));
  called = added ∙ called_on rig first tenant before.clock e played.log calls own read.written played.called;
  bound = (let n = played.bound in let less = read_shorter rig before after e own rest later read in omega (arith, n, less));
  fewer = (let n = played.fewer in let few = few_calls e in omega (arith, n, counted, few));
}
  where
    state : HostState
    state = host_after (first_setting rig first) (events_of played.log)

    given : Stands (first_setting rig first) after (after_event (first_setting rig first) state (event_of e)) × Gives (first_setting rig first) state e
    given = read.given (first_setting rig first) state played.reached

    number : before.clock ≡ ticks_after first (reverse played.log)
    number = played.reached.same_clock ∙ clock_after rig first played.log

    all_text : text ≡ text_of_log rig first (reverse (e ∷ played.log)) ++ later
    all_text =
        played.spells
        ∙ (ap (λ back. text_of_log rig first (reverse played.log) ++ back) (read.spells ∙ ap (λ o. o ++ later) read.written)
        ∙ (sym (append_assoc (text_of_log rig first (reverse played.log)) (text_of_entry rig before.clock e) later)
        ∙ ap (λ front. front ++ later)
        (ap (λ n. text_of_log rig first (reverse played.log) ++ text_of_entry rig n e) number
        ∙ (sym (text_on rig first (reverse played.log) e) ∙ ap (text_of_log rig first) (sym (turned played.log e))))))

-- the text up to its rest is a history
pub history_of : (rig : Rig) (first : ℕ) (tenant : Option ℕ) (host : HostStanding) (entries replies : ℕ) (calls text rest : List ℕ) → HasPlayed rig first tenant host entries replies calls text rest
    → IsHistoryText rig first tenant entries replies calls (take (length text - length rest) text)
history_of rig first tenant host entries replies calls text rest played = record {
  log = played.log;
  replay = played.replay;
  spells = ap (λ n. take n text) many ∙ (ap (take (length front)) played.spells ∙ take-append_seam front rest);
  as_many = played.as_many;
  answered = played.answered;
  called = played.called;
}
  where
    front : List ℕ
    front = text_of_log rig first (reverse played.log)

    many : length text - length rest ≡ length front
    many = let both = ap length played.spells ∙ length-append front rest in omega (arith, both)

-- without a rest, that is the whole text
pub history_of_all : (rig : Rig) (first : ℕ) (tenant : Option ℕ) (host : HostStanding) (entries replies : ℕ) (calls text rest : List ℕ) → length rest ≡ 0
    → HasPlayed rig first tenant host entries replies calls text rest → IsHistoryText rig first tenant entries replies calls (take (length text) text)
history_of_all rig first tenant host entries replies calls text rest none played =
    subst (λ n. IsHistoryText rig first tenant entries replies calls (take n text)) (omega (arith, none)) (history_of rig first tenant host entries replies calls text rest played)
