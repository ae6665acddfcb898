-- The answer to a step, and the host after it.
use Rattle.std.proofs.Common.{◌≡◌, ℕ, ◌-◌, ◌^◌, ◌<◌, ◌==◌, nat_lt, Bool, true, false, nat_eq, ℤ, List, [], ◌∷◌, ◌++◌, length, Some, None, Result, Ok, Err, OnOk, IfOk, reverse, append-nil, codes, refl, sym, ap, ◌∙◌, subst, arith}
use Rattle.std.proofs.lemmas.Bool.Decides.{nat_tests}
use Rattle.std.proofs.lemmas.Bool.{eqb-true, and_from}
use Rattle.std.specs.Fmt.{decimal}
use Rattle.std.specs.List.{starts_with}
use Rattle.std.specs.declared.alloc.AllocError.{AllocError}
use Rattle.rig_model.specs.declared.events.Event.{Event}
use Rattle.rig_model.specs.declared.events.Event.TheVariants.{Own, Tick}
use Rattle.rig_model.specs.declared.lines.commands.Command.{Command}
use Rattle.rig_model.specs.declared.lines.replies.Reply.{Reply}
use Rattle.rig_model.specs.declared.lines.replies.Reply.TheVariants.{Loaded, Replaced, Started, Stopped, Mode, Port, All, Trace, Offered, Unoffered, Bound, Unbound, Rows, Refused}
use Rattle.rig_model.specs.Host.{after_event, host_after}
use Rattle.rig_model.specs.HostState.{row_at}
use Rattle.host_core.specs.HostStanding.{ForEachState, HostStanding, Stands, TakesEvent, line_of}
use Rattle.rig_model.specs.LineValues.{value_of_line}
use Rattle.rig_model.specs.Legal.{next_tick, may_follow, is_legal}
use Rattle.rig_model.specs.Base.{Setting}
use Rattle.rig_model.specs.Views.{after_command, row_of}
use Rattle.rig_model.specs.config.Roster.{Rig, is_tenant, place_of}
use Rattle.rig_model.specs.lines.CommandLine.{command_of_line}
use Rattle.rig_model.specs.lines.Replies.{text_of_reply}
use Rattle.host_core.proofs.of_laws.AloneAlong.{same_rows}
use Rattle.host_core.proofs.of_laws.AloneAlong.{same_clock}
use Rattle.rig_script.proofs.cited.LineValues.{same_lines}
use Rattle.rig_model.specs.Answered.{reply_line}
use Rattle.rig_script.specs.cited.HostAnswers.{IsHostAfter}
use Rattle.rig_model.specs.Script.{Step, operator, lines_step, text_of_lines, tick_step, work_step, work_step_of, outstanding_at, tenant_step, only_answered}
use Rattle.rig_script.specs.inner.Script.{IsCarriedOut}
use Rattle.rig_script.specs.cited.Refusals.{is_refusal}
use Rattle.rig_script.specs.inner.Records.{IsRecorded}
use Rattle.rig_script.specs.inner.Refused.{IsAddressee, is_refused}

-- this text was the answer, the events were recorded, and they have happened
pub step_done : (step : Step) (past : List Event) (r : Result Bool AllocError) (Before After : List Event → Type 0) (Said : List ℕ → Type 0) (Stands : List Event → Type 0) (text : List ℕ)
    → OnOk r (Said text) → IfOk r (λ refused. refused ≡ is_refusal text) → text ≡ step.reply → IsRecorded Before After (reverse step.events) → Stands (step.events ++ past)
    → IsCarriedOut step past Before After r Said Stands
step_done step past (Ok refused) Before After Said Stands text given kind is told after = (subst Said is given, told, after, kind ∙ ap is_refusal is)
step_done step past (Err e) Before After Said Stands text given kind is told after = tt

-- whether it is a refusal, by another test
pub same_kind : (r : Result Bool AllocError) (a b : Bool) → a ≡ b → IfOk r (λ refused. refused ≡ a) → IfOk r (λ refused. refused ≡ b)
same_kind (Ok refused) a b is kind = kind ∙ is
same_kind (Err e) a b is kind = tt

-- the written reply is that of each state that the host represents
pub told_for_each : (Said : List ℕ → Type 0) (host : HostStanding) (t : ℕ) (command : Command) (name : List ℕ) (reply : Reply)
    → ForEachState host (λ setting state. reply ≡ (after_command setting t command (row_at state t)).reply) → Said (reply_line name (text_of_reply reply))
    → ForEachState host (λ setting state. Said (reply_line name (text_of_reply (after_command setting t command (row_at state t)).reply)))
told_for_each Said host t command name reply same given = λ setting state stands. subst (λ p. Said (reply_line name (text_of_reply p))) (same setting state stands) given

-- so is whether it is a refusal
pub refused_for_each : (host : HostStanding) (t : ℕ) (command : Command) (reply : Reply) (refused : Bool)
    → ForEachState host (λ setting state. reply ≡ (after_command setting t command (row_at state t)).reply) → refused ≡ is_refused reply
    → ForEachState host (λ setting state. refused ≡ is_refused (after_command setting t command (row_at state t)).reply)
refused_for_each host t command reply refused same is = λ setting state stands. is ∙ ap is_refused (same setting state stands)

-- a reply to a command is a refusal if it begins with `err `
refused_text : (reply : Reply) → is_refused reply ≡ starts_with nat_eq (text_of_reply reply ++ 10 ∷ []) (codes "err ")
refused_text Loaded = refl
refused_text Replaced = refl
refused_text Started = refl
refused_text Stopped = refl
refused_text (Mode s) = refl
refused_text (Port v) = refl
refused_text (All vs) = refl
refused_text (Trace rs) = refl
refused_text Offered = refl
refused_text Unoffered = refl
refused_text Bound = refl
refused_text Unbound = refl
refused_text (Rows rs) = refl
refused_text (Refused why) = refl

refused_reply : (name : List ℕ) (reply : Reply) → IsAddressee name → is_refused reply ≡ is_refusal (reply_line name (text_of_reply reply))
refused_reply name reply named = refused_text reply ∙ sym (ap (λ answer. starts_with nat_eq answer (codes "err ")) (named (text_of_reply reply ++ 10 ∷ [])))

-- what holds in any case
pub on_ok : (r : Result Bool AllocError) {P : Type 0} → P → OnOk r P
on_ok (Ok refused) h = h
on_ok (Err e) h = tt

-- nothing was recorded
pub none_told : (Told : List Event → Type 0) → IsRecorded Told Told []
none_told Told told h = subst Told (sym (append-nil told)) h

decided : (m n : ℕ) → ((m ≡ n → ⊥) → ⊥) → m ≡ n
decided m n h = by (m == n) refl
  where
    by : (b : Bool) → (m == n) ≡ b → m ≡ n
    by true e = eqb-true m n e
    by false e = absurd (h (λ same. grind (arith, nat_tests, e, same)))

differs : (m n : ℕ) → (m ≡ n → ⊥) → (m == n) ≡ false
differs m n h = by (m == n) refl
  where
    by : (b : Bool) → (m == n) ≡ b → (m == n) ≡ false
    by true e = absurd (h (eqb-true m n e))
    by false e = e

module _ (setting : Setting) (past : List Event) (host later : HostStanding) (h : IsHostAfter setting host past) (r : Result Bool AllocError) (Before After : List Event → Type 0) (Said : List ℕ → Type 0) where
  -- a command was carried out
  command_done : (t : ℕ) (name line : List ℕ) (command : Command) (reply : Reply) → t < length host.config.tenants → IsAddressee name → command_of_line line ≡ Some command
      → reply ≡ (after_command setting t command (row_at (host_after setting past) t)).reply → Stands setting later (after_event setting (host_after setting past) (Own t command))
      → OnOk r (Said (reply_line name (text_of_reply reply))) → IfOk r (λ refused. refused ≡ is_refused reply) → IsRecorded Before After (Own t command ∷ [])
      → IsCarriedOut (tenant_step setting past t name line) past Before After r Said (IsHostAfter setting later)
  command_done t name line command reply lt named spelled answered after given kind told =
      let same = h.stands.same_config in
      let within : t < length setting.config.tenants = subst (λ (c : Rig). t < length c.tenants) same lt in
      let is : is_tenant setting.config t ≡ true = grind (arith, nat_tests, within) in
      let row = same_rows setting h.base past t h.legal is in
      let step : Step = record { events = Own t command ∷ []; reply = reply_line name (text_of_reply (after_command setting t command (row_of setting past t)).reply) } in
      let steps : tenant_step setting past t name line ≡ step = rw spelled refl in
      subst (λ (s : Step). IsCarriedOut s past Before After r Said (IsHostAfter setting later)) (sym steps)
      (step_done step past r Before After Said (IsHostAfter setting later) (reply_line name (text_of_reply reply)) given (same_kind r _ _ (refused_reply name reply named) kind)
      (ap (λ p. reply_line name (text_of_reply p)) (answered ∙ ap (λ w. (after_command setting t command w).reply) row)) told
      (record { base = h.base; legal = and_from (is_tenant setting.config t) (is_legal setting past) is h.legal; stands = after }))

  -- a command was answered, or memory ran out
  pub command_answered : (t : ℕ) (name line : List ℕ) (command : Command) → t < length host.config.tenants → IsAddressee name → command_of_line line ≡ Some command
      → OnOk r (ForEachState host (λ setting state. Said (reply_line name (text_of_reply (after_command setting t command (row_at state t)).reply))))
      → IfOk r (λ refused. ForEachState host (λ setting state. refused ≡ is_refused (after_command setting t command (row_at state t)).reply))
      → OnOk r (TakesEvent (Own t command) host later) → IsRecorded Before After (Own t command ∷ []) → IsCarriedOut (tenant_step setting past t name line) past Before After r Said (IsHostAfter setting later)
  command_answered t name line command lt named spelled given kind step told = by r refl given kind step
    where
      by : (q : Result Bool AllocError) → r ≡ q
          → OnOk q (ForEachState host (λ setting state. Said (reply_line name (text_of_reply (after_command setting t command (row_at state t)).reply))))
          → IfOk q (λ refused. ForEachState host (λ setting state. refused ≡ is_refused (after_command setting t command (row_at state t)).reply))
          → OnOk q (TakesEvent (Own t command) host later) → IsCarriedOut (tenant_step setting past t name line) past Before After r Said (IsHostAfter setting later)
      by (Ok refused) is given kind step =
          let state = host_after setting past in
          let reply = (after_command setting t command (row_at state t)).reply in
          command_done t name line command reply lt named spelled refl (step setting state h.stands)
          (subst (λ q. OnOk q (Said (reply_line name (text_of_reply reply)))) (sym is) (given setting state h.stands))
          (subst (λ q. IfOk q (λ x. x ≡ is_refused reply)) (sym is) (kind setting state h.stands)) told
      by (Err e) is given kind step = subst (λ q. IsCarriedOut (tenant_step setting past t name line) past Before After q Said (IsHostAfter setting later)) (sym is) tt

  -- a line that is no command
  pub command_refused : (t : ℕ) (name line : List ℕ) → IsAddressee name → command_of_line line ≡ None → later ≡ host → OnOk r (Said (reply_line name (codes "err bad-command")))
      → IfOk r (λ refused. refused ≡ true) → IsRecorded Before After [] → IsCarriedOut (tenant_step setting past t name line) past Before After r Said (IsHostAfter setting later)
  command_refused t name line named spelled kept given kind told =
      let reply = reply_line name (codes "err bad-command") in
      let steps : tenant_step setting past t name line ≡ only_answered reply = rw spelled refl in
      let refused : true ≡ is_refusal reply = sym (ap (λ answer. starts_with nat_eq answer (codes "err ")) (named (codes "err bad-command\n"))) in
      subst (λ (s : Step). IsCarriedOut s past Before After r Said (IsHostAfter setting later)) (sym steps)
      (step_done (only_answered reply) past r Before After Said (IsHostAfter setting later) reply given (same_kind r _ _ refused kind) refl told (subst (λ s. IsHostAfter setting s past) (sym kept) h))

  -- a line of none of a script's forms
  pub operator_refused : later ≡ host → OnOk r (Said (reply_line operator (codes "err bad-command"))) → IfOk r (λ refused. refused ≡ true) → IsRecorded Before After []
      → IsCarriedOut (only_answered (reply_line operator (codes "err bad-command"))) past Before After r Said (IsHostAfter setting later)
  operator_refused kept given kind told =
      step_done (only_answered (reply_line operator (codes "err bad-command"))) past r Before After Said (IsHostAfter setting later) (reply_line operator (codes "err bad-command")) given kind refl told
      (subst (λ s. IsHostAfter setting s past) (sym kept) h)

  -- the reply has the values of the lines
  pub lines_told : later ≡ host → (text : List ℕ) → OnOk r (Said (reply_line operator text)) → IfOk r (λ refused. refused ≡ is_refusal (reply_line operator text)) → IsRecorded Before After [] → text ≡ codes "ok lines" ++ text_of_lines (line_of host) host.config.lines
      → IsCarriedOut (lines_step setting past) past Before After r Said (IsHostAfter setting later)
  lines_told kept text given kind none told =
      let same = h.stands.same_config in
      let values : text ≡ codes "ok lines" ++ text_of_lines (value_of_line setting.config (row_of setting past)) setting.config.lines =
      told ∙ ap (λ (c : Rig). codes "ok lines" ++ text_of_lines (line_of host) c.lines) same ∙ ap (λ ls. codes "ok lines" ++ ls) (same_lines setting h.base past h.legal host h.stands setting.config.lines) in
      step_done (lines_step setting past) past r Before After Said (IsHostAfter setting later) (reply_line operator text) given kind (ap (reply_line operator) values) none (subst (λ s. IsHostAfter setting s past) (sym kept) h)

  -- of a tenant of the roster
  pub tenant_found : (x : List ℕ) (t : ℕ) → place_of setting.config x ≡ Some t → IsCarriedOut (work_step (outstanding_at setting past t)) past Before After r Said (IsHostAfter setting later)
      → IsCarriedOut (work_step_of setting past x) past Before After r Said (IsHostAfter setting later)
  tenant_found x t is given =
      let steps : work_step_of setting past x ≡ work_step (outstanding_at setting past t) = rw is refl in
      subst (λ (s : Step). IsCarriedOut s past Before After r Said (IsHostAfter setting later)) (sym steps) given

  module _ (frame : List ℤ) where
    -- an instant happened
    pub tick_done : (n : ℕ) → n ≡ host.clock → n < 2 ^ 64 → ((length frame ≡ host.config.lines → ⊥) → ⊥) → ((length frame ≡ host.config.lines) × (host.clock ≡ 2 ^ 64 - 1) → ⊥)
        → Stands setting later (after_event setting (host_after setting past) (Tick frame))
        → OnOk r (Said (reply_line operator (codes "ok tick " ++ decimal n))) → IfOk r (λ refused. refused ≡ false) → IsRecorded Before After (Tick frame ∷ [])
        → IsCarriedOut (tick_step setting past frame) past Before After r Said (IsHostAfter setting later)
    tick_done n is fits whole goes_on after given kind told =
        let long : length frame ≡ host.config.lines = decided (length frame) host.config.lines whole in
        let lines : length frame ≡ setting.config.lines = long ∙ ap (λ (c : Rig). c.lines) h.stands.same_config in
        let next : n ≡ next_tick setting past = is ∙ h.stands.same_clock ∙ same_clock setting past in
        let last : n ≡ 2 ^ 64 - 1 → ⊥ = λ e. goes_on (long, sym is ∙ e) in
        let low : n < 2 ^ 64 - 1 = below n fits last in
        let lines_fit : (length frame == setting.config.lines) ≡ true = grind (arith, nat_tests, lines) in
        let clock_fits : nat_lt (next_tick setting past) (2 ^ 64 - 1) ≡ true = subst (λ k. nat_lt k (2 ^ 64 - 1) ≡ true) next (grind (arith, nat_tests, low)) in
        let step : Step = record { events = Tick frame ∷ []; reply = reply_line operator (codes "ok tick " ++ decimal (next_tick setting past)) } in
        let steps : tick_step setting past frame ≡ step = rw (lines_fit, clock_fits) refl in
        subst (λ (s : Step). IsCarriedOut s past Before After r Said (IsHostAfter setting later)) (sym steps)
        (step_done step past r Before After Said (IsHostAfter setting later) (reply_line operator (codes "ok tick " ++ decimal n)) given kind (ap (λ k. reply_line operator (codes "ok tick " ++ decimal k)) next) told
        (record { base = h.base; legal = and_from (may_follow setting past (Tick frame)) (is_legal setting past) (and_from _ _ lines_fit clock_fits) h.legal; stands = after }))
      where
        below : (n : ℕ) → n < 2 ^ 64 → (n ≡ 2 ^ 64 - 1 → ⊥) → n < 2 ^ 64 - 1
        below n lt other = omega (arith, lt, other)

    -- the frame has another length
    pub tick_refused : (length frame ≡ host.config.lines → ⊥) → later ≡ host
        → OnOk r (Said (reply_line operator (codes "err bad-frame"))) → IfOk r (λ refused. refused ≡ true) → IsRecorded Before After [] → IsCarriedOut (tick_step setting past frame) past Before After r Said (IsHostAfter setting later)
    tick_refused other kept given kind told =
        let differ : (length frame == setting.config.lines) ≡ false = differs (length frame) setting.config.lines (λ e. other (e ∙ sym (ap (λ (c : Rig). c.lines) h.stands.same_config))) in
        let step : Step = only_answered (reply_line operator (codes "err bad-frame")) in
        let steps : tick_step setting past frame ≡ step = rw differ refl in
        subst (λ (s : Step). IsCarriedOut s past Before After r Said (IsHostAfter setting later)) (sym steps)
        (step_done step past r Before After Said (IsHostAfter setting later) (reply_line operator (codes "err bad-frame")) given kind refl told (subst (λ s. IsHostAfter setting s past) (sym kept) h))

    -- the clock has ended
    pub tick_ended : length frame ≡ host.config.lines → host.clock ≡ 2 ^ 64 - 1 → later ≡ host
        → OnOk r (Said (reply_line operator (codes "err clock-ended"))) → IfOk r (λ refused. refused ≡ true) → IsRecorded Before After [] → IsCarriedOut (tick_step setting past frame) past Before After r Said (IsHostAfter setting later)
    tick_ended long ended kept given kind told =
        let lines : length frame ≡ setting.config.lines = long ∙ ap (λ (c : Rig). c.lines) h.stands.same_config in
        let next : next_tick setting past ≡ 2 ^ 64 - 1 = sym (h.stands.same_clock ∙ same_clock setting past) ∙ ended in
        let lines_fit : (length frame == setting.config.lines) ≡ true = grind (arith, nat_tests, lines) in
        let clock_ends : nat_lt (next_tick setting past) (2 ^ 64 - 1) ≡ false = subst (λ k. nat_lt k (2 ^ 64 - 1) ≡ false) (sym next) refl in
        let step : Step = only_answered (reply_line operator (codes "err clock-ended")) in
        let steps : tick_step setting past frame ≡ step = rw (lines_fit, clock_ends) refl in
        subst (λ (s : Step). IsCarriedOut s past Before After r Said (IsHostAfter setting later)) (sym steps)
        (step_done step past r Before After Said (IsHostAfter setting later) (reply_line operator (codes "err clock-ended")) given kind refl told (subst (λ s. IsHostAfter setting s past) (sym kept) h))
