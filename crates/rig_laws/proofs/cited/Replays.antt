-- The log that a host gives is legal, and answers each tenant as the model does.
use Rattle.std.proofs.Common.{◌≡◌, ℕ, ◌<◌, Bool, true, false, cond, ◌||◌, eqb, List, [], ◌∷◌, ◌++◌, length, refl, sym, ap, ◌∙◌, subst, arith, ⊎_elim}
use Rattle.std.proofs.lemmas.Bool.{and_parts, and_from, eqb-true, eq-eqb, cases_lt}
use Rattle.std.proofs.lemmas.Bool.Decides.{nat_tests}
use Rattle.std.proofs.Math.ListN.{get_or-eq_default}
use Rattle.rig_model.specs.config.Roster.{is_tenant}
use Rattle.rig_model.specs.lines.Replies.{text_of_reply}
use Rattle.rig_model.specs.declared.lines.replies.Reply.{Reply}
use Rattle.rig_model.specs.Answers.{answers_of, answers_along}
use Rattle.rig_model.specs.Base.{IsBase, Setting}
use Rattle.rig_model.specs.Host.{host_after}
use Rattle.rig_model.specs.HostState.{HostState, row_at, is_awaited}
use Rattle.rig_model.specs.Jobs.{is_active}
use Rattle.rig_model.specs.Legal.{was_released, may_follow, is_legal, counts}
use Rattle.rig_model.specs.Row.{Row, empty_row}
use Rattle.rig_model.specs.Sources.{kept_of}
use Rattle.rig_model.specs.Views.{after_command, view_of, row_of}
use Rattle.rig_model.specs.Views.{command}
use Rattle.rig_model.specs.declared.events.Event.{Event}
use Rattle.rig_model.specs.declared.jobs.JobId.{JobId}
use Rattle.rig_laws.proofs.cited.AloneAlong.{same_rows, same_awaits, same_clock}
use Rattle.rig_laws.proofs.cited.LaterBase.{later_is_base}
use Rattle.rig_laws.proofs.cited.TwoWorlds.{kept_answers}
use Rattle.rig_model.specs.declared.logged.Logged.{Logged}
use Rattle.rig_model.specs.declared.logged.Logged.TheVariants as logged
use Rattle.rig_model.specs.Logs.{event_of, events_of, Holds, AllHold, Gives, IsReplay, IsLegalLog, answers_in}

-- an active job was released
released : (setting : Setting) (past : List Event) (j : JobId) → is_active (row_of setting past j.tenant) j ≡ true → was_released setting past j ≡ true
released setting [] j e = e
released setting (x ∷ past) j e = ap (λ b. b || was_released setting past j) e

-- an awaited job is a job of a tenant of the roster
of_roster : (setting : Setting) (host : HostState) (j : JobId) → length host.rows ≡ length setting.config.tenants → is_awaited host j ≡ true → is_tenant setting.config j.tenant ≡ true
of_roster setting host j long e = ⊎_elim
    (λ (lt : j.tenant < length setting.config.tenants). grind (arith, nat_tests))
    (λ le.
    let none : row_at host j.tenant ≡ empty_row host.clock = get_or-eq_default host.rows (empty_row host.clock) (omega (arith, long)) in
    let active = (and_parts (is_active (row_at host j.tenant) j) _ e).0 in
    let nothing : is_active (empty_row host.clock) j ≡ true = subst (λ (r : Row). is_active r j ≡ true) none active in
    absurd (cc))
    (cases_lt j.tenant (length setting.config.tenants))

module _ (setting : Setting) (base : IsBase setting.config setting.base) where
  -- an entry that the host gives may come next, and holds
  follows : (log : List Logged) (e : Logged) → is_legal setting (events_of log) ≡ true → Gives setting (host_after setting (events_of log)) e
      → (may_follow setting (events_of log) (event_of e) ≡ true) × Holds setting log e
  follows log (logged.Call seat call) legal g =
      (g.0, g.1 ∙ ap (λ (r : Row). (after_command setting call.tenant call.command r).reply) (same_rows setting base (events_of log) call.tenant legal g.0))
  follows log (logged.Tick frame) legal g =
      let clock = same_clock setting (events_of log) in
      let lines = g.0 in
      let below = g.1 in
      (and_from (eqb (length frame) setting.config.lines) _ (eq-eqb (length frame) setting.config.lines lines) (grind (arith, nat_tests)), tt)
  follows log (logged.Done j) legal g =
      let known = of_roster setting (host_after setting (events_of log)) j (later_is_base setting base (events_of log) legal).as_many g in
      let counted : counts setting (events_of log) j ≡ true = sym (same_awaits setting base (events_of log) j legal known) ∙ g in
      (released setting (events_of log) j (and_parts (is_active (row_of setting (events_of log) j.tenant) j) _ counted).0, counted)

  replayed : (log : List Logged) → IsReplay setting log → (is_legal setting (events_of log) ≡ true) × AllHold setting log
  replayed [] r = (refl, tt)
  replayed (e ∷ log) r =
      let rest = replayed log r.1 in
      let now = follows log e rest.0 r.0 in
      (and_from (may_follow setting (events_of log) (event_of e)) _ now.0 rest.0, (now.1, rest.1))

  pub replay_legal : (log : List Logged) → IsReplay setting log → IsLegalLog setting log
  replay_legal log r =
      let both = replayed log r in
      record { history = record { base = base; legal = both.0 }; holds = both.1 }

module _ (setting : Setting) (t : ℕ) where
  answers_by : (log : List Logged) → AllHold setting log → answers_in log t ≡ answers_of setting (events_of log) t
  answers_by [] h = refl
  answers_by (logged.Call seat call ∷ log) h = by (answers_by log h.1) (eqb call.tenant t) refl
    where
      text : Reply → List ℕ
      text reply = text_of_reply reply ++ 10 ∷ []

      by : answers_in log t ≡ answers_of setting (events_of log) t → (b : Bool) → eqb call.tenant t ≡ b
          → cond b (answers_in log t ++ text call.reply) (answers_in log t)
          ≡ answers_along setting t (cond b (command call.command ∷ view_of setting (events_of log) t) (view_of setting (events_of log) t))
      by rest true e =
          let same : call.tenant ≡ t = eqb-true call.tenant t e in
          let reply : call.reply ≡ (after_command setting t call.command (row_of setting (events_of log) t)).reply =
          h.0 ∙ ap (λ u. (after_command setting u call.command (row_of setting (events_of log) u)).reply) same in
          ap (λ a. a ++ text call.reply) rest ∙ ap (λ r. answers_of setting (events_of log) t ++ text r) reply
      by rest false e = rest
  answers_by (logged.Tick frame ∷ log) h = answers_by log h.1
  answers_by (logged.Done j ∷ log) h = answers_by log h.1

pub log_answers : (setting : Setting) (log : List Logged) (t : ℕ) → IsLegalLog setting log → answers_in log t ≡ answers_of setting (events_of log) t
log_answers setting log t legal = answers_by setting t log legal.holds

pub log_kept_answers : (setting : Setting) (log : List Logged) (t : ℕ) → IsLegalLog setting log → answers_in log t ≡ answers_of setting (kept_of setting (events_of log) t) t
log_kept_answers setting log t legal = log_answers setting log t legal ∙ sym (kept_answers setting (events_of log) t)
