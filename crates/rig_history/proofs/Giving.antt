-- The entries that a host gives.
use Rattle.std.proofs.Common.{◌≡◌, ℕ, ℤ, ◌-◌, ◌^◌, ◌<◌, Bool, true, false, cond, List, length, Option, Some, IfSome, refl, sym, ap, subst, ◌∙◌, arith}
use Rattle.std.proofs.lemmas.Bool.Decides.{nat_tests}
use Rattle.host_core.specs.HostStanding.{ForEachState, HostStanding, IsOwn, Stands, TakesEvent, awaited_in}
use Rattle.host_core.specs.declared.hosts.Counted.TheVariants as counted
use Rattle.rig_history.specs.inner.Auditing.{HasGiven}
use Rattle.rig_model.specs.Base.{Setting}
use Rattle.rig_model.specs.HostState.{HostState, is_awaited, row_at}
use Rattle.rig_model.specs.Views.{after_command}
use Rattle.rig_model.specs.config.Roster.{Rig, is_tenant}
use Rattle.rig_model.specs.declared.events.Event.TheVariants.{Own, Tick, Done}
use Rattle.rig_model.specs.declared.jobs.JobId.{JobId}
use Rattle.rig_model.specs.declared.lines.commands.Command.{Command}
use Rattle.rig_model.specs.declared.lines.replies.Reply.{Reply}
use Rattle.rig_model.specs.declared.logged.Call.{Call}
use Rattle.rig_model.specs.declared.logged.Logged.TheVariants as logged
use Rattle.tenant_jobs.specs.Jobs.{JobValue}

pub instant_given : (before after : HostStanding) (copy frame : List ℤ) → copy ≡ frame → length frame ≡ before.config.lines → before.clock < 2 ^ 64 - 1 → TakesEvent (Tick frame) before after
    → HasGiven before after (logged.Tick copy)
instant_given before after copy frame same lines below step =
    subst (λ f. HasGiven before after (logged.Tick f)) (sym same) (λ setting state stands.
    (step setting state stands, (lines ∙ ap (λ (rig : Rig). rig.lines) stands.same_config, subst (λ n. n < 2 ^ 64 - 1) stands.same_clock below)))

was_awaited : (b : Bool) → counted.Counted ≡ cond b counted.Counted counted.Late → b ≡ true
was_awaited true e = refl
was_awaited false e = absurd (cc)

pub completion_given : (before after : HostStanding) (j : JobId) (done : JobValue) → j ≡ done.id → awaited_in before done.id ≡ Some done
    → (IsOwn before done → ForEachState before (λ setting state. counted.Counted ≡ cond (is_awaited state done.id) counted.Counted counted.Late))
    → (IsOwn before done → TakesEvent (Done done.id) before after) → HasGiven before after (logged.Done j)
completion_given before after j done same awaited counts step =
    subst (λ i. HasGiven before after (logged.Done i)) (sym same) (λ setting state stands.
    (step own setting state stands, was_awaited (is_awaited state done.id) (counts own setting state stands)))
  where
    own : IsOwn before done
    own = subst (λ (o : Option JobValue). IfSome o (λ job. job ≡ done)) (sym awaited) refl

pub call_given : (before after : HostStanding) (seat tenant : ℕ) (copy command : Command) (reply : Reply) (call : Call) → call ≡ record { tenant = tenant; command = command; reply = reply }
    → copy ≡ command → tenant < length before.config.tenants → ForEachState before (λ setting state. reply ≡ (after_command setting tenant copy (row_at state tenant)).reply)
    → TakesEvent (Own tenant copy) before after → HasGiven before after (logged.Call seat call)
call_given before after seat tenant copy command reply call is same place replies step =
    subst (λ c. HasGiven before after (logged.Call seat c)) (sym is) (subst (λ (c : Command). HasGiven before after (logged.Call seat (record { tenant = tenant; command = c; reply = reply }))) same given)
  where
    roster : (setting : Setting) (state : HostState) → Stands setting before state → is_tenant setting.config tenant ≡ true
    roster setting state stands = let many = ap (λ (rig : Rig). length rig.tenants) stands.same_config in grind (arith, nat_tests)

    given : HasGiven before after (logged.Call seat (record { tenant = tenant; command = copy; reply = reply }))
    given setting state stands = (step setting state stands, (roster setting state stands, replies setting state stands))
