-- What `show mode` says of a row, and which tenants ran.
use Rattle.std.proofs.lemmas.Bool.Decides.{nat_tests}
use Rattle.std.proofs.Common.{◌≡◌, ◌==◌, ◌+◌, ◌<◌, ℕ, zero, suc, Bool, true, false, List, [], ◌∷◌, ◌++◌, length, get_or, refl, sym, ap, subst, ◌∙◌, arith}
use Rattle.rig_model.specs.Base.{Setting}
use Rattle.rig_model.specs.Commands.{status_of}
use Rattle.rig_model.specs.Row.{Row, TenantState, empty, loaded, running, stopped, asked, overrun, is_running}
use Rattle.rig_model.specs.declared.events.Event.{Event}
use Rattle.rig_model.specs.config.Roster.{name_at}
use Rattle.rig_model.specs.Legal.{next_tick}
use Rattle.rig_reports.specs.inner.Reported.{listed, missed_task, overrun_of, overruns_between, overruns_up_to, row_after}
use Rattle.script_reports.specs.declared.reports.Overrun.{Overrun}
use Rattle.rig_reports.specs.inner.Reporting.{running_up_to}
use Rattle.std.proofs.lemmas.List.{get_or_append_left, get_or_push, length-append}
use Rattle.rig_model.specs.declared.lines.replies.Status.{Status}
use Rattle.rig_model.specs.declared.lines.replies.Status.TheVariants.{Empty, Loaded, Running, StoppedAsked, StoppedOverrun}
use Rattle.giotto_tasks.specs.declared.names.Name.{Name}
use Rattle.std.specs.Prelude.{Option, Some, None}

-- whether a status says that the tenant runs
abbrev pub says_running : Status → Bool
says_running Empty = false
says_running (Loaded m) = false
says_running (Running m x) = true
says_running StoppedAsked = false
says_running (StoppedOverrun x) = false

abbrev pub tells_missed : Status → Option Name
tells_missed Empty = None
tells_missed (Loaded m) = None
tells_missed (Running m x) = None
tells_missed StoppedAsked = None
tells_missed (StoppedOverrun x) = Some x

pub running_said : (row : Row) → says_running (status_of row) ≡ is_running row
running_said row = by row.state
  where
    by : (s : TenantState) → says_running (status_of (record row { state = s })) ≡ is_running (record row { state = s })
    by empty = refl
    by loaded = refl
    by running = refl
    by (stopped asked) = refl
    by (stopped (overrun x)) = refl

pub missed_told : (row : Row) → tells_missed (status_of row) ≡ missed_task row
missed_told row = by row.state
  where
    by : (s : TenantState) → tells_missed (status_of (record row { state = s })) ≡ missed_task (record row { state = s })
    by empty = refl
    by loaded = refl
    by running = refl
    by (stopped asked) = refl
    by (stopped (overrun x)) = refl

module _ (setting : Setting) (past : List Event) where
  pub as_many : (n : ℕ) → length (running_up_to setting past n) ≡ n
  as_many zero = refl
  as_many (suc n) =
      let more = length-append (running_up_to setting past n) (is_running (row_after setting past n) ∷ []) in
      let before = as_many n in
      omega (arith, more, before)

  pub each_ran : (n t : ℕ) → t < n → get_or (running_up_to setting past n) t false ≡ is_running (row_after setting past t)
  each_ran zero t there = absurd (omega (arith, there))
  each_ran (suc n) t there = by (each_ran n t) (t == n) refl
    where
      by : (t < n → get_or (running_up_to setting past n) t false ≡ is_running (row_after setting past t)) → (b : Bool) → (t == n) ≡ b
          → get_or (running_up_to setting past (suc n)) t false ≡ is_running (row_after setting past t)
      by below true e =
          let same : t ≡ n = grind (arith, nat_tests, e) in
          rw same (get_or_push (running_up_to setting past n) (is_running (row_after setting past n)) false n (as_many n))
      by below false e =
          let less : t < n = grind (arith, nat_tests, e, there) in
          let within : t < length (running_up_to setting past n) = rw (as_many n) less in
          get_or_append_left (running_up_to setting past n) (is_running (row_after setting past n) ∷ []) false t within ∙ below less

-- the overruns with one more tenant
pub stops_more : (setting : Setting) (before past : List Event) (t : ℕ) (stop : Option Overrun) (so_far now : List Overrun) → so_far ≡ overruns_up_to setting before past t
    → stop ≡ overrun_of (name_at setting.config t) (row_after setting before t) (row_after setting past t) → now ≡ so_far ++ listed stop → now ≡ overruns_up_to setting before past (t + 1)
stops_more setting before past t stop so_far now so is grown =
    let next : t + 1 ≡ suc t = omega arith in
    subst (λ n. now ≡ overruns_up_to setting before past n) (sym next)
    (grown ∙ (ap (λ (xs : List Overrun). xs ++ listed stop) so ∙ ap (λ (o : Option Overrun). overruns_up_to setting before past t ++ listed o) is))

module _ (setting : Setting) (earlier past : List Event) where
  pub none_between : next_tick setting past ≡ next_tick setting earlier → overruns_between setting earlier past ≡ []
  none_between same =
      let e : (next_tick setting past == next_tick setting earlier) ≡ true = grind (arith, nat_tests, same) in
      rw e refl

  pub some_between : (next_tick setting past ≡ next_tick setting earlier → ⊥) → overruns_between setting earlier past ≡ overruns_up_to setting earlier past (length setting.config.tenants)
  some_between differs = by (next_tick setting past == next_tick setting earlier) refl
    where
      by : (b : Bool) → (next_tick setting past == next_tick setting earlier) ≡ b → overruns_between setting earlier past ≡ overruns_up_to setting earlier past (length setting.config.tenants)
      by true e = let same : next_tick setting past ≡ next_tick setting earlier = grind (arith, nat_tests, e) in absurd (differs same)
      by false e = rw e refl
