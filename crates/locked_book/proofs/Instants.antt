-- What an instant of a book says if nothing is known of the entries before it.
use Rattle.std.proofs.Common.{◌≡◌, ℕ, ℤ, List, [], ◌∷◌, ◌++◌, length, reverse, ap, ◌∙◌, subst, arith}
use Rattle.rig_model.specs.config.Roster.{Rig}
use Rattle.rig_model.specs.Host.{host_after}
use Rattle.host_core.specs.job_table.Jobs.{JobValue}
use Rattle.host_core.specs.engine.Tenants.{released_from}
use Rattle.host_core.specs.HostStanding.{HostStanding, Stands}
use Rattle.rig_model.specs.declared.logged.Logged.{Logged}
use Rattle.rig_model.specs.declared.logged.Logged.TheVariants as logged
use Rattle.rig_model.specs.Logs.{IsLegalLog, events_of}
use Rattle.locked_book.specs.Books.{BaseValue, BookValue, EndsIn, IsLegalFrom, length_of, new_setting}
use Rattle.locked_book.proofs.Continued.{length_both}
use Rattle.locked_book.proofs.Kept.{turned}

pub ticked : (rig : Rig) (first : ℕ) (old new : BookValue) (frame : List ℤ) (place : ℕ) (jobs : List JobValue)
    → ((past : List Logged) → EndsIn rig first past old.base → Stands (new_setting rig first) old.host (host_after (new_setting rig first) (events_of (reverse old.log ++ past))))
    → IsLegalFrom rig first new.base new.log new.host → new.base ≡ old.base
    → new.log ≡ old.log ++ logged.Tick frame ∷ [] → place ≡ length_of old → jobs ≡ released_from old.host.clock 0 new.host.tenants
    → (log : List Logged) × (host : HostStanding) × IsLegalLog (new_setting rig first) (logged.Tick frame ∷ log) × (place ≡ length log)
    × Stands (new_setting rig first) host (host_after (new_setting rig first) (events_of (logged.Tick frame ∷ log)))
    × (jobs ≡ released_from (host_after (new_setting rig first) (events_of log)).clock 0 host.tenants)
ticked rig first old new frame place jobs before legal base log at released = (
  all,
  new.host,
  subst (IsLegalLog (new_setting rig first)) behind legal.whole,
  (let entries = legal.reached.entries in let same = ap (λ (b : BaseValue). b.entries_before) base in let many = length_both legal.past old.log in omega (arith, entries, same, many, at)),
  subst (λ l. Stands (new_setting rig first) new.host (host_after (new_setting rig first) (events_of l))) behind legal.after,
  released ∙ ap (λ n. released_from n 0 new.host.tenants) (before legal.past (subst (EndsIn rig first legal.past) base legal.reached)).same_clock,
)
  where
    all : List Logged
    all = reverse old.log ++ legal.past

    behind : reverse new.log ++ legal.past ≡ logged.Tick frame ∷ all
    behind = ap (λ l. l ++ legal.past) (ap reverse log ∙ turned old.log (logged.Tick frame))
