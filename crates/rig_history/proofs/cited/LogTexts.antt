-- The text of a log, and the numbers of its instants.
use Rattle.std.proofs.Common.{◌≡◌, ◌≤◌, ℕ, ◌+◌, List, [], ◌∷◌, ◌++◌, append_assoc, refl, sym, ap, ◌∙◌, arith}
use Rattle.rig_model.specs.config.Roster.{Rig}
use Rattle.rig_model.specs.declared.logged.Logged.{Logged}
use Rattle.rig_model.specs.declared.logged.Logged.TheVariants as logged
use Rattle.rig_history.specs.Entries.{text_of_entry, text_of_log, tick_after}
use Rattle.rig_history.specs.Pieces.{tick_after_log}

not_before : (tick : ℕ) (e : Logged) → tick ≤ tick_after tick e
not_before tick (logged.Call seat call) = omega arith
not_before tick (logged.Tick frame) = omega arith
not_before tick (logged.Done j) = omega arith

pub not_before_log : (tick : ℕ) (log : List Logged) → tick ≤ tick_after_log tick log
not_before_log tick [] = omega arith
not_before_log tick (e ∷ log) =
    let one = not_before tick e in
    let more = not_before_log (tick_after tick e) log in
    omega (arith, one, more)

-- a log is its beginning, and then the rest
pub tick_both : (tick : ℕ) (log rest : List Logged) → tick_after_log tick (log ++ rest) ≡ tick_after_log (tick_after_log tick log) rest
tick_both tick [] rest = refl
tick_both tick (e ∷ log) rest = tick_both (tick_after tick e) log rest

pub text_both : (rig : Rig) (tick : ℕ) (log rest : List Logged) → text_of_log rig tick (log ++ rest) ≡ text_of_log rig tick log ++ text_of_log rig (tick_after_log tick log) rest
text_both rig tick [] rest = refl
text_both rig tick (e ∷ log) rest =
    ap (λ t. text_of_entry rig tick e ++ t) (text_both rig (tick_after tick e) log rest)
    ∙ sym (append_assoc (text_of_entry rig tick e) (text_of_log rig (tick_after tick e) log) (text_of_log rig (tick_after_log (tick_after tick e) log) rest))
