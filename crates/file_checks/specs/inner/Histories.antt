-- The head of a history, and what is printed of its audit.
use Rattle.std.specs.Prelude.{ℕ, ◌==◌, Bool, true, false, List, ◌++◌, Option, None, Some, codes, length, string_bytes}
use Rattle.std.specs.Fmt.{decimal}
use Rattle.std.specs.List.{after_first}
use Rattle.config_checks.specs.Copies.{configuration_for}
use Rattle.rig_history.specs.declared.audits.Audited.{Audited}
use Rattle.rig_history.specs.declared.audits.Stop.{Stop}
use Rattle.rig_history.specs.declared.audits.Stop.TheVariants.{Cut, Differs, NoEntry, Refused}
use Rattle.rig_model.specs.config.Roster.{Rig}
use Rattle.file_checks.specs.declared.histories.HeadFault.{HeadFault}
use Rattle.file_checks.specs.declared.histories.HeadFault.TheVariants as head

-- the configuration without any key, less the line that says for whom it is
abbrev pub configuration_without_keys : Rig → List ℕ
configuration_without_keys rig = after_first (λ c. c == 10) (configuration_for rig (length rig.tenants))

-- the title, the configuration, and the line `entries`
abbrev pub head_of_history : Rig → List ℕ
head_of_history rig = codes "rig_host history 1\n" ++ (configuration_without_keys rig ++ codes "\nentries\n")

-- the line of an error: "NAME:LINE: error: this line WHAT"
abbrev pub error_at : List ℕ → ℕ → List ℕ → List ℕ
error_at name line what = name ++ (codes ":" ++ (decimal line ++ (codes ": error: this line " ++ (what ++ codes "\n"))))

-- what is wrong with the head of a history
abbrev pub text_of_head_fault : List ℕ → HeadFault → List ℕ
text_of_head_fault name head.NoTitle = error_at name 1 (codes "isn't the head of a history")
text_of_head_fault name head.NoEntries = name ++ codes ": error: the history has no line `entries`: it is cut off in its head\n"

-- "audit: N entries, K replies, all as computed"
abbrev pub good_part : ℕ → ℕ → List ℕ
good_part entries replies = codes "audit: " ++ (decimal entries ++ (codes " entries, " ++ (decimal replies ++ codes " replies, all as computed")))

-- how a line differs from the one that the rig gives
abbrev pub difference : List ℕ → List ℕ → List ℕ
difference found computed = codes "is `" ++ (found ++ (codes "`, and the rig gives `" ++ (computed ++ codes "`")))

-- the last line of an audit, given how many entries and replies are good and why there are no more
abbrev pub last_line : List ℕ → ℕ → ℕ → Option Stop → List ℕ
last_line name entries replies None = good_part entries replies ++ codes "\n"
last_line name entries replies (Some (Cut line)) = good_part entries replies ++ (codes "; line " ++ (decimal line ++ codes " begins an entry that is cut off\n"))
last_line name entries replies (Some (Differs line found computed)) = error_at name line (difference (string_bytes found) (string_bytes computed))
last_line name entries replies (Some (NoEntry line)) = error_at name line (codes "begins no entry")
last_line name entries replies (Some (Refused line)) = error_at name line (codes "begins an entry that the rig refuses")

-- the calls of the tenant, and the last line
abbrev pub text_of_audit : List ℕ → Audited → List ℕ
text_of_audit name audited = string_bytes audited.calls ++ last_line name audited.entries audited.replies audited.stop

-- whether a history is good: all of it, or all but an entry that is cut off
abbrev pub is_good : Option Stop → Bool
is_good None = true
is_good (Some (Cut line)) = true
is_good (Some (Differs line found computed)) = false
is_good (Some (NoEntry line)) = false
is_good (Some (Refused line)) = false
