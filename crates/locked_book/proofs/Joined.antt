-- Archives that join, one after the other.
use Rattle.std.proofs.Common.{◌≡◌, ◌↔◌, ◌<◌, ◌≤◌, ℕ, ◌+◌, List, [], ◌∷◌, ◌++◌, length, reverse, take, drop, get_or, Option, Some, None, refl, sym, ap, ◌∙◌, subst, append-nil, arith}
use Rattle.std.specs.List.{flat_map}
use Rattle.std.proofs.lemmas.List.{drop_all, drop_more, reverse-append, take_all, take_more}
use Rattle.std.proofs.lemmas.Grind.{flat_map-append}
use Rattle.rig_model.specs.config.Roster.{Rig}
use Rattle.rig_model.specs.declared.logged.Logged.{Logged}
use Rattle.host_core.proofs.of_laws.Replays.{log_kept_answers}
use Rattle.host_core.specs.HostStanding.{HostStanding, Stands}
use Rattle.rig_model.specs.Host.{host_after}
use Rattle.rig_model.specs.Logs.{IsLegalLog, events_of}
use Rattle.locked_book.specs.Books.{ArchiveValue, BaseValue, BeginsAt, Follow, IsWholeLog, joined_log, new_setting}

abbrev pub logs_of : List ArchiveValue → List Logged
logs_of archives = flat_map (λ (a : ArchiveValue). a.log) archives

module _ (archives : List ArchiveValue) (i : ℕ) (a : ArchiveValue) (lt : i < length archives) (is : a ≡ get_or archives i a) where
  here : drop i archives ≡ a ∷ drop (i + 1) archives
  here = drop_more archives i a lt ∙ ap (λ (x : ArchiveValue). x ∷ drop (i + 1) archives) (sym is)

  pub joined_more : (rig : Rig) (first : ℕ) (end : Option BaseValue) (last : BaseValue) → BeginsAt rig first end a.base
      → (Follow rig first end (drop i archives) last ↔ Follow rig first None archives last)
      → (Follow rig first (Some a.next) (drop (i + 1) archives) last ↔ Follow rig first None archives last)
  joined_more rig first end last begins so_far = (
    (λ rest. so_far.0 (subst (λ (left : List ArchiveValue). Follow rig first end left last) (sym here) (begins, rest))),
    (λ all. (subst (λ (left : List ArchiveValue). Follow rig first end left last) here (so_far.1 all)).1),
  )

  -- if all join, this one begins where the one before it ended
  pub joined_here : (rig : Rig) (first : ℕ) (end : Option BaseValue) (last : BaseValue) → (Follow rig first end (drop i archives) last ↔ Follow rig first None archives last) → Follow rig first None archives last
      → BeginsAt rig first end a.base
  joined_here rig first end last so_far all = (subst (λ (left : List ArchiveValue). Follow rig first end left last) here (so_far.1 all)).0

  pub logged_more : reverse a.log ++ reverse (logs_of (take i archives)) ≡ reverse (logs_of (take (i + 1) archives))
  logged_more =
      let taken : take (i + 1) archives ≡ take i archives ++ a ∷ [] = take_more archives i a lt ∙ ap (λ (x : ArchiveValue). take i archives ++ x ∷ []) (sym is) in
      let logs : logs_of (take (i + 1) archives) ≡ logs_of (take i archives) ++ a.log =
      ap logs_of taken ∙ (flat_map-append (λ (x : ArchiveValue). x.log) (take i archives) (a ∷ []) ∙ ap (λ l. logs_of (take i archives) ++ l) (append-nil a.log)) in
      sym (ap reverse logs ∙ reverse-append (logs_of (take i archives)) a.log)

-- after the last archive
pub none_left : (archives : List ArchiveValue) (i : ℕ) → length archives ≤ i → (drop i archives ≡ []) × (take i archives ≡ archives)
none_left archives i le = (drop_all i archives le, take_all i archives le)

-- what all that was logged says, if it ends in the base
pub whole_log_is : (rig : Rig) (first : ℕ) (archives : List ArchiveValue) (log : List Logged) (host : HostStanding)
    → IsLegalLog (new_setting rig first) (reverse log ++ reverse (logs_of archives))
    → Stands (new_setting rig first) host (host_after (new_setting rig first) (events_of (reverse log ++ reverse (logs_of archives))))
    → IsWholeLog rig first (joined_log archives log) host
whole_log_is rig first archives log host legal stands =
    let both : reverse log ++ reverse (logs_of archives) ≡ reverse (joined_log archives log) = sym (reverse-append (logs_of archives) log) in
    let is : IsLegalLog (new_setting rig first) (reverse (joined_log archives log)) = subst (IsLegalLog (new_setting rig first)) both legal in
    record {
      legal = is;
      after = subst (λ l. Stands (new_setting rig first) host (host_after (new_setting rig first) (events_of l))) both stands;
      answers = λ t. log_kept_answers (new_setting rig first) (reverse (joined_log archives log)) t is;
    }
