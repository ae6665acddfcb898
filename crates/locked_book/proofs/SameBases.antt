-- What ends in a base ends in each base that is the same.
use Rattle.std.proofs.Common.{◌≡◌, ◌↔◌, ℕ, ◌+◌, ◌<◌, Bool, true, List, [], ◌∷◌, ◌++◌, length, map, reverse, Option, Some, None, refl, sym, ap, ◌∙◌, subst, get_or, append-nil, arith}
use Rattle.std.proofs.lemmas.List.{get_or-map, length-map}
use Rattle.rig_model.specs.config.Roster.{Rig}
use Rattle.rig_model.specs.Base.{Setting}
use Rattle.rig_model.specs.Host.{host_after}
use Rattle.rig_model.specs.HostState.{HostState, row_at}
use Rattle.rig_model.specs.Row.{Row}
use Rattle.rig_model.specs.Tenancies.{Tenancy}
use Rattle.rig_model.specs.declared.logged.Logged.{Logged}
use Rattle.rig_model.specs.Logs.{calls_of_seat, events_of}
use Rattle.host_core.specs.HostStanding.{HostStanding, Stands}
use Rattle.host_core.specs.SameHosts.{IsSameHost, compared}
use Rattle.host_core.specs.engine.Tenants.{tenant_at}
use Rattle.host_core.specs.state.Standing.{Standing, no_tenant, with_last}
use Rattle.host_core.proofs.of_laws.LaterBase.{new_is_base}
use Rattle.host_core.proofs.of_laws.Replays.{replay_legal}
use Rattle.locked_book.specs.Books.{ArchiveValue, BaseValue, BeginsAt, EndsIn, IsLegalFrom, IsSameBase, calls_before, new_setting, setting_from}
use Rattle.locked_book.specs.inner.Books.{IsArchive, IsBegun, Reached}
use Rattle.locked_book.proofs.Continued.{calls_both, goes_on, length_both}

-- those at one place
compared_at : (ones others : List Standing) (t : ℕ) → map compared ones ≡ map compared others → t < length ones → compared (tenant_at ones t) ≡ compared (tenant_at others t)
compared_at ones others t same lt =
    let many : length ones ≡ length others = sym (length-map ones compared) ∙ (ap length same ∙ length-map others compared) in
    sym (get_or-map compared ones t no_tenant (compared no_tenant) lt)
    ∙ (ap (λ (cs : List (Tenancy × Row)). get_or cs t (compared no_tenant)) same
    ∙ get_or-map compared others t no_tenant (compared no_tenant) (omega (arith, lt, many)))

row_of_last : (one other : Standing) (row : Row) → compared one ≡ compared other → one.row ≡ with_last one.tenancy.budgets.trace row → other.row ≡ with_last other.tenancy.budgets.trace row
row_of_last one other row same is =
    ap (λ (c : Tenancy × Row). c.1) (sym same) ∙ (is ∙ ap (λ (c : Tenancy × Row). with_last c.0.budgets.trace row) same)

-- what a host represents, the same host does, if it is of this configuration
pub stands_same : (setting : Setting) (one other : HostStanding) (state own : HostState) → IsSameHost one other → Stands setting other own → Stands setting one state → Stands setting other state
stands_same setting one other state own same its st = record {
  same_config = its.same_config;
  same_clock = sym same.equal_clocks ∙ st.same_clock;
  as_many = its.as_many;
  all_rows = st.all_rows;
  placed = its.placed;
  each = λ t lt.
      let many = st.as_many in
      row_of_last (tenant_at one.tenants t) (tenant_at other.tenants t) (row_at state t) (compared_at one.tenants other.tenants t same.equal_tenants (omega (arith, lt, many))) (st.each t lt);
  counts = st.counts;
  results = λ j. sym (same.equal_counted j) ∙ st.results j;
}

pub ends_in_same : (rig : Rig) (first : ℕ) (past others : List Logged) (one other : BaseValue) → IsSameBase one other → EndsIn rig first others other → EndsIn rig first past one → EndsIn rig first past other
ends_in_same rig first past others one other same its is = record {
  replay = is.replay;
  host = stands_same (new_setting rig first) one.host other.host (host_after (new_setting rig first) (events_of past)) (host_after (new_setting rig first) (events_of others)) same.host its.host is.host;
  entries = sym same.entries ∙ is.entries;
  calls = λ seat. sym (same.calls seat) ∙ is.calls seat;
}

-- what was logged up to the end of a piece ends in the base at which the next one begins
pub begun : (rig : Rig) (first : ℕ) (end : Option BaseValue) (base : BaseValue) (past others : List Logged) → EndsIn rig first others base → BeginsAt rig first end base → Reached rig first end past → EndsIn rig first past base
begun rig first None base past others its begins nothing = subst (λ p. EndsIn rig first p base) (sym nothing) begins
begun rig first (Some end) base past others its begins is = ends_in_same rig first past others end base begins its is

-- what ended in the base of an archive goes on with its log
pub archived : (rig : Rig) (first : ℕ) (archive : ArchiveValue) (past : List Logged) → IsArchive rig first archive → EndsIn rig first past archive.base → EndsIn rig first (reverse archive.log ++ past) archive.next
archived rig first archive past is here =
    let both = goes_on (new_setting rig first) past archive.log archive.base.host archive.next.host is.kept here.host here.replay in
    record {
      replay = both.1;
      host = both.0;
      entries =
          (let next = is.next.entries in let long = length_both is.past archive.log in let now = length_both past archive.log in
          let own = is.reached.entries in let its = here.entries in
          omega (arith, next, long, now, own, its));
      calls = λ seat.
          let next = is.next.calls seat in
          let long = calls_both seat is.past archive.log in
          let now = calls_both seat past archive.log in
          let own = is.reached.calls seat in
          let its = here.calls seat in
          omega (arith, next, long, now, own, its);
    }

-- a base before which there was nothing is that of a new host, and the other way round
pub first_base : (rig : Rig) (first : ℕ) (past : List Logged) (base : BaseValue) → EndsIn rig first past base → base.entries_before ≡ 0 → EndsIn rig first [] base
first_base rig first past base is none = subst (λ p. EndsIn rig first p base) (nothing past (sym is.entries ∙ none)) is
  where
    nothing : (xs : List Logged) → length xs ≡ 0 → xs ≡ []
    nothing [] e = refl
    nothing (x ∷ xs) e = absurd (omega (arith, e))

-- a piece begins where the one before it ended, as its code says
pub begins_exact : (rig : Rig) (first : ℕ) (past : List Logged) (base : BaseValue) (end : Option BaseValue) (r : Bool) → EndsIn rig first past base → ((r ≡ true) ↔ IsBegun end base) → ((r ≡ true) ↔ BeginsAt rig first end base)
begins_exact rig first past base None r is begun = (λ e. first_base rig first past base is (begun.0 e), λ b. begun.1 b.entries)
begins_exact rig first past base (Some end) r is begun = begun

-- the log of an archive is legal from its base
pub legal_archive : (rig : Rig) (first : ℕ) (archive : ArchiveValue) → IsArchive rig first archive → IsLegalFrom rig first archive.base archive.log archive.next.host
legal_archive rig first archive is = record {
  past = is.past;
  reached = is.reached;
  whole = replay_legal (new_setting rig first) (new_is_base rig first) (reverse archive.log ++ is.past) is.next.replay;
  after = is.next.host;
  from_base = λ state is_base st. replay_legal (setting_from rig state) is_base (reverse archive.log) (is.kept (setting_from rig state) st).1;
}
