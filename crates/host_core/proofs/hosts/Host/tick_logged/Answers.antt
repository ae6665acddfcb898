use Rattle.std.proofs.Common.{◌≡◌, ◌+◌, ◌-◌, ◌<◌, ◌≤◌, ◌^◌, ◌++◌, List, length, map, take, drop, refl, ap, sym, subst, ◌∙◌, arith}
use Rattle.std.proofs.lemmas.List.Elements.{All-map}
use Rattle.std.specs.List.{All}
use Rattle.std.specs.Prelude.{OnSome}
use Rattle.std.specs.Vec.{vec_items, with_items}
use Rattle.instant_engine.specs.Tenants.{most_of, released_from}
use Rattle.instant_engine.specs.cited.Halves.{IsReady}
use Rattle.instant_engine.specs.state.Standing.{IsKnown, Standing, at_rest}
use Rattle.host_core.specs.HostStanding.{HostStanding, Stands, outstanding_count, outstanding_from}
use Rattle.host_core.specs.declared.hosts.Host.TheInside.{Inside}
use Rattle.host_core.specs.inner.HostStanding.{IsWhole, most_binds}
use Rattle.host_core.proofs.AtRest.{gathered_at_rest}
use Rattle.host_core.proofs.HostInstants.{AreReadied, IsNext, are_readied, counts_again, next_written, places_again, rosters_again, stands_behind, whole_behind, written_behind, written_over}
use Rattle.host_core.proofs.HostReleases.{few_released, outstanding_grown}
use Rattle.host_core.proofs.hosts.Host.tick_logged.Given.{Over}
use Rattle.host_core.proofs.hosts.Host.tick_logged.Goals as goal
use Rattle.host_core.proofs.hosts.Host.tick_logged.Goals.{After-all_ready, After-as_mut_slice-granted}

-- the host's tenants are ready
made : (g : Over) (c : After-all_ready g) → AreReadied c.self.inside.config c.self.inside.clock c.self.inside.tenants.len c.self.inside.tenants.items
    (take c.self.inside.tenants.len (c.all_ready.new.tenants ++ drop (length c.all_ready.new.tenants) c.self.inside.tenants.items)) c.self.inside.finished.entries c.all_ready.new.finished.entries
made g c =
    are_readied c.self.inside.config c.self.inside.clock c.self.inside.tenants.len c.self.inside.tenants.items c.as_mut_slice.result.now c.all_ready.new.tenants c.self.inside.finished.entries c.all_ready.new.finished.entries
    c.as_mut_slice.ensures.value c.as_mut_slice.ensures.len c.all_ready.ensures.rest c.all_ready.ensures.entries c.self.invariant.whole

pub invariant_of-self : goal.invariant_of-self
invariant_of-self g c = record { whole = (made g (goal.at.invariant_of-self g c).After-all_ready).whole; places = c.self.invariant.places }

pub invariant_of-self-in_err-jobs : goal.invariant_of-self-in_err-jobs
invariant_of-self-in_err-jobs g c = record { whole = (made g (goal.at.invariant_of-self-in_err-jobs g c).After-all_ready).whole; places = c.self.invariant.places }

pub invariant_of-self-in_err-completions : goal.invariant_of-self-in_err-completions
invariant_of-self-in_err-completions g c = record { whole = (made g (goal.at.invariant_of-self-in_err-completions g c).After-all_ready).whole; places = c.self.invariant.places }

pub invariant_of-self-in_err-add_instant : goal.invariant_of-self-in_err-add_instant
invariant_of-self-in_err-add_instant g c = record { whole = (made g (goal.at.invariant_of-self-in_err-add_instant g c).After-all_ready).whole; places = c.self.invariant.places }

module _ (g : Over) (c : After-as_mut_slice-granted g) where
  readied : AreReadied c.self.inside.config c.self.inside.clock c.self.inside.tenants.len c.self.inside.tenants.items c.as_mut_slice-tenants.result.now c.self.inside.finished.entries c.all_ready.new.finished.entries
  readied =
      subst (λ xs. AreReadied c.self.inside.config c.self.inside.clock c.self.inside.tenants.len c.self.inside.tenants.items xs c.self.inside.finished.entries c.all_ready.new.finished.entries) (sym c.as_mut_slice-tenants.ensures.value)
      (are_readied c.self.inside.config c.self.inside.clock c.self.inside.tenants.len c.self.inside.tenants.items c.as_mut_slice.result.now c.all_ready.new.tenants c.self.inside.finished.entries c.all_ready.new.finished.entries
      c.as_mut_slice.ensures.value c.as_mut_slice.ensures.len c.all_ready.ensures.rest c.all_ready.ensures.entries c.self.invariant.whole)

  all_ready : All IsReady c.as_mut_slice-tenants.result.now
  all_ready =
      let whole = written_over c.self.inside.tenants.len c.self.inside.tenants.items c.all_ready.new.tenants (c.all_ready.auto.tenants ∙ c.as_mut_slice.ensures.len) in
      subst (All IsReady) (sym (c.as_mut_slice-tenants.ensures.value ∙ whole)) (subst (λ o. OnSome o (All IsReady c.all_ready.new.tenants)) c.in_ok-most.ensures.ok_part c.all_ready.ensures.ready)

  all_below : All (λ (s : Standing). s.row.next_tick < 2 ^ 64 - 1) c.as_mut_slice-tenants.result.now
  all_below = counts_again readied (subst (λ n. n < 2 ^ 64 - 1) (ap (λ (h : HostStanding). h.clock) (sym c.self.view_is)) c.in_ok-check.ensures.next)

  long_places : (granted : List _) → length granted ≡ length c.as_mut_slice-granted.result.now → length (vec_items (with_items c.self.inside.granted granted)) ≡ length c.self.inside.granted.items
  long_places granted same =
      let long : length granted ≡ c.self.inside.granted.len = same ∙ c.as_mut_slice-granted.ensures.len in
      omega (arith, ap length (written_over c.self.inside.granted.len c.self.inside.granted.items granted long), same, ap length c.as_mut_slice-granted.ensures.value)

pub instant_with-requires-clause-placed : goal.instant_with-requires-clause-placed
instant_with-requires-clause-placed g c = (readied g (goal.at.instant_with-requires-clause-placed g c).After-as_mut_slice-granted).whole.placed

pub instant_with-requires-clause-between : goal.instant_with-requires-clause-between
instant_with-requires-clause-between g c = λ k d lt. ((readied g (goal.at.instant_with-requires-clause-between g c).After-as_mut_slice-granted).whole.known k d lt).1

pub instant_with-requires-clause-counts : goal.instant_with-requires-clause-counts
instant_with-requires-clause-counts g c = all_below g (goal.at.instant_with-requires-clause-counts g c).After-as_mut_slice-granted

pub instant_with-requires-clause-ready : goal.instant_with-requires-clause-ready
instant_with-requires-clause-ready g c = all_ready g (goal.at.instant_with-requires-clause-ready g c).After-as_mut_slice-granted

pub instant_with-requires-clause-rosters : goal.instant_with-requires-clause-rosters
instant_with-requires-clause-rosters g c = rosters_again (readied g (goal.at.instant_with-requires-clause-rosters g c).After-as_mut_slice-granted)

pub instant_with-requires-clause-places : goal.instant_with-requires-clause-places
instant_with-requires-clause-places g c =
    places_again (readied g (goal.at.instant_with-requires-clause-places g c).After-as_mut_slice-granted) c.as_mut_slice-granted.result.now (omega (arith, c.self.invariant.places, ap length c.as_mut_slice-granted.ensures.value))

pub instant_with-requires-clause-table : goal.instant_with-requires-clause-table
instant_with-requires-clause-table g c = (readied g (goal.at.instant_with-requires-clause-table g c).After-as_mut_slice-granted).whole.table

-- the host before the instant runs
abbrev At : (g : Over) → goal.After-self-4-1 g → After-as_mut_slice-granted g
At g c = (goal.at.invariant_of-self-2 g c).After-as_mut_slice-granted

-- the tenants after it
abbrev left : (g : Over) → goal.After-self-4-1 g → List Standing
left g c =
    let places = c.self.inside.tenants.len in
    let ready = take places (c.all_ready.new.tenants ++ drop (length c.all_ready.new.tenants) c.self.inside.tenants.items) in
    take places (c.instant_with.new.tenants ++ drop (length c.instant_with.new.tenants) ready)

next : (g : Over) (c : goal.After-self-4-1 g) → IsNext c.args.frame.now c.as_mut_slice-tenants.result.now c.all_ready.new.finished.entries (left g c) c.instant_with.new.finished.entries
next g c =
    let e = c.instant_with.ensures in
    next_written (readied g (At g c)) c.args.frame.now c.instant_with.new.tenants _ c.instant_with.new.finished.entries (record { instants = e.instants; table = e.table; exact = e.entries })

whole : (g : Over) (c : goal.After-self-4-1 g) → IsWhole c.self.inside.config (c.self.inside.clock + 1) (left g c) c.instant_with.new.finished.entries
whole g c = whole_behind (readied g (At g c)) c.args.frame.now (left g c) c.instant_with.new.finished.entries (next g c)

pub invariant_of-self-2 : goal.invariant_of-self-2
invariant_of-self-2 g c = record {
  whole = whole g c;
  places = omega (arith, c.self.invariant.places, long_places g (At g c) c.instant_with.new.granted c.instant_with.auto.granted);
}

pub returns-clause-step : goal.returns-clause-step
returns-clause-step g c = λ setting state stands.
    stands_behind (readied g (At g c)) c.args.frame.now (left g c) c.instant_with.new.finished.entries (next g c) setting state (subst (λ (h : HostStanding). Stands setting h state) (sym c.self.view_is) stands)

pub returns-clause-jobs : goal.returns-clause-jobs
returns-clause-jobs g c =
    let new = c.instant_with.new.tenants in
    c.instant_with.ensures.jobs c.self.inside.clock (λ k d lt. ((readied g (At g c)).whole.known k d lt).0)
    ∙ (sym (gathered_at_rest _ (λ k s. refl) 0 new)
    ∙ (ap (λ (h : HostStanding). released_from h.clock 0 (map at_rest new)) c.self.view_is
    ∙ ap (λ xs. released_from c.args.self.now.clock 0 (map at_rest xs)) (sym (written_behind (readied g (At g c)) c.args.frame.now new _ c.instant_with.ensures.instants))))

pub returns-clause-known : goal.returns-clause-known
returns-clause-known g c = All-map (λ (s : Standing). IsKnown s.tenancy s.row) at_rest _ (λ k d lt. ((whole g c).known k d lt).1.known)

pub returns-clause-few : goal.returns-clause-few
returns-clause-few g c =
    subst (λ js. length js ≤ most_of c.args.self.now.tenants) (sym (returns-clause-jobs g c))
    (subst (λ (h : HostStanding). length (released_from h.clock 0 (map at_rest (left g c))) ≤ most_of h.tenants) c.self.view_is (few_released (readied g (At g c)) (next g c)))

pub returns-clause-outstanding : goal.returns-clause-outstanding
returns-clause-outstanding g c =
    let new = length (outstanding_from c.instant_with.new.finished.entries 0 (map at_rest (left g c))) in
    subst (λ js. new ≤ outstanding_count c.args.self.now + length js) (sym (returns-clause-jobs g c))
    (subst (λ (h : HostStanding). new ≤ outstanding_count h + length (released_from h.clock 0 (map at_rest (left g c)))) c.self.view_is (outstanding_grown (readied g (At g c)) (next g c)))
