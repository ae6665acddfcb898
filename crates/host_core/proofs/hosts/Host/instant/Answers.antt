use Rattle.std.proofs.Common.{◌≡◌, ◌+◌, ◌-◌, ◌<◌, ◌≤◌, ◌^◌, ◌++◌, List, length, map, take, drop, refl, ap, sym, subst, ◌∙◌, arith}
use Rattle.std.proofs.lemmas.List.Elements.{All-map}
use Rattle.std.specs.List.{All}
use Rattle.std.specs.Prelude.{OnSome}
use Rattle.std.specs.Vec.{vec_items, with_items}
use Rattle.instant_engine.specs.Tenants.{most_of, released_from}
use Rattle.instant_engine.specs.cited.Halves.{IsReady}
use Rattle.instant_engine.specs.state.Standing.{IsKnown, Standing, at_rest}
use Rattle.host_core.specs.HostStanding.{HostStanding, Stands, outstanding_count, outstanding_from}
use Rattle.host_core.specs.declared.hosts.Host.TheInside.{Inside}
use Rattle.host_core.specs.inner.HostStanding.{IsWhole, most_binds}
use Rattle.host_core.proofs.AtRest.{gathered_at_rest}
use Rattle.host_core.proofs.HostInstants.{AreReadied, IsNext, are_readied, counts_again, next_written, places_again, rosters_again, stands_behind, whole_behind, written_behind, written_over}
use Rattle.host_core.proofs.HostReleases.{few_released, outstanding_grown}
use Rattle.host_core.proofs.hosts.Host.instant.Goals as goal
use Rattle.host_core.proofs.hosts.Host.instant.Goals.{After-all_ready, After-as_mut_slice-granted}

-- the host's tenants are ready
made : (c : After-all_ready) → AreReadied c.self.inside.config c.self.inside.clock c.self.inside.tenants.len c.self.inside.tenants.items
    (take c.self.inside.tenants.len (c.all_ready.new.tenants ++ drop (length c.all_ready.new.tenants) c.self.inside.tenants.items)) c.self.inside.finished.entries c.all_ready.new.finished.entries
made c =
    are_readied c.self.inside.config c.self.inside.clock c.self.inside.tenants.len c.self.inside.tenants.items c.as_mut_slice.result.now c.all_ready.new.tenants c.self.inside.finished.entries c.all_ready.new.finished.entries
    c.as_mut_slice.ensures.value c.as_mut_slice.ensures.len c.all_ready.ensures.rest c.all_ready.ensures.entries c.self.invariant.whole

pub invariant_of-self : goal.invariant_of-self
invariant_of-self c = record { whole = (made (goal.at.invariant_of-self c).After-all_ready).whole; places = c.self.invariant.places }

module _ (c : After-as_mut_slice-granted) where
  readied : AreReadied c.self.inside.config c.self.inside.clock c.self.inside.tenants.len c.self.inside.tenants.items c.as_mut_slice-tenants.result.now c.self.inside.finished.entries c.all_ready.new.finished.entries
  readied =
      subst (λ xs. AreReadied c.self.inside.config c.self.inside.clock c.self.inside.tenants.len c.self.inside.tenants.items xs c.self.inside.finished.entries c.all_ready.new.finished.entries) (sym c.as_mut_slice-tenants.ensures.value)
      (are_readied c.self.inside.config c.self.inside.clock c.self.inside.tenants.len c.self.inside.tenants.items c.as_mut_slice.result.now c.all_ready.new.tenants c.self.inside.finished.entries c.all_ready.new.finished.entries
      c.as_mut_slice.ensures.value c.as_mut_slice.ensures.len c.all_ready.ensures.rest c.all_ready.ensures.entries c.self.invariant.whole)

  all_ready : All IsReady c.as_mut_slice-tenants.result.now
  all_ready =
      let whole = written_over c.self.inside.tenants.len c.self.inside.tenants.items c.all_ready.new.tenants (c.all_ready.auto.tenants ∙ c.as_mut_slice.ensures.len) in
      subst (All IsReady) (sym (c.as_mut_slice-tenants.ensures.value ∙ whole)) (subst (λ o. OnSome o (All IsReady c.all_ready.new.tenants)) c.in_ok-_most.ensures.ok_part c.all_ready.ensures.ready)

  all_below : All (λ (s : Standing). s.row.next_tick < 2 ^ 64 - 1) c.as_mut_slice-tenants.result.now
  all_below = counts_again readied (subst (λ n. n < 2 ^ 64 - 1) (ap (λ (h : HostStanding). h.clock) (sym c.self.view_is)) c.in_ok-check.ensures.next)

  long_places : (granted : List _) → length granted ≡ length c.as_mut_slice-granted.result.now → length (vec_items (with_items c.self.inside.granted granted)) ≡ length c.self.inside.granted.items
  long_places granted same =
      let long : length granted ≡ c.self.inside.granted.len = same ∙ c.as_mut_slice-granted.ensures.len in
      omega (arith, ap length (written_over c.self.inside.granted.len c.self.inside.granted.items granted long), same, ap length c.as_mut_slice-granted.ensures.value)

pub advance-requires-clause-placed : goal.advance-requires-clause-placed
advance-requires-clause-placed c = (readied (goal.at.advance-requires-clause-placed c).After-as_mut_slice-granted).whole.placed

pub advance-requires-clause-between : goal.advance-requires-clause-between
advance-requires-clause-between c = λ k d lt. ((readied (goal.at.advance-requires-clause-between c).After-as_mut_slice-granted).whole.known k d lt).1

pub advance-requires-clause-counts : goal.advance-requires-clause-counts
advance-requires-clause-counts c = all_below (goal.at.advance-requires-clause-counts c).After-as_mut_slice-granted

pub advance-requires-clause-ready : goal.advance-requires-clause-ready
advance-requires-clause-ready c = all_ready (goal.at.advance-requires-clause-ready c).After-as_mut_slice-granted

pub advance-requires-clause-rosters : goal.advance-requires-clause-rosters
advance-requires-clause-rosters c = rosters_again (readied (goal.at.advance-requires-clause-rosters c).After-as_mut_slice-granted)

pub advance-requires-clause-places : goal.advance-requires-clause-places
advance-requires-clause-places c =
    places_again (readied (goal.at.advance-requires-clause-places c).After-as_mut_slice-granted) c.as_mut_slice-granted.result.now (omega (arith, c.self.invariant.places, ap length c.as_mut_slice-granted.ensures.value))

pub advance-requires-clause-table : goal.advance-requires-clause-table
advance-requires-clause-table c = (readied (goal.at.advance-requires-clause-table c).After-as_mut_slice-granted).whole.table

-- the host before the instant runs
abbrev At : goal.After-self-4-1 → After-as_mut_slice-granted
At c = (goal.at.invariant_of-self-2 c).After-as_mut_slice-granted

-- the tenants after it
abbrev left : goal.After-self-4-1 → List Standing
left c =
    let places = c.self.inside.tenants.len in
    let ready = take places (c.all_ready.new.tenants ++ drop (length c.all_ready.new.tenants) c.self.inside.tenants.items) in
    take places (c.advance.new.tenants ++ drop (length c.advance.new.tenants) ready)

next : (c : goal.After-self-4-1) → IsNext c.args.frame.now c.as_mut_slice-tenants.result.now c.all_ready.new.finished.entries (left c) c.advance.new.finished.entries
next c =
    let e = c.advance.ensures in
    next_written (readied (At c)) c.args.frame.now c.advance.new.tenants _ c.advance.new.finished.entries (record { instants = e.instants; table = e.table; exact = e.entries })

pub invariant_of-self-2 : goal.invariant_of-self-2
invariant_of-self-2 c = record {
  whole = whole_behind (readied (At c)) c.args.frame.now (left c) c.advance.new.finished.entries (next c);
  places = omega (arith, c.self.invariant.places, long_places (At c) c.advance.new.granted c.advance.auto.granted);
}

pub returns-clause-step : goal.returns-clause-step
returns-clause-step c = λ setting state stands.
    stands_behind (readied (At c)) c.args.frame.now (left c) c.advance.new.finished.entries (next c) setting state (subst (λ (h : HostStanding). Stands setting h state) (sym c.self.view_is) stands)
