use Rattle.std.proofs.Common.{◌≡◌, ◌<◌, ◌≤◌, ◌+◌, true, false, Some, ◌∷◌, List, length, map, get_or, refl, sym, ap, subst, ◌∙◌, arith}
use Rattle.std.proofs.lemmas.List.{get_or_default}
use Rattle.instant_engine.specs.Tenants.{tenant_at}
use Rattle.rig_model.specs.declared.jobs.JobId.{JobId}
use Rattle.instant_engine.specs.job_table.Finished.{has_result}
use Rattle.instant_engine.specs.job_table.cited.Finished.{is_entered}
use Rattle.instant_engine.specs.state.Standing.{Standing, at_rest, no_tenant, released_job}
use Rattle.host_core.specs.HostStanding.{HostStanding, Stands, IsOwn, outstanding_jobs}
use Rattle.rig_model.specs.HostState.{HostState}
use Rattle.rig_model.specs.Base.{Setting}
use Rattle.host_core.specs.declared.hosts.Counted.TheVariants as became
use Rattle.host_core.proofs.AtRest.{outstanding_at_rest, standing, stands_inside, stands_outside}
use Rattle.host_core.proofs.Completion.{ComesTo, awaited_own, awaited_parts, awaited_without, comes_to, past_roster}
use Rattle.host_core.proofs.HostSteps.{stands_after_done}
use Rattle.host_core.proofs.HostTables.{active_if_released, entered_if_released, has_added, whole_done}
use Rattle.host_core.proofs.cited.Outstanding.{one_fewer_in}
use Rattle.host_core.proofs.hosts.Host.done.Goals as goal
use Rattle.host_core.proofs.hosts.Host.done.Goals.{then-not-awaits-via-then-not-awaits, then-not-awaits-via-else-not-awaits+then-has}

-- a tenant beyond the roster
beyond : (c : goal.After-drop-done-inside) (setting : Setting) (state : HostState) (stands : Stands setting c.args.self.now state)
    → ComesTo setting (standing c.self.inside) c.args.self.now state c.self.invariant.whole.known c.self.invariant.whole.placed c.self.view_is stands c.args.done became.Late c.args.self.now
beyond c setting state stands =
    let host : HostStanding = standing c.self.inside in
    let place : c.id.result.now.tenant ≡ c.args.done.id.tenant = ap (λ (i : JobId). i.tenant) c.id.ensures in
    let past : length host.tenants ≤ c.args.done.id.tenant = omega (arith, place, c.if-place-len.true) in
    past_roster setting host c.args.self.now state c.self.invariant.whole.known c.self.invariant.whole.placed c.self.view_is stands c.args.done past

pub returns-then-place-len-clause-answer : goal.returns-then-place-len-clause-answer
returns-then-place-len-clause-answer c = λ own setting state stands. (beyond c setting state stands).answer

pub returns-then-place-len-clause-step : goal.returns-then-place-len-clause-step
returns-then-place-len-clause-step c = λ own setting state stands. (beyond c setting state stands).step

-- a completion that isn't awaited, or has its result
pub returns-then-not-awaits-clause-counted : goal.returns-then-not-awaits-clause-counted
returns-then-not-awaits-clause-counted c =
    let host : HostStanding = standing c.self.inside in
    let here : c.index.result.now ≡ get_or host.tenants c.args.done.id.tenant c.index.result.now = c.index.ensures ∙ ap (λ (i : JobId). get_or host.tenants i.tenant c.index.result.now) c.id.ensures in
    let within : c.args.done.id.tenant < length host.tenants = subst (λ (i : JobId). i.tenant < length host.tenants) c.id.ensures (omega (arith, c.if-place-len.false)) in
    let same = awaited_own host c.args.self.now c.self.view_is c.args.done c.index.result.now within here in (
      λ counted. absurd (cc),
      λ some.
          let parts = awaited_parts c.index.result.now host.entries c.args.done.id c.args.done (sym same ∙ some) in
          elim c.then-not-awaits.branch [
            | then-not-awaits-via-then-not-awaits w ↦ absurd (let bad = w.if-not-awaits.ensures.1 parts.1 in cc)
            | then-not-awaits-via-else-not-awaits+then-has w ↦ absurd (let bad = w.if-has.ensures ∙ parts.0 in cc)
          ],
    )

late : (c : goal.After-drop-done-inside-then-not-awaits) (setting : Setting) (state : HostState) (stands : Stands setting c.args.self.now state) → IsOwn c.args.self.now c.args.done
    → ComesTo setting (standing c.self.inside) c.args.self.now state c.self.invariant.whole.known c.self.invariant.whole.placed c.self.view_is stands c.args.done became.Late c.args.self.now
late c setting state stands own =
    comes_to setting (standing c.self.inside) c.args.self.now state c.self.invariant.whole.known c.self.invariant.whole.placed c.self.view_is stands c.args.done became.Late c.args.self.now
    (returns-then-not-awaits-clause-counted c) (λ late. refl) (λ counted. absurd (cc)) own

pub returns-then-not-awaits-clause-answer : goal.returns-then-not-awaits-clause-answer
returns-then-not-awaits-clause-answer c = λ own setting state stands. (late c setting state stands own).answer

pub returns-then-not-awaits-clause-step : goal.returns-then-not-awaits-clause-step
returns-then-not-awaits-clause-step c = λ own setting state stands. (late c setting state stands own).step

-- a completion that counts
pub add-requires-clause-entered : goal.add-requires-clause-entered
add-requires-clause-entered c =
    let host : HostStanding = standing c.self.inside in
    let here : c.index.result.now ≡ get_or host.tenants c.args.done.id.tenant c.index.result.now = c.index.ensures ∙ ap (λ (i : JobId). get_or host.tenants i.tenant c.index.result.now) c.id.ensures in
    let within : c.args.done.id.tenant < length host.tenants = subst (λ (i : JobId). i.tenant < length host.tenants) c.id.ensures (omega (arith, c.if-place-len.false)) in
    entered_if_released host.tenants host.entries c.args.done c.self.invariant.whole c.index.result.now within here (c.if-not-awaits.ensures.0 refl)

module _ (c : goal.After-add) where
  host : HostStanding
  host = standing c.self.inside

  here : c.index.result.now ≡ get_or c.self.inside.tenants.items c.args.done.id.tenant c.index.result.now
  here = c.index.ensures ∙ ap (λ (i : JobId). get_or c.self.inside.tenants.items i.tenant c.index.result.now) c.id.ensures

  within : c.args.done.id.tenant < length c.self.inside.tenants.items
  within = subst (λ (i : JobId). i.tenant < length c.self.inside.tenants.items) c.id.ensures (omega (arith, c.if-place-len.false))

  released : released_job (tenant_at c.self.inside.tenants.items c.args.done.id.tenant) c.args.done.id ≡ Some c.args.done
  released =
      subst (λ (s : Standing). released_job s c.args.done.id ≡ Some c.args.done)
      (here ∙ get_or_default c.self.inside.tenants.items c.args.done.id.tenant c.index.result.now no_tenant within) (c.if-not-awaits.ensures.0 refl)

  none : has_result c.self.inside.finished.entries c.args.done.id ≡ false
  none = sym c.if-has.ensures

  entered : is_entered c.self.inside.finished.entries c.args.done.id ≡ true
  entered = entered_if_released c.self.inside.tenants.items c.self.inside.finished.entries c.args.done c.self.invariant.whole c.index.result.now within here (c.if-not-awaits.ensures.0 refl)

  abbrev behind : HostStanding
  behind = record (standing c.self.inside) { tenants = map at_rest c.self.inside.tenants.items; entries = c.add.new.self.entries }

pub invariant_of-self : goal.invariant_of-self
invariant_of-self c = record {
  whole = whole_done c.self.inside.tenants.items c.self.inside.finished.entries c.add.new.self.entries c.args.done c.self.invariant.whole (within c) (released c) (entered c) c.add.ensures.entries;
  places = c.self.invariant.places;
}

pub returns-clause-counted : goal.returns-clause-counted
returns-clause-counted c = (
  λ counted.
      awaited_own (standing c.self.inside) c.args.self.now c.self.view_is c.args.done c.index.result.now (within c) (here c)
      ∙ awaited_without c.index.result.now c.self.inside.finished.entries c.args.done.id (none c) ∙ c.if-not-awaits.ensures.0 refl,
  λ some. refl,
)

counted : (c : goal.After-add) (setting : Setting) (state : HostState) (stands : Stands setting c.args.self.now state) → IsOwn c.args.self.now c.args.done
    → ComesTo setting (standing c.self.inside) c.args.self.now state c.self.invariant.whole.known c.self.invariant.whole.placed c.self.view_is stands c.args.done became.Counted (behind c)
counted c setting state stands own =
    let host : HostStanding = standing c.self.inside in
    let inside : Stands setting host state = stands_inside setting host state (subst (λ h. Stands setting h state) (sym c.self.view_is) stands) in
    comes_to setting host c.args.self.now state c.self.invariant.whole.known c.self.invariant.whole.placed c.self.view_is stands c.args.done became.Counted (behind c)
    (returns-clause-counted c) (λ late. absurd (cc))
    (λ counted.
    stands_outside setting (record host { entries = c.add.new.self.entries }) (record state { counted = c.args.done.id ∷ state.counted })
    (stands_after_done setting host state c.args.done.id c.add.new.self.entries inside
    (has_added c.self.inside.tenants.items c.self.inside.finished.entries c.add.new.self.entries c.args.done c.self.invariant.whole (within c) (released c) (entered c) c.add.ensures.entries))) own

pub returns-clause-answer : goal.returns-clause-answer
returns-clause-answer c = λ own setting state stands. (counted c setting state stands own).answer

pub returns-clause-step : goal.returns-clause-step
returns-clause-step c = λ own setting state stands. (counted c setting state stands own).step

pub returns-clause-left : goal.returns-clause-left
returns-clause-left c = λ counted.
    let tenants = c.self.inside.tenants.items in
    let entries = c.self.inside.finished.entries in
    ap (λ (h : HostStanding). length (outstanding_jobs h)) (sym c.self.view_is)
    ∙ (ap length (outstanding_at_rest entries tenants)
    ∙ (one_fewer_in tenants c.args.done.id entries c.add.new.self.entries (within c) c.self.invariant.whole.placed
    (has_added tenants entries c.add.new.self.entries c.args.done c.self.invariant.whole (within c) (released c) (entered c) c.add.ensures.entries) (none c)
    (active_if_released tenants entries c.args.done c.self.invariant.whole (within c) (released c))
    (c.self.invariant.whole.known c.args.done.id.tenant no_tenant (within c)).1.known.different
    ∙ ap (λ (js : List JobId). length js + 1) (sym (outstanding_at_rest c.add.new.self.entries tenants))))
