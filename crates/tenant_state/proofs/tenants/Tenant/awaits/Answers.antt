use Rattle.std.proofs.Common.{◌≡◌, None, Some, refl, sym, ◌∙◌}
use Rattle.std.proofs.lemmas.Bool.{false≢true}
use Rattle.tenant_state.proofs.Completing.{none_there, so_there, awaits}
use Rattle.tenant_state.proofs.tenants.Tenant.awaits.Goals as goal

pub returns-in_default-place_of : goal.returns-in_default-place_of
returns-in_default-place_of c =
    let found = rw (c.as_slice.ensures, c.id.ensures, c.own.ensures.place) at c.in_default-place_of.ensures.found in
    let none = none_there c.in-Some.checked c.self.inside.grants.owner.place c.args.done.now.id c.self.inside.active.items found in
    rw (← c.self.view_is, c.in-Some.is) (λ h. absurd (false≢true h), λ e. absurd (let f : None ≡ Some c.args.done.now = sym none ∙ e in cc))

pub declared-requires : goal.declared-requires
declared-requires c =
    let known = rw c.in-Some.is at c.self.invariant.0 in
    let within = rw c.as_slice.ensures at c.in-Some-place_of.ensures.within in
    (so_there _ _ _ within (rw c.as_slice-2.ensures at c.index-as_slice-place.is) _ known.fits.each).declared

pub returns : goal.returns
returns c =
    let within = rw c.as_slice.ensures at c.in-Some-place_of.ensures.within in
    let found = rw (c.as_slice.ensures, c.id.ensures, c.own.ensures.place) at c.in-Some-place_of.ensures.found in
    let at = rw c.as_slice-2.ensures at c.index-as_slice-place.is in
    let is = awaits c.in-Some.checked _ _ _ _ _ within at found c.declared.ensures.fits c.declared.result.now c.declared.ensures.task c.args.done.now refl in
    let tests = rw c.job.ensures at c.is_of_release.ensures in
    rw (← c.self.view_is, c.in-Some.is) (λ h. is.0 (tests.0 h), λ e. tests.1 (is.1 e))
