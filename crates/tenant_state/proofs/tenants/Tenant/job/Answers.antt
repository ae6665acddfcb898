use Rattle.std.proofs.Common.{◌≡◌, true, false, is_some, sym, ap, ◌∙◌}
use Rattle.giotto_tasks.proofs.cited.ListLemmas.{is_some-option_map}
use Rattle.rig_model.specs.Jobs.{job_of}
use Rattle.tenant_state.specs.Tenants.{active_of}
use Rattle.tenant_jobs.specs.Finished.{has_result}
use Rattle.tenant_state.proofs.Completing.{fits_body, sound_body, so_there, awaited_now, none_awaited, none_there, not_awaited}
use Rattle.tenant_state.proofs.tenants.Tenant.job.Goals as goal

pub returns-in_default-place_of-clause-job : goal.returns-in_default-place_of-clause-job
returns-in_default-place_of-clause-job c =
    let found = rw (c.as_slice.ensures, c.own-tenant.ensures.place) at c.in_default-place_of.ensures.found in
    rw (← c.self.view_is, c.in-Some.is) (sym (none_awaited (has_result c.args.finished.now.entries c.args.id.now) _ (none_there c.in-Some.checked c.self.inside.grants.owner.place c.args.id.now c.self.inside.active.items found)))

pub declared-requires : goal.declared-requires
declared-requires c =
    let known = rw c.in-Some.is at c.self.invariant.0 in
    let within = rw c.as_slice.ensures at c.in-Some-place_of.ensures.within in
    (so_there _ _ _ within (rw c.as_slice-2.ensures at c.index-as_slice-place.is) _ known.fits.each).declared

pub new-requires : goal.new-requires
new-requires c =
    let known = rw c.in-Some.is at c.self.invariant.0 in
    let within = rw c.as_slice.ensures at c.in-Some-place_of.ensures.within in
    let fits = fits_body c.in-Some.checked _ c.declared.result.now c.declared.ensures.task (so_there _ _ _ within (rw c.as_slice-2.ensures at c.index-as_slice-place.is) _ known.fits.each).declared in
    rw (c.copy.ensures, c.in_ok-body.ensures, c.copy-inputs.ensures, c.copy-states.ensures)
    (record { inputs = fits.0; states = fits.1; sound = sound_body c.in-Some.checked c.index-as_slice-place.result c.declared.result.now c.declared.ensures.task c.declared.ensures.fits })

pub returns-then-is_some-clause-job : goal.returns-then-is_some-clause-job
returns-then-is_some-clause-job c =
    let within = rw c.as_slice.ensures at c.in-Some-place_of.ensures.within in
    let found = rw (c.as_slice.ensures, c.own-tenant.ensures.place) at c.in-Some-place_of.ensures.found in
    let at = rw c.as_slice-2.ensures at c.index-as_slice-place.is in
    let came : has_result c.args.finished.now.entries (job_of c.self.inside.grants.owner.place (active_of c.in-Some.checked c.index-as_slice-place.result)) ≡ true =
    ap (λ t. has_result c.args.finished.now.entries (job_of t (active_of c.in-Some.checked c.index-as_slice-place.result))) (sym c.own-tenant.ensures.place) ∙ ap is_some (sym c.result_of.ensures) ∙ (is_some-option_map _ c.result_of.result ∙ sym c.if-is_some.ensures) in
    rw (← c.self.view_is, c.in-Some.is) (sym (not_awaited c.in-Some.checked c.self.inside.grants.owner.place c.args.id.now c.self.inside.active.items c.args.finished.now.entries _ _ within at found came))

pub returns-clause-job : goal.returns-clause-job
returns-clause-job c =
    let within = rw c.as_slice.ensures at c.in-Some-place_of.ensures.within in
    let found = rw (c.as_slice.ensures, c.own-tenant.ensures.place) at c.in-Some-place_of.ensures.found in
    let none : has_result c.args.finished.now.entries (job_of c.self.inside.grants.owner.place (active_of c.in-Some.checked c.index-as_slice-place.result)) ≡ false =
    ap (λ t. has_result c.args.finished.now.entries (job_of t (active_of c.in-Some.checked c.index-as_slice-place.result))) (sym c.own-tenant.ensures.place) ∙ ap is_some (sym c.result_of.ensures) ∙ (is_some-option_map _ c.result_of.result ∙ sym c.if-is_some.ensures) in
    rw (← c.self.view_is, c.in-Some.is, c.new.ensures, c.copy.ensures, c.in_ok-body.ensures, c.copy-inputs.ensures, c.copy-states.ensures)
    (sym (awaited_now c.in-Some.checked _ _ _ _ _ within (rw c.as_slice-2.ensures at c.index-as_slice-place.is) found c.declared.ensures.fits c.declared.result.now c.declared.ensures.task c.args.finished.now.entries none))

-- a share is asked for only if the completion is awaited
pub returns-in_err-body-clause-never_refused : goal.returns-in_err-body-clause-never_refused
returns-in_err-body-clause-never_refused c = λ none.
    let within = rw c.as_slice.ensures at c.in-Some-place_of.ensures.within in
    let found = rw (c.as_slice.ensures, c.own-tenant.ensures.place) at c.in-Some-place_of.ensures.found in
    let not_yet : has_result c.args.finished.now.entries (job_of c.self.inside.grants.owner.place (active_of c.in-Some.checked c.index-as_slice-place.result)) ≡ false =
    ap (λ t. has_result c.args.finished.now.entries (job_of t (active_of c.in-Some.checked c.index-as_slice-place.result))) (sym c.own-tenant.ensures.place) ∙ ap is_some (sym c.result_of.ensures) ∙ (is_some-option_map _ c.result_of.result ∙ sym c.if-is_some.ensures) in
    let some = awaited_now c.in-Some.checked _ _ _ _ _ within (rw c.as_slice-2.ensures at c.index-as_slice-place.is) found c.declared.ensures.fits c.declared.result.now c.declared.ensures.task c.args.finished.now.entries not_yet in
    let none_there = rw (← c.self.view_is, c.in-Some.is) at none in
    let bad = sym some ∙ none_there in
    absurd (cc)
