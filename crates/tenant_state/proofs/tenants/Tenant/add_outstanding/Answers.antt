use Rattle.std.proofs.Common.{rules, ◌≡◌, ◌+◌, ◌<◌, ◌++◌, ◌∷◌, [], false, true, map, take, length, get_or, ap, sym, ◌∙◌, append_assoc, arith}
use Rattle.std.proofs.lemmas.List.{map-append, take_more, length-map, get_or-map}
use Rattle.std.specs.Prelude.{OnErr, Result, Ok, Err}
use Rattle.rig_model.specs.Jobs.{job_of}
use Rattle.tenant_jobs.specs.Finished.{has_result}
use Rattle.tenant_state.specs.Tenants.{active_of}
use Rattle.tenant_state.proofs.Completing.{left_of, left_with, left_without, some_left}
use Rattle.tenant_state.proofs.tenants.Tenant.add_outstanding.Goals as goal
use Rattle.tenant_state.proofs.tenants.Tenant.add_outstanding.Goals.{then-is_none+in_ok-push, else-is_none}

pub loop-active-preserved : goal.loop-active-preserved
loop-active-preserved c =
    let p = c.in-Some.checked in
    let t = c.own-tenant.result in
    let entries = c.args.finished.now.entries in
    let items = c.as_slice-active-items.result.now in
    let i = c.loop-active.active-index in
    let a = c.active-item.result in
    let so_far = map (active_of p) (take i items) in
    let more : map (active_of p) (take (i + 1) items) ≡ so_far ++ active_of p a ∷ [] =
    ap (map (active_of p)) (take_more items i a c.loop-active-test.true) ∙ map-append (active_of p) (take i items) (get_or items i a ∷ []) ∙ ap (λ b. so_far ++ active_of p b ∷ []) (sym c.active-item.is) in
    let left = left_of t entries so_far in
    let named : map (job_of t) (left ++ active_of p a ∷ []) ≡ map (job_of t) left ++ job_of t (active_of p a) ∷ [] = map-append (job_of t) left (active_of p a ∷ []) in
    elim c.if-is_none.branch [
      | then-is_none+in_ok-push w ↦
          let none : has_result entries (job_of t (active_of p a)) ≡ false = search rules in
          let after = ap (left_of t entries) more ∙ left_with t entries so_far (active_of p a) none in
          let pushed : c.if-is_none.names.items ≡ c.loop-active.names.items ++ job_of t (active_of p a) ∷ [] = search rules in
          pushed ∙ ap (λ l. l ++ job_of t (active_of p a) ∷ []) c.loop-active.invariant ∙ append_assoc c.args.names.now.items (map (job_of t) left) (job_of t (active_of p a) ∷ [])
          ∙ ap (λ l. c.args.names.now.items ++ l) (sym named ∙ ap (map (job_of t)) (sym after))
      | else-is_none w ↦
          let some : has_result entries (job_of t (active_of p a)) ≡ true = search rules in
          let after = ap (left_of t entries) more ∙ left_without t entries so_far (active_of p a) some in
          let kept : c.if-is_none.names.items ≡ c.loop-active.names.items = search rules in
          kept ∙ c.loop-active.invariant ∙ ap (λ l. c.args.names.now.items ++ map (job_of t) l) (sym after)
    ]

on_err : {T E : Type 0} (r : Result T E) (P : Type 0) → P → OnErr r P
on_err (Ok x) P h = tt
on_err (Err e) P h = h

pub returns-in_err-push-clause-memory : goal.returns-in_err-push-clause-memory
returns-in_err-push-clause-memory c =
    let p = c.in-Some.checked in
    let t = c.own-tenant.result in
    let entries = c.args.finished.now.entries in
    let items = c.as_slice-active-items.result.now in
    let i = c.loop-active.active-index in
    let a = c.active-item.result in
    let none : has_result entries (job_of t (active_of p a)) ≡ false = search rules in
    let long : i < length (map (active_of p) items) = omega (arith, length-map items (active_of p), c.loop-active-test.true) in
    let here : get_or (map (active_of p) items) i (active_of p a) ≡ active_of p a = get_or-map (active_of p) items i a (active_of p a) c.loop-active-test.true ∙ ap (active_of p) (sym c.active-item.is) in
    let some : 0 < length (left_of t entries (map (active_of p) items)) =
    some_left t entries (map (active_of p) items) i (active_of p a) long (ap (λ b. has_result entries (job_of t b)) here ∙ none) in
    on_err c.from_residual.result _ (rw (← c.self.view_is, c.in-Some.is) (rw (c.as_slice-active-items.ensures, c.own-tenant.ensures.place) at some))
