use Rattle.std.proofs.Common.{map, sym, ap, subst, ◌∙◌, arith}
use Rattle.std.specs.List.{AllByRecursion}
use Rattle.std.proofs.lemmas.Option.{slice_get_within}
use Rattle.tenant_state.specs.Tenants.{active_of}
use Rattle.tenant_state.specs.Standing.{all_different_releases}
use Rattle.tenant_state.specs.inner.Invoked.{IsInvokedIn}
use Rattle.tenant_state.specs.inner.Tenants.{IsActiveIn, IsActiveOf}
use Rattle.tenant_state.proofs.EndedTasks.{some_of}
use Rattle.tenant_state.proofs.tenants.Tenant.install.Goals as goal

pub invariant_of-self : goal.invariant_of-self
invariant_of-self c =
    let p = c.args.program in
    rw c.replace.ensures.after ((
      record {
        short_time = omega arith;
        rests = λ e. c.forget_ended.ensures.items ∙ c.end_all.ensures.items;
        different = ap (λ xs. all_different_releases (map (active_of p) xs)) (c.forget_ended.ensures.items ∙ c.end_all.ensures.items);
        fits = record {
          long = c.requires.begins.long;
          mode_there = let start = some_of _ c.start_place-self-inside.ensures in slice_get_within p.modes _ start.0 start.1;
          quiet = λ m at t from before. absurd (omega arith);
          each = subst (AllByRecursion (IsActiveIn p c.self.inside.next_tick)) (sym (c.forget_ended.ensures.items ∙ c.end_all.ensures.items)) tt;
          invoked = λ m at. subst (AllByRecursion (IsInvokedIn p m)) (sym (c.forget_ended.ensures.items ∙ c.end_all.ensures.items)) tt;
          each_ended = subst (AllByRecursion (IsActiveOf p)) (sym c.forget_ended.ensures.ended) tt;
          share_each = c.requires.begins.share_each;
        };
      },
      c.self.invariant.1,
      tt,
    ))
