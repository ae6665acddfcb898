use Rattle.std.proofs.Common.{◌≡◌, length, is_some, sym, ap, subst, ◌∙◌, arith}
use Rattle.std.specs.List.{count_by, filter_map}
use Rattle.slab.specs.Slab.{Slab, slab_len, values}
use Rattle.tenant_jobs.specs.Finished.{TableEntry}
use Rattle.tenant_jobs.specs.cited.Finished.{NamesDiffer, result_count}
use Rattle.tenant_jobs.proofs.Copies.{same_slots}
use Rattle.tenant_jobs.proofs.finished.Finished.copy.Goals as goal

module _ (c : goal.After-result-1) where
  slots : c.reserve.new.self.slots ≡ c.self.inside.entries.slots
  slots = ap (λ (s : Slab TableEntry). s.slots) c.reserve.ensures.rest_kept ∙ same_slots c.self.inside.entries.slots c.in_ok-entries.entries.slots c.in_ok-entries.ensures.cases.slots

  entries : values c.reserve.new.self ≡ values c.self.inside.entries
  entries = ap (filter_map (λ slot. slot)) slots

  as_many : slab_len c.reserve.new.self ≡ slab_len c.self.inside.entries
  as_many = ap (count_by is_some) slots

  space : length c.add_spare.new.spare.items ≡ length c.self.inside.spare.items
  space = omega (arith, c.in_ok-add_spare.ensures.all, c.len-room.ensures)

pub invariant_of-result : goal.invariant_of-result
invariant_of-result c = (
  subst NamesDiffer (sym (entries c)) c.self.invariant.0,
  c.self.invariant.1 ∙ ap result_count (sym (entries c)),
  omega (arith, c.in_ok-reserve.ensures.room, c.in_ok-add_spare.ensures.all),
  omega (arith, as_many c, c.len.ensures, c.in_ok-spare.ensures.capacity, c.in_ok-add_spare.ensures.all, c.add_spare.ensures.capacity),
)

pub returns : goal.returns
returns c = (λ k. record { entries = entries c k; room = space c k }) ∙ c.self.view_is
