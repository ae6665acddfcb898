use Rattle.std.proofs.Common.{◌≡◌, arith, sym, ap, ◌∙◌, subst, length}
use Rattle.rig_model.specs.config.Roster.{Rig}
use Rattle.rig_model.specs.Base.{new_base}
use Rattle.host_core.specs.HostStanding.{Stands, new_host, outstanding_count}
use Rattle.locked_book.specs.Books.{beginning, new_setting}
use Rattle.locked_book.proofs.Steps.{new_book, new_host_rests}
use Rattle.locked_book.proofs.books.Book.begin.Goals as goal

pub invariant_of-result : goal.invariant_of-result
invariant_of-result g c =
    let rig = g.N.Naming.config in
    let first = g.N.Naming.first_tick in
    let base_is : c.in_ok-base.base ≡ beginning rig first =
    c.in_ok-base.ensures.base ∙ (ap (λ (r : Rig). beginning r c.args.first_tick) c.requires.config ∙ ap (beginning rig) c.requires.first_tick) in
    let host_is : c.in_ok-host.host ≡ new_host rig first =
    c.in_ok-host.ensures.host ∙ (ap (λ (r : Rig). new_host r c.args.first_tick) c.requires.config ∙ ap (new_host rig) c.requires.first_tick) in
    let begins : Stands (new_setting rig first) c.in_ok-base.base.host (new_base rig first) =
    subst (Stands (new_setting rig first) c.in_ok-base.base.host)
    (ap (λ (r : Rig). new_base r c.args.first_tick) c.requires.config ∙ ap (new_base rig) c.requires.first_tick)
    (c.in_ok-base.ensures.begins (new_setting rig first) (sym c.requires.config)) in
    let fits = c.ranges.first_tick.fits in
    let same = c.requires.first_tick in
    let rests = ap outstanding_count host_is ∙ new_host_rests rig first in (
      (let none = ap length c.new-3.ensures in omega (arith, none, rests)),
      ap length c.new-5.ensures.items ∙ sym (ap length c.new-4.ensures.items),
      rw (c.new-3.ensures, c.new-4.ensures.items) (new_book rig first c.in_ok-base.base c.in_ok-host.host base_is host_is begins (omega (arith, fits, same))),
    )
