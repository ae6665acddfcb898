use Rattle.std.proofs.Common.{◌≡◌, ◌≢◌, ◌-◌, ◌^◌, ⊎_elim, arith, length, refl, sym, ap, ◌∙◌, subst}
use Rattle.std.proofs.lemmas.Bool.{cases_eq}
use Rattle.rig_model.specs.config.Roster.{Rig}
use Rattle.rig_model.specs.declared.logged.Logged.TheVariants as logged
use Rattle.locked_book.specs.Books.{BookValue}
use Rattle.locked_book.proofs.Steps.{plain_on}
use Rattle.locked_book.proofs.books.Book.tick.Goals as goal

pub invariant_of-self-2 : goal.invariant_of-self-2
invariant_of-self-2 g c =
    let rig = g.N.Naming.config in
    let first = g.N.Naming.first_tick in
    let book : BookValue = record { base = c.self.inside.base; host = c.self.inside.host; log = c.self.inside.log.items; seats = length c.self.inside.seats.items } in
    let ticked = c.in_ok-jobs.ensures in
    let few = ticked.few in
    let outstanding = ticked.outstanding in
    let added = ticked.logged in
    let space = added.1 in
    let fits = c.known.ensures in
    let lines : length c.args.frame.now ≡ book.host.config.lines =
    ⊎_elim (λ e. e) (λ ne. absurd (let bad = ticked.bad_frame.1 ne in cc)) (cases_eq (length c.args.frame.now) book.host.config.lines) in
    let clock : book.host.clock ≢ 2 ^ 64 - 1 = λ e. absurd (let bad = ticked.clock_ended.1 (lines, e) in cc) in
    let k = c.self.invariant.2.clock in (
      omega (arith, few, outstanding, space),
      c.self.invariant.1,
      rw (added.0)
          (plain_on rig first book c.self.inside.seats.items c.tick_logged.new.self (logged.Tick c.args.frame.now) c.self.invariant.2
          (λ i seat. refl) (λ seat. refl)
          (λ setting state st. (
            ticked.step setting state st,
            (lines ∙ ap (λ (r : Rig). r.lines) st.same_config, (let at = st.same_clock in omega (arith, at, k, clock))),
          ))
          (omega (arith, few, outstanding, space, fits))),
    )
