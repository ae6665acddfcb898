use Rattle.locked_book.proofs.NextStarts.{rises_on, rises_on_late}
use Rattle.locked_book.proofs.windows.next_window.Goals.{then-place-from+then-place-highest, else-place-from, else-place-from-via-then-place-from+else-place-highest, else-place-from-via-else-place-from}
use Rattle.locked_book.proofs.windows.next_window.Goals as goal
use Rattle.std.proofs.Common.{◌<◌, ◌^◌, arith}
use Rattle.locked_book.specs.inner.Places.{place_in}

pub loop-i-preserved : goal.loop-i-preserved
loop-i-preserved c =
    let place = c.place_at-place.ensures in
    let fits : place_in c.args.entries.now c.loop-i.i < 2 ^ 128 = (let t = c.place_at-place.type_inv in omega (arith, place, t)) in
    elim c.if-place-from.branch [
      | then-place-from+then-place-highest w ↦
          rw (w.start-is, w.least.ensures, c.max-highest.ensures, place)
          (rises_on_late c.args.entries.now c.args.from c.loop-i.i c.loop-i.highest c.loop-i.start c.loop-i.invariant fits (let b = w.if-place-from in omega (arith, b, place)))
      | else-place-from w ↦
          rw (w.start-is, c.max-highest.ensures, place)
          (rises_on c.args.entries.now c.args.from c.loop-i.i c.loop-i.highest c.loop-i.start c.loop-i.invariant fits
          (λ behind. elim w.else-place-from.branch [
            | else-place-from-via-then-place-from+else-place-highest v ↦ (let h = v.if-place-highest in omega (arith, h, place))
            | else-place-from-via-else-place-from v ↦ (let b = v.if-place-from in omega (arith, b, place, behind))
          ]))
    ]
