use Rattle.std.proofs.Common.{arith, refl, sym, subst}
use Rattle.rig_server.specs.inner.Archived.{IsReleased}
use Rattle.rig_server.proofs.Archiving.{released_none, released_one}
use Rattle.rig_server.proofs.register.Register.release.Goals as goal

pub loop-at-init : goal.loop-at-init
loop-at-init g c = (released_none c.args.archived.now.rows.items c.args.self.now.passes.items, refl, refl, refl)

pub loop-at-preserved-then-release : goal.loop-at-preserved-then-release
loop-at-preserved-then-release g c =
    let rows_before = c.args.archived.now.rows.items in
    let rows_after = c.release.new.self.rows.items in
    let before = c.args.self.now.passes.items in
    let released = c.if-release.ensures in
    let same = c.loop-at.invariant in (
      subst (IsReleased rows_before rows_after before) (sym c.remove-pass.ensures.items)
          (released_one rows_before c.loop-at.archived.rows.items rows_after before c.loop-at.self.passes.items c.loop-at.at c.index.result.now same.0
          (omega (arith, c.loop-at-test.true, c.len.ensures)) (sym c.index.ensures) (released.exact.0 refl) (released.forgotten refl) released.others),
      same.1,
      same.2,
      same.3,
    )

pub loop-at-preserved-then-release-2 : goal.loop-at-preserved-then-release-2
loop-at-preserved-then-release-2 g c =
    let rows_before = c.args.archived.now.rows.items in
    let rows_after = c.release.new.self.rows.items in
    let before = c.args.self.now.passes.items in
    let released = c.if-release.ensures in
    let same = c.loop-at.invariant in (
      subst (IsReleased rows_before rows_after before) (sym c.remove-pass.ensures.items)
          (released_one rows_before c.loop-at.archived.rows.items rows_after before c.loop-at.self.passes.items c.loop-at.at c.index.result.now same.0
          (omega (arith, c.loop-at-test.true, c.len.ensures)) (sym c.index.ensures) (released.exact.0 refl) (released.forgotten refl) released.others),
      same.1,
      same.2,
      same.3,
    )
