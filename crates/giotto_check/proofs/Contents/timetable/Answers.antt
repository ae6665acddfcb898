use Rattle.std.proofs.Common.{length}
use Rattle.giotto_check.specs.cited.Timetables.{AreEach, IsTimetable}
use Rattle.giotto_check.proofs.cited.EachLemmas.{each_long, lent_at, none_past}
use Rattle.giotto_check.proofs.Contents.timetable.Goals as goal

pub returns-clause-there : goal.returns-clause-there
returns-clause-there c = λ m at.
    let p = c.args.self.now in
    let tables = c.deref.result.now in
    let each : AreEach (IsTimetable p) p.modes tables = rw (c.deref.ensures.value, ← c.self.view_is) c.self.invariant.numbered.modes in
    lent_at (IsTimetable p) p.modes tables c.args.mode m c.get.result each at c.get.ensures.lookup.0 c.get.ensures.lookup.1

pub returns-clause-none : goal.returns-clause-none
returns-clause-none c = λ past.
    let p = c.args.self.now in
    let tables = c.deref.result.now in
    let each : AreEach (IsTimetable p) p.modes tables = rw (c.deref.ensures.value, ← c.self.view_is) c.self.invariant.numbered.modes in
    none_past (length p.modes) c.args.mode tables c.get.result (each_long (IsTimetable p) p.modes tables each) c.get.ensures.lookup.0 past
