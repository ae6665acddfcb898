use Rattle.std.proofs.Common.{rules, [], ◌∷◌, refl}
use Rattle.std.proofs.KnownBytes.{Appends-nil}
use Rattle.rig_operator.specs.Asked.{settled}
use Rattle.rig_model.specs.OperatorLines.{bad_command, settle, work, work_of}
use Rattle.rig_operator.specs.Operation.IsAnswered.{no_work, no_work_of, nothing, unknown, waited}
use Rattle.rig_operator.specs.Replies.{err_bad_command, ok_wait}
use Rattle.rig_operator.proofs.Adding.{adds_nothing}
use Rattle.rig_operator.proofs.Replying.{replied}
use Rattle.rig_operator.proofs.operating.carry_out.Goals as goal

pub returns-in-Blank : goal.returns-in-Blank
returns-in-Blank g c = rw c.in-Blank.is ([], [], adds_nothing (g.G.Rig.asked c.args.rig.now), Appends-nil (g.W.Write.contents c.args.writer.now), nothing, refl)

pub returns-in-Wait : goal.returns-in-Wait
returns-in-Wait g c =
    let contents = g.W.Write.contents in
    let number = c.args.number.now in
    rw c.in-Wait.is (replied _ number number settle (contents c.args.writer.now) (contents c.say.new.writer) c.say.result (settled ∷ []) ok_wait c.say.ensures.written c.say.ensures.fault (search rules) waited refl)

pub returns-in-Work : goal.returns-in-Work
returns-in-Work g c =
    let contents = g.W.Write.contents in
    let number = c.args.number.now in
    let said = c.say-in-Work in
    rw c.in-Work.is (replied _ number number work (contents c.args.writer.now) (contents said.new.writer) said.result [] err_bad_command said.ensures.written said.ensures.fault (adds_nothing (g.G.Rig.asked c.args.rig.now)) no_work refl)

pub returns-in-WorkOf : goal.returns-in-WorkOf
returns-in-WorkOf g c =
    let contents = g.W.Write.contents in
    let number = c.args.number.now in
    let said = c.say-in-WorkOf in
    rw c.in-WorkOf.is (replied _ number number (work_of c.in-WorkOf.field-0.now) (contents c.args.writer.now) (contents said.new.writer) said.result [] err_bad_command said.ensures.written said.ensures.fault (adds_nothing (g.G.Rig.asked c.args.rig.now)) (no_work_of c.in-WorkOf.field-0.now) refl)

pub returns-in-BadCommand : goal.returns-in-BadCommand
returns-in-BadCommand g c =
    let contents = g.W.Write.contents in
    let number = c.args.number.now in
    let said = c.say-in-BadCommand in
    rw c.in-BadCommand.is (replied _ number number bad_command (contents c.args.writer.now) (contents said.new.writer) said.result [] err_bad_command said.ensures.written said.ensures.fault (adds_nothing (g.G.Rig.asked c.args.rig.now)) unknown refl)
