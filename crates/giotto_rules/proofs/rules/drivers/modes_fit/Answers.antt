use Rattle.std.proofs.Common.{refl, arith, length, ◌<◌}
use Rattle.giotto_text.specs.ProgramTrees.{mode_of}
use Rattle.giotto_rules.specs.Declarations.{mode_ports}
use Rattle.giotto_rules.proofs.FindLemmas.{mapped_at}
use Rattle.giotto_rules.proofs.rules.drivers.modes_fit.Goals as goal

pub mode_drivers_fit-requires-clause-own : goal.mode_drivers_fit-requires-clause-own
mode_drivers_fit-requires-clause-own c =
    let p = c.args.program.now in
    let within : c.loop-i.i < length c.modes-modes.result.now = grind arith in
    mapped_at (mode_ports p) mode_of c.args.ports.now p.modes c.modes-modes.result.now c.loop-i.i c.index-ports-i.result c.index-modes-i.result c.requires.ports c.modes-modes.ensures within c.index-ports-i.is c.index-modes-i.is

pub mode_drivers_fit-requires-clause-sources : goal.mode_drivers_fit-requires-clause-sources
mode_drivers_fit-requires-clause-sources c =
    let p = c.args.program.now in
    let within : c.loop-i.i < length c.modes-modes.result.now = grind arith in
    let own = mapped_at (mode_ports p) mode_of c.args.ports.now p.modes c.modes-modes.result.now c.loop-i.i c.index-ports-i.result c.index-modes-i.result c.requires.ports c.modes-modes.ensures within c.index-ports-i.is c.index-modes-i.is in
    rw (c.joined-sources.ensures, own, c.requires.sensors) refl
