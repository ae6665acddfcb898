use Rattle.std.proofs.Common.{map, sym}
use Rattle.std.specs.List.{flat_map}
use Rattle.std.proofs.lemmas.List.{take_all}
use Rattle.giotto_text.specs.Canonical.{given_tokens}
use Rattle.giotto_text.specs.ProgramTrees.{destination_of}
use Rattle.giotto_read.proofs.PrintingLemmas.{braces_written, destinations_some, none_left, some_left, written_more}
use Rattle.giotto_read.proofs.Writing.{written_none}
use Rattle.giotto_read.proofs.printing.Printer.destinations.Goals as goal

pub returns-then-is_empty : goal.returns-then-is_empty
returns-then-is_empty c = rw (none_left c.args.destinations.now c.is_empty.result c.is_empty.ensures c.if-is_empty.true) (sym (written_none c.args.self.now))

pub loop-destination-preserved : goal.loop-destination-preserved
loop-destination-preserved c =
    written_more (λ d. given_tokens d.0 d.1) destination_of c.symbol.new.self c.args.destinations.now c.loop-destination.destination-index c.destination-item.result c.loop-destination.self c.given.new.self c.loop-destination-test.true c.destination-item.is c.loop-destination.invariant c.in_ok-given.ensures

pub returns : goal.returns
returns c =
    let ds = c.args.destinations.now in
    let some = destinations_some ds (some_left ds c.is_empty.result c.is_empty.ensures c.if-is_empty.false) in
    let all = take_all c.loop-destination.destination-index ds c.loop-destination-test.false in
    let inner = rw all at c.loop-destination.invariant in
    rw (some, braces_written c.args.self.now c.symbol.new.self c.loop-destination.self (flat_map (λ d. given_tokens d.0 d.1) (map destination_of ds)) c.in_ok-symbol.ensures inner) c.symbol-2.ensures
