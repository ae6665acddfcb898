use Rattle.std.proofs.Common.{map}
use Rattle.giotto_text.specs.Parsing.{is_name, many, read_token, read_assignment, read_destinations}
use Rattle.giotto_text.specs.ProgramTrees.{destination_of}
use Rattle.giotto_read.proofs.DoingLists.{failed_as, close_brace, if_in_braces_unclosed, if_in_braces_read}
use Rattle.giotto_read.proofs.reader.Reader.destinations.Goals as goal

pub returns-in_err-symbol : goal.returns-in_err-symbol
returns-in_err-symbol c =
    failed_as {U = Unit {0}} (map destination_of) (λ _. tt) read_destinations (read_token close_brace) c.args.self.now c.assignments.new.self c.symbol.new.self c.in_err-symbol.field-0.0 c.from_residual-in_err-symbol.result c.from_residual-in_err-symbol.ensures
    (if_in_braces_unclosed (many is_name read_assignment) c.args.self.now c.accept.new.self c.assignments.new.self c.symbol.new.self (map destination_of c.in_ok-destinations.destinations) c.if-not-accept.ensures c.in_ok-destinations.ensures) c.in_err-symbol.ensures

pub returns : goal.returns
returns c =
    if_in_braces_read (many is_name read_assignment) c.args.self.now c.accept.new.self c.assignments.new.self c.symbol.new.self (map destination_of c.in_ok-destinations.destinations) c.if-not-accept.ensures c.in_ok-destinations.ensures
    c.in_ok-symbol.ensures
