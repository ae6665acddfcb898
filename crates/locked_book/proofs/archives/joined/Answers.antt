use Rattle.std.proofs.Common.{reverse}
use Rattle.locked_book.proofs.Joined.{logs_of, whole_log_is}
use Rattle.locked_book.proofs.archives.joined.Goals as goal

pub returns-clause-whole : goal.returns-clause-whole
returns-clause-whole g c = λ e.
    let archives = c.args.archives.now in
    let book = c.args.book.now in
    let both = c.goes_on.ensures (reverse (logs_of archives)) (c.are_joined.ensures.reached e) in
    whole_log_is g.N.Naming.config g.N.Naming.first_tick archives book.log book.host both.0 both.1
