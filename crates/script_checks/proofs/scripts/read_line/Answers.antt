use Rattle.std.proofs.Common.{◌≡◌, ◌++◌, ℕ, List, IfSome, subst}
use Rattle.std.specs.Io.{StopsAt, appended_bytes}
use Rattle.std.specs.Io.BufRead.{take_through}
use Rattle.std.specs.Io.KnownBytes.{Consumes}
use Rattle.script_checks.proofs.Cutting.{next_line}
use Rattle.script_checks.proofs.scripts.read_line.Goals as goal

pub returns : goal.returns
returns g c =
    let given = c.in_ok-read_until.ensures in
    let buffer = c.read_until.new.buf in
    let old = g.R.Read.remaining c.args.reader.now in
    let left = g.R.Read.remaining c.read_until.new.self in
    let empty = c.clear.ensures.items in
    next_line old left buffer.items c.remove_lf.new.line.items c.remove_lf.result (subst (λ (l : List ℕ). StopsAt (appended_bytes l buffer.items) 10) empty given.stops)
    (subst (λ (l : List ℕ). Consumes old left (appended_bytes l buffer.items)) empty given.none_lost) (subst (λ (l : List ℕ). IfSome old (λ all. buffer.items ≡ l ++ take_through 10 all)) empty given.bytes) given.rest
    c.remove_lf.ensures.whole c.remove_lf.ensures.line
