use Rattle.std.proofs.Common.{◌≡◌, true, false, Err, refl, ap, sym, ◌∙◌}
use Rattle.giotto_text.specs.declared.faults.ReadFault.TheVariants.{Syntax, TooDeep, TooMany}
use Rattle.giotto_read.specs.inner.Doing.{left}
use Rattle.giotto_text.specs.Parsing.{got, stopped}
use Rattle.giotto_read.proofs.DoingSteps.{read_of, reads_stopped, reads_behind, nothing_left}
use Rattle.giotto_read.proofs.reading.read_tokens.Goals as goal

pub returns-then-nests_too_deep-clause-fault : goal.returns-then-nests_too_deep-clause-fault
returns-then-nests_too_deep-clause-fault c = λ f e other.
    let same : TooDeep ≡ f = cc in
    rw (sym c.if-nests_too_deep.ensures) (ap Err same)

pub returns-in-Err-Unexpected-clause-fault : goal.returns-in-Err-Unexpected-clause-fault
returns-in-Err-Unexpected-clause-fault c = λ f e other.
    let start = c.new-reader.ensures in
    let s = c.program.new.self in
    let same : Syntax c.offset.result ≡ f = cc in
    read_of c.new-reader.result c.args.tokens.now (stopped (left s)) start.tokens start.start (sym c.if-nests_too_deep.ensures) (rw c.in-Err-Unexpected.field-0-is at c.in-Err-Unexpected.ensures) c.args.end
    ∙ reads_stopped s.tokens.now s.at c.args.end ∙ ap (λ n. Err (Syntax n)) (sym c.offset.ensures) ∙ ap Err same

pub returns-then-not-is_at_end-clause-fault : goal.returns-then-not-is_at_end-clause-fault
returns-then-not-is_at_end-clause-fault c = λ f e other.
    let start = c.new-reader.ensures in
    let inside = c.if-not-is_at_end.ensures in
    let s = c.program.new.self in
    let same : Syntax c.offset-then-not-is_at_end.result ≡ f = cc in
    read_of c.new-reader.result c.args.tokens.now (got c.in-Ok.program (left s)) start.tokens start.start (sym c.if-nests_too_deep.ensures) c.in-Ok.ensures c.args.end
    ∙ reads_behind s.tokens.now s.at c.args.end c.in-Ok.program s.within (λ end. let no : false ≡ true = inside.1 end in cc)
    ∙ ap (λ n. Err (Syntax n)) (sym c.offset-then-not-is_at_end.ensures) ∙ ap Err same

pub returns-then-not-has_small_tasks-clause-fault : goal.returns-then-not-has_small_tasks-clause-fault
returns-then-not-has_small_tasks-clause-fault c = λ f e other.
    let start = c.new-reader.ensures in
    let end = c.if-not-is_at_end.ensures in
    let s = c.program.new.self in
    let same : TooMany ≡ f = cc in
    read_of c.new-reader.result c.args.tokens.now (got c.in-Ok.program (left s)) start.tokens start.start (sym c.if-nests_too_deep.ensures) c.in-Ok.ensures c.args.end
    ∙ rw (nothing_left s.tokens.now s.at (end.0 refl), sym c.if-not-has_small_tasks.ensures) (ap Err same)

pub returns-clause-found : goal.returns-clause-found
returns-clause-found c =
    let start = c.new-reader.ensures in
    let end = c.if-not-is_at_end.ensures in
    let s = c.program.new.self in
    read_of c.new-reader.result c.args.tokens.now (got c.in-Ok.program (left s)) start.tokens start.start (sym c.if-nests_too_deep.ensures) c.in-Ok.ensures c.args.end
    ∙ rw (nothing_left s.tokens.now s.at (end.0 refl), sym c.if-not-has_small_tasks.ensures) refl
