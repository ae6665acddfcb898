use Rattle.std.proofs.Common.{◌≤◌, List, length, ap, subst, arith}
use Rattle.std.proofs.lemmas.Bool.Decides.{nat_tests}
use mathlib.Core.List.{IsPrefix}
use Rattle.rig_model.specs.declared.logged.Logged.{Logged}
use Rattle.locked_book.proofs.Prefixes.{shorter_begins}
use Rattle.locked_book.proofs.histories.History.begins_with.Goals as goal

pub returns : goal.returns
returns g c known =
    let all = c.learn.new.self.log in
    let this : IsPrefix c.self.inside.seen.log all = subst (λ (l : List Logged). IsPrefix l all) (ap (λ s. s.log) c.again-both.ensures) c.learn.ensures.2 in
    let le : c.front.inside.entries ≤ c.self.inside.entries = grind (arith, nat_tests) in
    let less : length c.front.inside.seen.log ≤ length c.self.inside.seen.log = omega (arith, le, c.self.invariant.0, c.front.invariant.0) in
    rw (← c.self.view_is, ← c.front.view_is) (shorter_begins c.front.inside.seen.log c.self.inside.seen.log all c.learn.ensures.3 this less)
