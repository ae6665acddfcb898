use Rattle.std.proofs.Common.{◌≡◌, [], ◌∷◌, ◌++◌, ap, ◌∙◌, to_z, of_z, w64, rules, arith}
use Rattle.giotto_read.specs.inner.Doing.{left}
use Rattle.giotto_text.specs.Parsing.{read_state, this}
use Rattle.giotto_read.proofs.DoingLists.{comma, next_thing, thing_progresses, list_more}
use Rattle.giotto_read.proofs.Pairs.{pairs_pushed, lengths_pushed}
use Rattle.giotto_read.proofs.Shrinking.{Progresses, shrinks, one_progresses, state}
use Rattle.giotto_read.proofs.reader.Reader.states.Goals as goal

forward : Progresses (next_thing read_state)
forward = thing_progresses (shrinks state)

pub loop-self-smaller : goal.loop-self-smaller
loop-self-smaller c =
    let a = (one_progresses (this comma)).shorter (left c.loop-self.self) tt (left c.accept.new.self) c.loop-self-test.ensures in
    let b = state.shorter (left c.accept.new.self) (c.in_ok-name-2.name, c.in_ok-name-2.initial) (left c.state-in-loop-self.new.self) c.in_ok-name-2.ensures in
    omega (arith, a, b)

pub loop-self-preserved : goal.loop-self-preserved
loop-self-preserved c =
    let names = c.loop-self.names.items in
    let initials = c.loop-self.initials.items in
    let name = c.in_ok-name-2.name in
    let initial = c.in_ok-name-2.initial in
    let range : to_z w64 (of_z w64 initial) ≡ initial = search rules in
    let pushed = c.in_ok-push-4.ensures.items ∙ ap (λ z. initials ++ z ∷ []) range in (
      rw (pairs_pushed names _ initials _ name initial c.in_ok-push-3.ensures.items pushed c.loop-self.invariant.1)
          (list_more read_state c.args.self.now c.loop-self.self c.accept.new.self c.state-in-loop-self.new.self forward c.loop-self.invariant.0 c.loop-self-test.ensures c.in_ok-name-2.ensures),
      lengths_pushed names _ initials _ name initial c.in_ok-push-3.ensures.items pushed c.loop-self.invariant.1,
    )
