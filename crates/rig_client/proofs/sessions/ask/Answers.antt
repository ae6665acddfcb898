use Rattle.std.proofs.Common.{rules, ◌≡◌, ◌≢◌, codes, subst}
use Rattle.std.proofs.lemmas.Result.{IfOk-weaker}
use Rattle.rig_client.specs.Ends.{IsAsked}
use Rattle.rig_client.specs.Sessions.{IsAskedAtLast, again, at_once, hello_of}
use Rattle.rig_client.proofs.sessions.ask.Goals as goal

pub returns-then-eq-clause-answer : goal.returns-then-eq-clause-answer
returns-then-eq-clause-answer g c =
    let Asked = IsAsked g.W.Write.contents g.R.Read.remaining in
    let begun = c.in_ok-server.field-0 in
    let line = c.args.line.now in
    let is_full : c.in_ok-answer.answer.items ≡ codes "bye pass-full\n" = search rules in
    let first = subst (λ answer. Asked c.args.server.now c.ask.new.self line answer) is_full c.in_ok-answer.ensures.answer in
    IfOk-weaker c.ask-then-eq.result (λ answer. Asked begun c.ask-then-eq.new.self line answer.items)
    (λ answer. IsAskedAtLast g.W.Write.contents g.R.Read.remaining (hello_of c.args.sessions.now) c.args.server.now c.ask-then-eq.new.self line answer.items)
    (λ answer asked. again c.ask.new.self begun first c.in_ok-server.ensures.begun asked) c.ask-then-eq.ensures.answer

pub returns-clause-answer : goal.returns-clause-answer
returns-clause-answer g c =
    let is_other : c.in_ok-answer.answer.items ≢ codes "bye pass-full\n" = search rules in
    at_once c.in_ok-answer.ensures.answer is_other
