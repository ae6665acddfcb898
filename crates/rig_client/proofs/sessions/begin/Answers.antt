use Rattle.std.proofs.Common.{◌≡◌, ◌∙◌, Err, ap, codes, subst, sym}
use Rattle.std.proofs.lemmas.Result.{err_from_is_err_and}
use Rattle.rig_client.specs.Ends.{IsAsked}
use Rattle.rig_client.specs.declared.faults.ClientFault.TheVariants.{Greeting}
use Rattle.rig_client.proofs.sessions.begin.Goals as goal

pub returns-clause-begun : goal.returns-clause-begun
returns-clause-begun g c =
    let connected = c.in_ok-server.server in
    (connected, subst (λ hello. IsAsked g.W.Write.contents g.R.Read.remaining connected c.greet.new.server hello (codes "ok hello\n")) c.as_str.ensures.value c.in_ok-greet.ensures.greeted)

pub returns-in_err-greet-clause-refused : goal.returns-in_err-greet-clause-refused
returns-in_err-greet-clause-refused g c = λ is.
    let connected = c.in_ok-server.server in
    let failed = err_from_is_err_and c.from_residual-in_err-greet.result c.from_residual-in_err-greet.ensures.1 in
    let same = sym failed.1 ∙ is in
    let is_greeting : failed.0 ≡ Greeting = cc in
    let found = c.in_err-greet.ensures.refused (ap (λ f. Err f) (sym failed.2 ∙ is_greeting)) in (
      found.0,
      (connected, c.greet.new.server, subst (λ hello. IsAsked g.W.Write.contents g.R.Read.remaining connected c.greet.new.server hello found.0) c.as_str.ensures.value found.1, found.2),
      found.3,
    )
