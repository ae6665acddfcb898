use Rattle.std.proofs.Common.{◌≡◌, map, sym, ap, ◌∙◌, arith}
use Rattle.std.proofs.lemmas.Bool.Decides.{nat_tests}
use Rattle.host_core.specs.SameHosts.{compared}
use Rattle.host_core.proofs.SameHosts.{same_rested}
use Rattle.host_core.proofs.hosts.Host.is_same.Goals as goal

pub returns : goal.returns
returns c =
    let own = c.self.inside in
    let its = c.other.inside in
    let tenants : map compared own.tenants.items ≡ map compared its.tenants.items =
    ap (map compared) (sym c.as_slice.ensures.value) ∙ (c.same_tenants.ensures.0 c.if-not-same_tenants.false ∙ ap (map compared) c.as_slice-2.ensures.value) in
    let lines = c.lines.ensures.value in
    let its_lines = c.lines-2.ensures.value in
    let as_many = c.if-lines.false in
    let at_one = c.if-self-other.false in
    rw (← c.self.view_is, ← c.other.view_is) (
      λ h. record {
        as_many_lines = grind (arith, nat_tests, as_many, lines, its_lines);
        equal_clocks = grind (arith, nat_tests, at_one);
        equal_tenants = (same_rested own.tenants.items its.tenants.items).0 tenants;
        equal_counted = c.has_same_results.ensures.0 h;
      },
      λ is. c.has_same_results.ensures.1 is.equal_counted,
    )
