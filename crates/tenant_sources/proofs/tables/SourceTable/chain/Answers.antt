use Rattle.std.proofs.Common.{◌≡◌, ◌^◌, ◌-◌, Some, [], ◌∷◌, ◌++◌, List, refl, sym, ap, subst, ◌∙◌, arith}
use Rattle.tenant_sources.specs.declared.tables.Link.{Link}
use Rattle.tenant_sources.specs.Links.{first_link, link_in}
use Rattle.tenant_sources.proofs.Chains.{IsWalked, walk_begins, walk_ends, walk_on}
use Rattle.tenant_sources.proofs.LinkSteps.{is_within}
use Rattle.tenant_sources.proofs.tables.SourceTable.chain.Goals as goal

pub loop-link-init : goal.loop-link-init
loop-link-init c = (
  λ setting past legal table t u is.
      subst (λ (ls : List Link). IsWalked setting past c.args.source c.args.tenant c.args.tenant (2 ^ 64 - 1) ls) (sym c.new-links.ensures.items)
      (walk_begins setting past c.args.source c.args.tenant legal (is_within setting c.args.tenant t) is),
  λ none. (c.new-links.ensures.items, refl),
)

pub loop-link-preserved : goal.loop-link-preserved
loop-link-preserved c = (
  λ setting past legal table t u is.
      let w = c.loop-link.invariant.0 setting past legal table t u is in
      let link = c.in-Some.link.now in
      let found : first_link setting past c.loop-link.at c.args.source ≡ Some link = sym (table.each c.loop-link.at c.args.source w.within (is_within setting c.args.source u)) ∙ c.in-Some.ensures.some in
      let pushed = c.in_ok-push.ensures.items ∙ ap (λ (l : Link). c.loop-link.links.items ++ l ∷ []) c.copy.ensures in
      subst (λ (ls : List Link). IsWalked setting past c.args.source c.args.tenant link.supplier link.tick ls) (sym pushed)
      (walk_on setting past c.args.source c.args.tenant c.loop-link.at c.loop-link.before c.loop-link.links.items link w found),
  λ none.
      let still = sym c.in-Some.ensures.some ∙ (ap (λ v. link_in c.args.self.now v c.args.source) (c.loop-link.invariant.1 none).1 ∙ none) in
      absurd (cc),
)

pub returns-in_err-push-clause-never_refused : goal.returns-in_err-push-clause-never_refused
returns-in_err-push-clause-never_refused c = λ none.
    let still = sym c.in-Some.ensures.some ∙ (ap (λ v. link_in c.args.self.now v c.args.source) (c.loop-link.invariant.1 none).1 ∙ none) in
    absurd (cc)

pub returns-then-link-before-clause-chain : goal.returns-then-link-before-clause-chain
returns-then-link-before-clause-chain c = λ setting past legal table t u is.
    let w = c.loop-link.invariant.0 setting past legal table t u is in
    let found = sym (table.each c.loop-link.at c.args.source w.within (is_within setting c.args.source u)) ∙ c.in-Some.ensures.some in
    let early = w.early c.in-Some.link.now found in
    let late = c.if-link-before.true in
    absurd (omega arith)

pub returns-then-link-before-clause-none : goal.returns-then-link-before-clause-none
returns-then-link-before-clause-none c = λ none. (c.loop-link.invariant.1 none).0

pub returns-clause-chain : goal.returns-clause-chain
returns-clause-chain c = λ setting past legal table t u is.
    let w = c.loop-link.invariant.0 setting past legal table t u is in
    walk_ends setting past c.args.source c.args.tenant c.loop-link.at c.loop-link.before c.loop-link.links.items w
    (sym (table.each c.loop-link.at c.args.source w.within (is_within setting c.args.source u)) ∙ c.link.ensures.none c.in_default.is)

pub returns-clause-none : goal.returns-clause-none
returns-clause-none c = λ none. (c.loop-link.invariant.1 none).0
