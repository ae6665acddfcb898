use Rattle.std.proofs.Common.{◌≡◌, ◌∙◌, List, length, ap, string_bytes}
use Rattle.rig_retests.specs.Named.{names_of}
use Rattle.run_comparisons.specs.Changes.{changes_of, unnamed_tenants}
use Rattle.run_comparisons.specs.declared.changes.Change.{Change}
use Rattle.run_comparisons.proofs.Compared.{compared}
use Rattle.run_comparisons.proofs.comparisons.compare_runs.Goals as goal
use Rattle.run_comparisons.proofs.comparisons.compare_runs.Goals.{After-as_slice-changes}

module _ (c : After-as_slice-changes) where
  are : c.as_slice-changes.result.now ≡ changes_of c.args.tolerance c.args.old.now.answers.now c.args.new.now.answers.now (length c.args.config.now.tenants)
  are = c.as_slice-changes.ensures.value ∙ c.in_ok-changes.ensures

pub returns-clause-text : goal.returns-clause-text
returns-clause-text c =
    let so_far = (goal.at.returns-clause-text c).After-as_slice-changes in
    compared c.args.tolerance c.args.config.now c.args.old.now.path.now c.args.new.now.path.now c.args.old.now.answers.now c.args.new.now.answers.now c.args.scope (names_of c.args.facts.now) c.as_slice-changes.result.now
    c.as_slice-changed.result.now c.as_slice-named.result.now c.as_slice.result.now (string_bytes c.in_ok-tenants.tenants) (string_bytes c.in_ok-driven.driven) (string_bytes c.in_ok-operator.operator)
    (string_bytes c.in_ok-end.end) (string_bytes c.in_ok-text.text) (are so_far) (c.as_slice-changed.ensures.value ∙ c.in_ok-changed.ensures)
    (c.as_slice-named.ensures.value ∙ c.in_ok-named.ensures) (c.as_slice.ensures.value ∙ c.in_ok-unnamed.ensures)
    c.in_ok-tenants.ensures c.in_ok-driven.ensures c.in_ok-operator.ensures c.in_ok-end.ensures c.in_ok-text.ensures.ok

pub returns-clause-unnamed : goal.returns-clause-unnamed
returns-clause-unnamed c =
    let so_far = (goal.at.returns-clause-unnamed c).After-as_slice-changes in
    c.in_ok-unnamed.ensures ∙ ap (λ (cs : List Change). unnamed_tenants (names_of c.args.facts.now) cs c.args.scope) (are so_far)
