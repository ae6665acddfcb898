use Rattle.std.proofs.Common.{◌++◌, ◌∙◌, List, ℕ, ap}
use Rattle.std.specs.List.{flat_map}
use Rattle.config_checks.specs.Copies.{table_for}
use Rattle.config_checks.proofs.copies.configuration_for.Goals as goal

pub returns : goal.returns
returns c =
    let tables = flat_map (table_for c.name_at-supplier.result.now) c.tenants.result.now in
    rw (c.name_at-supplier.ensures, c.lines.ensures.value, c.tenants.ensures.value) at (c.in_ok-add_tables.ensures ∙ ap (λ (head : List ℕ). head ++ tables) c.in_ok-text.ensures)
