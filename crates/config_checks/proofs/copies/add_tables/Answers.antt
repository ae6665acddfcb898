use Rattle.std.proofs.Common.{◌++◌, ◌∙◌, List, ℕ, ap, string_bytes}
use Rattle.config_checks.proofs.Noting.{text_further}
use Rattle.config_checks.specs.Copies.{table_for}
use Rattle.config_checks.proofs.copies.add_tables.Goals as goal

pub loop-tenant-preserved : goal.loop-tenant-preserved
loop-tenant-preserved c =
    let l = c.loop-tenant in
    text_further (table_for c.args.supplier.now) c.args.tenants.now l.tenant-index c.tenant-item.result (string_bytes c.args.text.now) (string_bytes l.text) (string_bytes c.push_str.new.self) l.invariant c.loop-tenant-test.true
    c.tenant-item.is (c.in_ok-push_str.ensures.bytes ∙ ap (λ (t : List ℕ). string_bytes l.text ++ t) (c.as_str.ensures.value ∙ c.in_ok-table.ensures))
