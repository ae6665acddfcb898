use Rattle.std.proofs.Common.{◌++◌, ◌∙◌, List, ℕ, ap, string_bytes}
use Rattle.config_checks.proofs.Noting.{text_further}
use Rattle.config_checks.specs.Summaries.{rows_of_tenant}
use Rattle.config_checks.proofs.summaries.add_tenants.Goals as goal

pub loop-tenant-preserved : goal.loop-tenant-preserved
loop-tenant-preserved c =
    let l = c.loop-tenant in
    text_further rows_of_tenant c.args.tenants.now l.tenant-index c.tenant-item.result (string_bytes c.args.told.now) (string_bytes l.told) (string_bytes c.push_str.new.self) l.invariant c.loop-tenant-test.true
    c.tenant-item.is (c.in_ok-push_str.ensures.bytes ∙ ap (λ (t : List ℕ). string_bytes l.told ++ t) (c.as_str.ensures.value ∙ c.in_ok-rows.ensures))
