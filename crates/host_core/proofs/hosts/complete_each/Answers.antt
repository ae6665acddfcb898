use Rattle.std.proofs.Common.{◌≡◌, ◌<◌, ◌||◌, Bool, true, false, not, length, take, refl, sym, ap, ◌∙◌, subst, arith}
use Rattle.std.proofs.lemmas.List.{get_or_default, take_all}
use Rattle.std.proofs.lemmas.List.Sums.{sum-map, sum_by_more}
use Rattle.std.specs.List.{sum_by}
use Rattle.instant_engine.specs.Tenants.{tenant_at}
use Rattle.instant_engine.specs.cited.Tenants.{is_active_among}
use Rattle.rig_model.specs.declared.jobs.JobId.{JobId}
use Rattle.instant_engine.specs.job_table.Finished.{entry_in, has_result}
use Rattle.rig_model.specs.Jobs.{job_of}
use Rattle.instant_engine.specs.state.Standing.{Standing, no_tenant}
use Rattle.instant_engine.specs.state.cited.Standing.{HasItsResults, has_active}
use Rattle.giotto_tasks.proofs.cited.ListLemmas.{all_of, same_filter}
use Rattle.giotto_tasks.proofs.cited.TestLemmas.{or_assoc}
use Rattle.host_core.proofs.HostTables.{active_more, has_its_entries, none_before, table_completed}
use Rattle.host_core.proofs.cited.Outstanding.{number_outstanding, counted_in_all}
use Rattle.host_core.proofs.hosts.complete_each.Goals as goal

or_false : (b : Bool) → (b || false) ≡ b
or_false true = refl
or_false false = refl

pub complete_all-requires : goal.complete_all-requires
complete_all-requires c =
    record { entries = has_its_entries c.args.tenants.now c.loop-tenant.finished.entries c.loop-tenant.tenant-index c.tenant-item.result c.loop-tenant-test.true c.tenant-item.is c.requires.placed c.loop-tenant.invariant.table }

pub loop-tenant-preserved : goal.loop-tenant-preserved
loop-tenant-preserved c =
    let tenants = c.args.tenants.now in
    let i = c.loop-tenant.tenant-index in
    let within : i < length tenants = c.loop-tenant-test.true in
    let before = c.loop-tenant.invariant in
    let here : c.tenant-item.result ≡ tenant_at tenants i = c.tenant-item.is ∙ get_or_default tenants i c.tenant-item.result no_tenant within in
    let number : c.complete_all.result ≡ number_outstanding c.args.finished.now.entries (tenant_at tenants i) =
    c.complete_all.ensures.number
    ∙ ap (number_outstanding c.loop-tenant.finished.entries) here
    ∙ ap length (same_filter _ _ (tenant_at tenants i).row.active
    (all_of (λ a. ap not (before.results (job_of (tenant_at tenants i).tenancy.owner.place a)
    ∙ ap (λ b. has_result c.args.finished.now.entries (job_of (tenant_at tenants i).tenancy.owner.place a) || b) (none_before tenants i a c.requires.placed within)
    ∙ or_false (has_result c.args.finished.now.entries (job_of (tenant_at tenants i).tenancy.owner.place a)))) (tenant_at tenants i).row.active)) in
    record {
      table = table_completed tenants c.loop-tenant.finished.entries c.complete_all.new.finished.entries i c.requires.placed within c.complete_all.ensures.entered
          (subst (λ (s : Standing). HasItsResults s c.loop-tenant.finished.entries → HasItsResults s c.complete_all.new.finished.entries) here c.complete_all.ensures.right)
          (subst (λ (s : Standing). (j : JobId) → has_active s j ≡ false → entry_in c.complete_all.new.finished.entries j ≡ entry_in c.loop-tenant.finished.entries j) here c.complete_all.ensures.others)
          before.table;
      results = λ j.
          c.complete_all.ensures.results j
          ∙ ap (λ s. has_result c.loop-tenant.finished.entries j || has_active s j) here
          ∙ ap (λ b. b || has_active (tenant_at tenants i) j) (before.results j)
          ∙ sym (or_assoc (has_result c.args.finished.now.entries j) (is_active_among (take i tenants) j) (has_active (tenant_at tenants i) j))
          ∙ ap (λ b. has_result c.args.finished.now.entries j || b) (sym (active_more tenants i j c.requires.placed within));
      number = omega (arith, before.number, number, sum_by_more (number_outstanding c.args.finished.now.entries) tenants i no_tenant within);
      few = omega (arith, before.few, c.complete_all.type_inv);
    }

pub returns-clause-number : goal.returns-clause-number
returns-clause-number c =
    let tenants = c.args.tenants.now in
    let entries = c.args.finished.now.entries in
    let all : take c.loop-tenant.tenant-index tenants ≡ tenants = take_all c.loop-tenant.tenant-index tenants c.loop-tenant-test.false in
    c.loop-tenant.invariant.number ∙ ap (sum_by (number_outstanding entries)) all ∙ sym (sum-map (number_outstanding entries) tenants) ∙ counted_in_all entries tenants
