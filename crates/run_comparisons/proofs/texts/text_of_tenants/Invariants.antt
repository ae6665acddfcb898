use Rattle.std.proofs.Common.{◌≡◌, string_bytes}
use Rattle.std.specs.List.{filter, flat_map, range_with_len}
use Rattle.run_comparisons.specs.Changes.{in_scope}
use Rattle.run_comparisons.specs.Texts.{text_of_tenant}
use Rattle.run_comparisons.proofs.texts.text_of_tenants.Given as goal

abbrev pub invariant-loop-tenant : goal.invariant-loop-tenant
invariant-loop-tenant l =
    string_bytes l.text ≡ flat_map (text_of_tenant l.tolerance l.config l.old.path.now l.new.path.now l.old.answers.now l.new.answers.now) (filter (in_scope l.scope) (range_with_len 0 l.tenant))
