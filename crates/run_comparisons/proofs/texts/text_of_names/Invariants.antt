use Rattle.std.proofs.Common.{◌≡◌, ◌++◌, take, codes, string_bytes}
use Rattle.std.specs.List.{flat_map}
use Rattle.rig_model.specs.config.Roster.{name_at}
use Rattle.run_comparisons.proofs.texts.text_of_names.Given as goal

abbrev pub invariant-loop-tenant : goal.invariant-loop-tenant
invariant-loop-tenant l = string_bytes l.text ≡ string_bytes l.initial.text ++ flat_map (λ u. codes ", " ++ name_at l.config u) (take l.tenant-index l.others)
