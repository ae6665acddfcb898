-- Places of a roster, and completions, in a history.
use Rattle.std.proofs.Common.{[], ◌≡◌, List, ◌∷◌, ◌++◌, map, reverse, ap, ◌∙◌, append_assoc}
use Rattle.rig_model.specs.declared.config.TenantConfig.{TenantConfig}
use Rattle.rig_model.specs.config.Roster.{no_budgets}
use Rattle.std.proofs.lemmas.List.{reverse-append}
use Rattle.rig_model.specs.declared.jobs.JobId.{JobId}
use Rattle.rig_model.specs.declared.events.Event.{Event}
use Rattle.rig_model.specs.declared.events.Event.TheVariants.{Done}

-- a tenant without a name
abbrev pub nobody : TenantConfig
nobody = record { name = []; key = []; budgets = no_budgets }

-- of the completions of these jobs, the first job's comes first
pub first_done : (j : JobId) (js : List JobId) (past : List Event) → reverse (map Done (j ∷ js)) ++ past ≡ reverse (map Done js) ++ (Done j ∷ past)
first_done j js past = ap (λ es. es ++ past) (reverse-append (Done j ∷ []) (map Done js)) ∙ append_assoc (reverse (map Done js)) (Done j ∷ []) past
