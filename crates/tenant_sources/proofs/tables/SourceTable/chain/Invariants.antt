use Rattle.std.proofs.Common.{◌≡◌, true, None, [], List}
use Rattle.rig_model.specs.declared.events.Event.{Event}
use Rattle.rig_model.specs.Legal.{is_legal}
use Rattle.tenant_sources.specs.Links.{IsLinkTable, is_source_of, link_in}
use Rattle.rig_model.specs.Base.{Setting}
use Rattle.rig_model.specs.config.Roster.{is_tenant}
use Rattle.tenant_sources.proofs.Chains.{IsWalked}
use Rattle.tenant_sources.proofs.tables.SourceTable.chain.Given as goal

abbrev pub invariant-loop-link : goal.invariant-loop-link
invariant-loop-link l =
    ((setting : Setting) (past : List Event) → is_legal setting past ≡ true → IsLinkTable setting past l.self → is_tenant setting.config l.tenant ≡ true → is_tenant setting.config l.source ≡ true
    → is_source_of setting past l.tenant l.source ≡ true → IsWalked setting past l.source l.tenant l.at l.before l.links.items)
    × (link_in l.self l.tenant l.source ≡ None → (l.links.items ≡ []) × (l.at ≡ l.tenant))

abbrev pub decreases-loop-link : goal.decreases-loop-link
decreases-loop-link l = l.before
