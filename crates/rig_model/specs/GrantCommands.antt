-- What a command about offers and binds does, and its reply.
use Rattle.std.specs.Prelude.{Result, Ok, Err, List, unwrap_or}
use Rattle.tenant_lines.specs.grants.Grants.{GrantRows, offered, unoffered, bound, unbound, rows_of}
use Rattle.tenant_lines.specs.declared.grants.faults.GrantFault.{GrantFault}
use Rattle.tenant_lines.specs.declared.grants.faults.GrantFault.TheVariants as fault
use Rattle.tenant_lines.specs.declared.grants.rows.Offer as offers
use Rattle.tenant_lines.specs.declared.grants.rows.Bind as binds
use Rattle.tenant_lines.specs.declared.grant_lines.GrantCommand.{GrantCommand}
use Rattle.tenant_lines.specs.declared.grant_lines.GrantCommand.TheVariants as command
use Rattle.tenant_lines.specs.declared.replies.Budget.{Budget}
use Rattle.tenant_lines.specs.declared.replies.Budget.TheVariants.{Offers, Binds}
use Rattle.tenant_lines.specs.declared.replies.Refusal.{Refusal}
use Rattle.tenant_lines.specs.declared.replies.Refusal.TheVariants.{NoTenant, Own, Twice, NotThere, OverBudget, Memory}
use Rattle.tenant_lines.specs.declared.replies.Reply.{Reply}
use Rattle.tenant_lines.specs.declared.replies.Reply.TheVariants.{Offered, Unoffered, Bound, Unbound, Rows, Refused}

-- what a command about grants results in: the rows after it, and the reply
pub record GrantOutcome : Type 0 where
  pub rows : GrantRows
  pub reply : Reply

-- the reason why a row isn't made or removed, as a reply gives it; `b` is the budget of such rows
abbrev pub refusal_of_row : Budget → GrantFault → Refusal
refusal_of_row b fault.NoTenant = NoTenant
refusal_of_row b fault.Own = Own
refusal_of_row b fault.Twice = Twice
refusal_of_row b fault.NotThere = NotThere
refusal_of_row b fault.Budget = OverBudget b
refusal_of_row b fault.Memory = Memory

-- the rows with these offers and this reply; or the rows unchanged, and the reason
abbrev pub with_offers : GrantRows → Reply → Result (List offers.Offer) GrantFault → GrantOutcome
with_offers rows done (Ok os) = record { rows = record rows { offers = os }; reply = done }
with_offers rows done (Err f) = record { rows = rows; reply = Refused (refusal_of_row Offers f) }

-- the rows with these binds and this reply; or the rows unchanged, and the reason
abbrev pub with_binds : GrantRows → Reply → Result (List binds.Bind) GrantFault → GrantOutcome
with_binds rows done (Ok bs) = record { rows = record rows { binds = bs }; reply = done }
with_binds rows done (Err f) = record { rows = rows; reply = Refused (refusal_of_row Binds f) }

-- The step of a command about grants: the rows after it, and its reply. An offer that names no bounds has its owner's bounds.
abbrev pub grants_commanded : GrantCommand → GrantRows → GrantOutcome
grants_commanded (command.Offer actuator tenant bounds) rows = with_offers rows Offered (offered rows.owner rows.offers actuator tenant (unwrap_or bounds rows.owner.bounds))
grants_commanded (command.Unoffer actuator tenant) rows = with_offers rows Unoffered (unoffered rows.owner rows.offers actuator tenant)
grants_commanded (command.Bind sensor tenant actuator) rows = with_binds rows Bound (bound rows.owner rows.binds sensor tenant actuator)
grants_commanded (command.Unbind sensor) rows = with_binds rows Unbound (unbound rows.binds sensor)
grants_commanded command.Rows rows = record { rows = rows; reply = Rows (rows_of rows.offers rows.binds) }
