-- Which commands about offers and binds take memory, and so can be refused for lack of it.
use Rattle.std.specs.Prelude.{Bool, false, ◌+◌, nat_lt, length, is_ok, unwrap_or}
use Rattle.rig_model.specs.grants.Grants.{GrantRows, offered, bound}
use Rattle.rig_model.specs.declared.lines.grant_lines.GrantCommand.{GrantCommand}
use Rattle.rig_model.specs.declared.lines.grant_lines.GrantCommand.TheVariants as command

-- whether a command takes memory, and so can be refused for lack of it: `offer` and `bind` if the row may be made, and `rows` if
-- there is a row
abbrev pub takes_memory : GrantCommand → GrantRows → Bool
takes_memory (command.Offer actuator tenant bounds) rows = is_ok (offered rows.owner rows.offers actuator tenant (unwrap_or bounds rows.owner.bounds))
takes_memory (command.Unoffer actuator tenant) rows = false
takes_memory (command.Bind sensor tenant actuator) rows = is_ok (bound rows.owner rows.binds sensor tenant actuator)
takes_memory (command.Unbind sensor) rows = false
takes_memory command.Rows rows = nat_lt 0 (length rows.offers + length rows.binds)
