-- The command about grants that a line spells.
use Rattle.std.specs.Prelude.{ℕ, ◌&&◌, if◌then◌else◌, List, [], ◌∷◌, Option, Some, None, codes}
use Rattle.std.specs.List.{before_first, after_first}
use Rattle.std.specs.Option.{option_and_then}
use Rattle.giotto_tasks.specs.Names.{same_name}
use Rattle.giotto_text.specs.Bytes.{is_name}
use Rattle.tenant_lines.specs.declared.grant_lines.GrantCommand.{GrantCommand}
use Rattle.tenant_lines.specs.declared.grant_lines.GrantCommand.TheVariants.{Offer, Unoffer, Bind, Unbind, Rows}
use Rattle.tenant_grants.specs.config.Intervals.{Interval, from_to}
use Rattle.tenant_lines.specs.Words.{is_dot, value_of_word}

-- the offer of an actuator to a tenant, if both have the shape of names, with the bounds of the offer, if it has any
abbrev pub offer_command : List ℕ → List ℕ → Option Interval → Option GrantCommand
offer_command a t bounds = if is_name a && is_name t then Some (Offer a t bounds) else None

-- two words as bounds: each is a value, and the first isn't above the second
abbrev pub bounds_of_words : List ℕ → List ℕ → Option Interval
bounds_of_words low high = option_and_then (λ l. option_and_then (from_to l) (value_of_word high)) (value_of_word low)

-- the offer of an actuator to a tenant, with bounds
abbrev pub bounded_offer_command : List ℕ → List ℕ → List ℕ → List ℕ → Option GrantCommand
bounded_offer_command a t low high = option_and_then (λ bounds. offer_command a t (Some bounds)) (bounds_of_words low high)

-- takes back the offer of an actuator to a tenant
abbrev pub unoffer_command : List ℕ → List ℕ → Option GrantCommand
unoffer_command a t = if is_name a && is_name t then Some (Unoffer a t) else None

-- the bind of a sensor to the value of a tenant's actuator
abbrev pub bind_command_to : List ℕ → List ℕ → List ℕ → Option GrantCommand
bind_command_to s t a = if is_name s && is_name t && is_name a then Some (Bind s t a) else None

-- the bind of a sensor to TENANT.NAME, cut at its first dot
abbrev pub bind_command : List ℕ → List ℕ → Option GrantCommand
bind_command s w = bind_command_to s (before_first is_dot w) (after_first is_dot w)

-- takes back the bind of a sensor
abbrev pub unbind_command : List ℕ → Option GrantCommand
unbind_command s = if is_name s then Some (Unbind s) else None

-- "rows", "unbind NAME", "offer NAME to TENANT", "unoffer NAME to TENANT", "bind NAME from TENANT.NAME", or
-- "offer NAME to TENANT from LO to HI"
abbrev pub grant_command_of_words : List (List ℕ) → Option GrantCommand
grant_command_of_words (v ∷ []) = if same_name v (codes "rows") then Some Rows else None
grant_command_of_words (v ∷ x ∷ []) = if same_name v (codes "unbind") then unbind_command x else None
grant_command_of_words (v ∷ x ∷ w ∷ y ∷ []) =
    if same_name v (codes "offer") && same_name w (codes "to") then offer_command x y None
    else if same_name v (codes "unoffer") && same_name w (codes "to") then unoffer_command x y
    else if same_name v (codes "bind") && same_name w (codes "from") then bind_command x y
    else None
grant_command_of_words (v ∷ x ∷ w ∷ y ∷ k ∷ low ∷ l ∷ high ∷ []) =
    if same_name v (codes "offer") && same_name w (codes "to") && same_name k (codes "from") && same_name l (codes "to")
    then bounded_offer_command x y low high
    else None
grant_command_of_words _ = None
