-- What always holds of a tenant's rows.
use Rattle.std.specs.Prelude.{◌<◌, ◌≤◌, Bool, length, IsOk}
use Rattle.std.specs.List.{AllByRecursion, IsDistinct}
use Rattle.tenant_grants.specs.Grants.{GrantRows, other_side, is_offer_of, is_bind_of}
use Rattle.tenant_grants.specs.declared.rows.Offer.{Offer}
use Rattle.tenant_grants.specs.declared.rows.Bind.{Bind}

-- two offers of one actuator to one tenant
abbrev pub same_offer : Offer → Offer → Bool
same_offer o p = is_offer_of o.actuator o.tenant p

-- two binds of one sensor
abbrev pub same_bind : Bind → Bind → Bool
same_bind b c = is_bind_of b.sensor c

-- What always holds of rows: the owner has a place in the roster, no list is longer than its budget, no row is there twice, and the
-- other side of each row is another tenant of the roster.
pub record AreKept (rows : GrantRows) : Type 0 where
  pub place : rows.owner.place < length rows.owner.roster
  pub offers_within : length rows.offers ≤ rows.owner.most_offers
  pub binds_within : length rows.binds ≤ rows.owner.most_binds
  pub offers_differ : IsDistinct same_offer rows.offers
  pub binds_differ : IsDistinct same_bind rows.binds
  pub offers_to : AllByRecursion (λ (o : Offer). IsOk (other_side rows.owner o.tenant)) rows.offers
  pub binds_to : AllByRecursion (λ (b : Bind). IsOk (other_side rows.owner b.tenant)) rows.binds
