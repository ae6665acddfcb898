-- What always holds of the tables.
use Rattle.std.specs.Prelude.{◌<◌, ◌≤◌, List, length, IsOk}
use Rattle.std.specs.List.{AllByRecursion, IsDistinct}
use Rattle.std.specs.Map.{keys_of}
use Rattle.giotto_tasks.specs.Names.{same_name}
use Rattle.tenant_grants.specs.Grants.{Owner, other_side}
use Rattle.tenant_grants.specs.Kept.{same_offer}
use Rattle.tenant_grants.specs.declared.rows.Offer.{Offer}
use Rattle.tenant_grants.specs.declared.tables.Sensor.{Sensor}
use Rattle.tenant_grants.specs.declared.tables.Supplier.{Supplier}
use Rattle.tenant_grants.specs.inner.Tables.{AreSuppliersPlaced}

-- what always holds of the two tables: what `AreKept` says of the rows, and that each supplier's place is right
pub record AreHeld (owner : Owner) (offers : List Offer) (entries : List (Sensor × Supplier)) : Type 0 where
  pub place : owner.place < length owner.roster
  pub offers_within : length offers ≤ owner.most_offers
  pub binds_within : length entries ≤ owner.most_binds
  pub offers_differ : IsDistinct same_offer offers
  pub binds_differ : IsDistinct (λ (s t : Sensor). same_name t.name s.name) (keys_of entries)
  pub offers_to : AllByRecursion (λ (o : Offer). IsOk (other_side owner o.tenant)) offers
  pub placed : AreSuppliersPlaced owner entries
