-- Offers by their places.
use Rattle.std.proofs.Common.{◌≡◌, ℕ, zero, suc, Bool, true, false, List, [], ◌∷◌, Some, slice_get, refl, sym, ◌∙◌}
use Rattle.std.specs.List.{AllByRecursion, IsDistinct, position}
use Rattle.std.proofs.lemmas.Bool.{and_parts}
use Rattle.std.proofs.lemmas.List.Quantifiers.{position-Some}
use Rattle.std.proofs.lemmas.Option.{slice_get-get_or}
use Rattle.giotto_tasks.specs.declared.names.Name.{Name}
use Rattle.giotto_tasks.specs.Names.{same_name}
use Rattle.giotto_tasks.proofs.cited.ListLemmas.{found_at}
use Rattle.giotto_tasks.proofs.cited.NameLemmas.{same_name_is}
use Rattle.tenant_grants.specs.Grants.{is_offer_of, offer_of}
use Rattle.tenant_grants.specs.Kept.{same_offer}
use Rattle.tenant_grants.specs.declared.rows.Offer.{Offer}

module _ (actuator tenant : Name) where
  -- an offer that differs from the one of this actuator to this tenant is of another actuator or to another tenant
  other_offer : (p o : Offer) → is_offer_of actuator tenant o ≡ true → same_offer p o ≡ false → is_offer_of actuator tenant p ≡ false
  other_offer p o here differ = by (is_offer_of actuator tenant p) refl
    where
      by : (b : Bool) → is_offer_of actuator tenant p ≡ b → b ≡ false
      by false e = refl
      by true e =
          let names = and_parts (same_name p.actuator actuator) (same_name p.tenant tenant) e in
          let same : is_offer_of p.actuator p.tenant o ≡ is_offer_of actuator tenant o = (λ k. is_offer_of (same_name_is p.actuator actuator names.0 k) (same_name_is p.tenant tenant names.1 k) o) in
          sym here ∙ sym same ∙ differ

  -- offers differ, so an offer at a place is the one that is looked for if it is of this actuator to this tenant
  pub offer_there : (os : List Offer) (k : ℕ) (o : Offer) → IsDistinct same_offer os → slice_get os k ≡ Some o → is_offer_of actuator tenant o ≡ true → offer_of os actuator tenant ≡ Some o
  unfolding IsDistinct
  offer_there [] k o differ at here = cc
  offer_there (p ∷ os) zero o differ at here =
      let one : p ≡ o = cc in
      rw one (rw here refl)
  offer_there (p ∷ os) (suc k) o differ at here =
      rw (other_offer p o here (apart os k differ.0 at)) (offer_there os k o differ.1 at here)
    where
      apart : (qs : List Offer) (j : ℕ) → AllByRecursion (λ (q : Offer). same_offer p q ≡ false) qs → slice_get qs j ≡ Some o → same_offer p o ≡ false
      apart [] j all at = cc
      apart (q ∷ qs) zero all at = let one : q ≡ o = cc in rw (← one) all.0
      apart (q ∷ qs) (suc j) all at = apart qs j all.1 at

  -- and so is the offer at the first place that passes the test
  pub offer_placed : (os : List Offer) (k : ℕ) (o : Offer) → position (is_offer_of actuator tenant) os ≡ Some k → slice_get os k ≡ Some o → offer_of os actuator tenant ≡ Some o
  offer_placed os k o e at =
      let within = (position-Some (is_offer_of actuator tenant) os k o e).0 in
      found_at (is_offer_of actuator tenant) os k o e ∙ sym (slice_get-get_or os k o within) ∙ at
