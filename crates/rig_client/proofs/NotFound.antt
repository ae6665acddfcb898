-- What isn't found.
use Rattle.std.proofs.Common.{◌≡◌, Option, None, Some, refl, sym}
use Rattle.std.specs.Option.{option_map}

pub none_of : {A B : Type 0} (found : Option A) (f : A → B) {kept : Option B} → option_map f found ≡ kept → ((x : A) → found ≡ Some x → ⊥) → kept ≡ None
none_of None f e none = sym e
none_of (Some x) f e none = absurd (none x refl)
