-- What a `Place` of the code stands for.
use Rattle.std.specs.Prelude.{◌≡◌, Bool, true}
use Rattle.lost_spec.specs.Place.{Place, AtPoint, AtAddress, AtToken}
use Rattle.lost_location.specs.declared.place.Place.{Place as Kept}
use Rattle.lost_location.specs.declared.place.Place.TheVariants.{Point as KeptPoint, Address as KeptAddress, Token as KeptToken}

-- where a request asks (RFC 5222, section 12; tokens own)
abbrev pub place_of : Kept → Place
place_of (KeptPoint point) = AtPoint point
place_of (KeptAddress address) = AtAddress address.value
place_of (KeptToken token) = AtToken token.value

-- places that this equality takes for equal are seen as one place (own)
abbrev pub EqualPlacesAreOne : (Kept → Kept → Bool) → Type 0
EqualPlacesAreOne same = (a b : Kept) → same a b ≡ true → place_of a ≡ place_of b
