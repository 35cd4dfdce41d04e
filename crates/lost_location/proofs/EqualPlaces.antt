-- Equal places are seen as one place.
use Rattle.std.proofs.Common.{◌≡◌, true, ◌&&◌, [], ◌∷◌, ℤ, refl, ap}
use Rattle.std.specs.Cmp.{first_so, second_so}
use Rattle.std.specs.Ordering.{int_eq}
use Rattle.std.proofs.lemmas.Bool.{false≢true}
use Rattle.std.proofs.lemmas.Bool.Decides.{Decides-int_eq}
use Rattle.std.proofs.lemmas.Slice.Eq.{bytes_eq-Decides}
use Rattle.lost_spec.specs.Place.{AtPoint, AtAddress, AtToken}
use Rattle.lost_spec.specs.Text.{Text, same_text}
use Rattle.lost_spec.specs.Ring.{Point}
use Rattle.lost_spec.specs.Civic.{Pairs}
use Rattle.lost_civic.specs.Pairs.{same_pair, same_pairs}
use Rattle.lost_location.specs.declared.place.Place.{Place as Kept}
use Rattle.lost_location.specs.declared.place.Place.TheVariants.{Point as KeptPoint, Address as KeptAddress, Token as KeptToken}
use Rattle.lost_location.specs.Place.{place_of}
use Rattle.lost_location.specs.contracts.place.PlacePartialEq.TheImpl.{ghosts}

same_point : (a b c d : ℤ) → a ≡ b → c ≡ d → ◌≡◌ {A = Point} (record { lat = a; lon = c }) (record { lat = b; lon = d })
same_point a b c d one other = cc

same_names : (a b c d : Text) → a ≡ b → c ≡ d → ◌≡◌ {A = Text × Text} (a, c) (b, d)
same_names a b c d one other = cc

point_is : (a b : Point) → (int_eq a.lat b.lat && int_eq a.lon b.lon) ≡ true → a ≡ b
point_is a b h =
    let lat : a.lat ≡ b.lat = (Decides-int_eq a.lat b.lat).0 (first_so (int_eq a.lat b.lat) (int_eq a.lon b.lon) h) in
    let lon : a.lon ≡ b.lon = (Decides-int_eq a.lon b.lon).0 (second_so (int_eq a.lat b.lat) (int_eq a.lon b.lon) h) in
    same_point a.lat b.lat a.lon b.lon lat lon

pair_is : (a b : Text × Text) → same_pair a b ≡ true → a ≡ b
pair_is a b h =
    let name : a.0 ≡ b.0 = (bytes_eq-Decides a.0 b.0).0 (first_so (same_text a.0 b.0) (same_text a.1 b.1) h) in
    let value : a.1 ≡ b.1 = (bytes_eq-Decides a.1 b.1).0 (second_so (same_text a.0 b.0) (same_text a.1 b.1) h) in
    same_names a.0 b.0 a.1 b.1 name value

pairs_are : (a b : Pairs) → same_pairs a b ≡ true → a ≡ b
pairs_are [] [] h = refl
pairs_are [] (y ∷ ys) h = absurd (false≢true h)
pairs_are (x ∷ xs) [] h = absurd (false≢true h)
pairs_are (x ∷ xs) (y ∷ ys) h =
    let first : x ≡ y = pair_is x y (first_so (same_pair x y) (same_pairs xs ys) h) in
    let rest : xs ≡ ys = pairs_are xs ys (second_so (same_pair x y) (same_pairs xs ys) h) in
    cc (first, rest)

pub equal_places : (a b : Kept) → ghosts.eq a b ≡ true → place_of a ≡ place_of b
equal_places (KeptPoint a) (KeptPoint b) h = ap AtPoint (point_is a b h)
equal_places (KeptPoint a) (KeptAddress b) h = absurd (false≢true h)
equal_places (KeptAddress a) (KeptPoint b) h = absurd (false≢true h)
equal_places (KeptPoint a) (KeptToken b) h = absurd (false≢true h)
equal_places (KeptAddress a) (KeptAddress b) h = ap AtAddress (pairs_are a.value b.value h)
equal_places (KeptAddress a) (KeptToken b) h = absurd (false≢true h)
equal_places (KeptToken a) (KeptPoint b) h = absurd (false≢true h)
equal_places (KeptToken a) (KeptAddress b) h = absurd (false≢true h)
equal_places (KeptToken a) (KeptToken b) h = ap AtToken ((bytes_eq-Decides a.value b.value).0 h)
