-- Regions are read from their trees as they were.
use Rattle.std.proofs.Common.{◌≡◌, ℕ, ◌^◌, Bool, true, false, not, cond, nat_lt, List, [], ◌∷◌, ◌++◌, map, Option, None, Some, option_map, is_none, ℤ, pos, negsuc, neg_ℤ, int_le, refl, ap, arith}
use Rattle.std.specs.List.{list_all, AllByRecursion}
use Rattle.serde_json.specs.Data.{Data, number}
use Rattle.serde_json.specs.Find.{of_integer, as_str}
use Rattle.serde_json.specs.View.{items_of}
use Rattle.std.proofs.lemmas.Int.{ints}
use Rattle.lost_spec.specs.Text.{Text, first_fault}
use Rattle.lost_spec.specs.Ring.{Point, lat_limit, lon_limit, is_within, point_fault, ring_fault}
use Rattle.lost_spec.specs.declared.faults.GeoError.TheVariants.{Latitude, Longitude}
use Rattle.lost_spec.specs.Civic.{Pairs}
use Rattle.lost_spec.specs.Place.{Region, PatternRegion, TokenRegion, Regions, point_of, is_region}
use Rattle.lost_reading.specs.Members.{each_of, list_in, position_in, whole_in}
use Rattle.lost_reading.specs.Desk.{region_in, regions_kind}
use Rattle.lost_export.specs.Export.{texts_data, position_data, polygon_data, pattern_data, token_set_data, regions_data}
use Rattle.lost_export.specs.ReadBack.{HasAscendingNames}
use Rattle.lost_export.proofs.KindLemmas.{position_of, ring_of, listed, both_true}
use Rattle.lost_export.proofs.PairLemmas.{pairs_back}

-- ---- lists

-- each thing is read as what it makes, before others
each_before : {Thing Made : Type 0} (kind : Data → Option Made) (shown : Thing → Data) (made : Thing → Made) (P : Thing → Type 0) → ((thing : Thing) → P thing → kind (shown thing) ≡ Some (made thing))
    → (things : List Thing) → AllByRecursion P things → (more : List Data) (rest : List Made) → each_of kind (items_of more) ≡ Some rest → each_of kind (items_of (map shown things ++ more)) ≡ Some (map made things ++ rest)
each_before kind shown made P reads [] all more rest h = h
each_before kind shown made P reads (thing ∷ things) all more rest h = rw (reads thing all.0, each_before kind shown made P reads things all.1 more rest h) refl

each_alone : {Thing Made : Type 0} (kind : Data → Option Made) (shown : Thing → Data) (made : Thing → Made) (P : Thing → Type 0) → ((thing : Thing) → P thing → kind (shown thing) ≡ Some (made thing))
    → (things : List Thing) → AllByRecursion P things → each_of kind (items_of (map shown things)) ≡ Some (map made things)
each_alone kind shown made P reads [] all = refl
each_alone kind shown made P reads (thing ∷ things) all = rw (reads thing all.0, each_alone kind shown made P reads things all.1) refl

pub texts_back : (texts : List Text) → list_in as_str (texts_data texts) ≡ Some texts
texts_back [] = refl
texts_back (text ∷ texts) = ap (option_map (λ rest. text ∷ rest)) (texts_back texts)

-- ---- positions

below : (n : ℕ) → int_le (pos n) lon_limit ≡ true → nat_lt n (2 ^ 63) ≡ true
below n h = grind (arith, ints)

whole_back : (whole : ℤ) → int_le whole lon_limit ≡ true → whole_in (number (of_integer whole)) ≡ Some whole
whole_back (pos n) h = ap (λ fits. cond fits (Some (pos n)) None) (below n h)
whole_back (negsuc n) h = refl

lat_below : (z : ℤ) → int_le z lat_limit ≡ true → int_le z lon_limit ≡ true
lat_below z h = grind (arith, ints)

no_fault : (lat lon : Bool) → is_none (first_fault ((not lat, Latitude) ∷ (not lon, Longitude) ∷ [])) ≡ true → (lat ≡ true) × (lon ≡ true)
no_fault true true h = (refl, refl)
no_fault true false h = absurd (cc)
no_fault false lon h = absurd (cc)

-- a latitude and a longitude within their ranges
abbrev is_good : ℤ × ℤ → Bool
is_good position = is_none (point_fault position.0 position.1)

position_back : (point : Point) → is_good (position_of point) ≡ true → position_in (position_data point) ≡ Some (position_of point)
position_back point h =
    let good = no_fault (is_within lat_limit point.lat) (is_within lon_limit point.lon) h in
    let lat = whole_back point.lat (lat_below point.lat (both_true (int_le (neg_ℤ lat_limit) point.lat) (int_le point.lat lat_limit) good.0).1) in
    let lon = whole_back point.lon (both_true (int_le (neg_ℤ lon_limit) point.lon) (int_le point.lon lon_limit) good.1).1 in
    rw (lat, lon) refl

-- ---- polygons

all_good : (polygon : List Point) → list_all is_good (map position_of polygon) ≡ true → AllByRecursion (λ point. is_good (position_of point) ≡ true) polygon
all_good [] h = tt
all_good (point ∷ polygon) h =
    let parts = both_true (is_good (position_of point)) (list_all is_good (map position_of polygon)) h in
    (parts.0, all_good polygon parts.1)

polygon_back : (polygon : List Point) → is_region (ring_of polygon) ≡ true → Some (region_in (polygon_data polygon)) ≡ Some (ring_of polygon)
polygon_back polygon h =
    let good = both_true (list_all is_good (map position_of polygon)) (is_none (ring_fault (map point_of (map position_of polygon)))) h in
    let read = each_alone position_in position_data position_of (λ point. is_good (position_of point) ≡ true) position_back polygon (all_good polygon good.0) in
    rw read refl

-- ---- patterns and token sets

pattern_back : (pattern : Pairs) → HasAscendingNames pattern → Some (region_in (pattern_data pattern)) ≡ Some (PatternRegion pattern)
pattern_back pattern h = rw (pairs_back pattern h) refl

token_set_back : (tokens : List Text) → Unit {0} → Some (region_in (token_set_data tokens)) ≡ Some (TokenRegion tokens)
token_set_back tokens h = rw (texts_back tokens) refl

all_hold : {A : Type 0} (xs : List A) → AllByRecursion (λ x. Unit {0}) xs
all_hold [] = tt
all_hold (x ∷ xs) = (tt, all_hold xs)

-- ---- all regions

front_of : {A : Type 0} (test : A → Bool) (xs ys : List A) → list_all test (xs ++ ys) ≡ true → list_all test xs ≡ true
front_of test [] ys h = refl
front_of test (x ∷ xs) ys h = let parts = both_true (test x) (list_all test (xs ++ ys)) h in rw parts.0 (front_of test xs ys parts.1)

all_rings : (polygons : List (List Point)) → list_all is_region (map ring_of polygons) ≡ true → AllByRecursion (λ polygon. is_region (ring_of polygon) ≡ true) polygons
all_rings [] h = tt
all_rings (polygon ∷ polygons) h =
    let parts = both_true (is_region (ring_of polygon)) (list_all is_region (map ring_of polygons)) h in
    (parts.0, all_rings polygons parts.1)

-- regions are read in the order in which they are listed
pub regions_back : (r : Regions) → list_all is_region (listed r) ≡ true → AllByRecursion HasAscendingNames r.patterns → regions_kind (regions_data r) ≡ Some (listed r)
regions_back r good ascending =
    let kind : Data → Option Region = λ region. Some (region_in region) in
    let rings = all_rings r.polygons (front_of is_region (map ring_of r.polygons) (map PatternRegion r.patterns ++ map TokenRegion r.token_sets) good) in
    let token_sets = each_alone kind token_set_data TokenRegion (λ tokens. Unit {0}) token_set_back r.token_sets (all_hold r.token_sets) in
    let patterns = each_before kind pattern_data PatternRegion HasAscendingNames pattern_back r.patterns ascending (map token_set_data r.token_sets) (map TokenRegion r.token_sets) token_sets in
    each_before kind polygon_data ring_of (λ polygon. is_region (ring_of polygon) ≡ true) polygon_back r.polygons rings (map pattern_data r.patterns ++ map token_set_data r.token_sets) (map PatternRegion r.patterns ++ map TokenRegion r.token_sets) patterns
