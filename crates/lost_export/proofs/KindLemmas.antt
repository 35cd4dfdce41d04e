-- Regions listed kind by kind, and sorted by kind again.
use Rattle.std.proofs.Common.{◌≡◌, ℕ, suc, ◌+◌, Bool, true, false, ◌&&◌, List, [], ◌∷◌, ◌++◌, map, length, nat_lt, ◌==◌, ℤ, refl, ap, ap₂, ◌∙◌, arith}
use Rattle.std.specs.List.{list_all, filter_map}
use Rattle.std.specs.Option.{is_none}
use Rattle.lost_spec.specs.Text.{Text}
use Rattle.lost_spec.specs.Ring.{Point}
use Rattle.lost_spec.specs.Civic.{Pairs, pattern_fault}
use Rattle.lost_spec.specs.Token.{is_token_set}
use Rattle.lost_spec.specs.Place.{Region, RingRegion, PatternRegion, TokenRegion, UnreadableRegion, Regions, point_of, is_ring, is_region, polygon_of, pattern_of, token_set_of, by_kind}
use Rattle.lost_spec.specs.Mapping.{has_right_regions}

-- ---- the list

abbrev pub position_of : Point → ℤ × ℤ
position_of point = (point.lat, point.lon)

abbrev pub ring_of : List Point → Region
ring_of polygon = RingRegion (map position_of polygon)

-- polygons, then patterns, then token sets
abbrev pub listed_of : List (List Point) → List Pairs → List (List Text) → List Region
listed_of polygons patterns token_sets = map ring_of polygons ++ (map PatternRegion patterns ++ map TokenRegion token_sets)

abbrev pub listed : Regions → List Region
listed r = listed_of r.polygons r.patterns r.token_sets

-- ---- by kind they are as they were

points_back : (polygon : List Point) → map point_of (map position_of polygon) ≡ polygon
points_back [] = refl
points_back (point ∷ polygon) = ap (λ rest. point ∷ rest) (points_back polygon)

polygons_back : (polygons : List (List Point)) (patterns : List Pairs) (token_sets : List (List Text)) → filter_map polygon_of (listed_of polygons patterns token_sets) ≡ polygons
polygons_back [] [] [] = refl
polygons_back [] [] (tokens ∷ token_sets) = polygons_back [] [] token_sets
polygons_back [] (pattern ∷ patterns) token_sets = polygons_back [] patterns token_sets
polygons_back (polygon ∷ polygons) patterns token_sets = ap₂ (λ first rest. first ∷ rest) (points_back polygon) (polygons_back polygons patterns token_sets)

patterns_back : (polygons : List (List Point)) (patterns : List Pairs) (token_sets : List (List Text)) → filter_map pattern_of (listed_of polygons patterns token_sets) ≡ patterns
patterns_back [] [] [] = refl
patterns_back [] [] (tokens ∷ token_sets) = patterns_back [] [] token_sets
patterns_back [] (pattern ∷ patterns) token_sets = ap (λ rest. pattern ∷ rest) (patterns_back [] patterns token_sets)
patterns_back (polygon ∷ polygons) patterns token_sets = patterns_back polygons patterns token_sets

token_sets_back : (polygons : List (List Point)) (patterns : List Pairs) (token_sets : List (List Text)) → filter_map token_set_of (listed_of polygons patterns token_sets) ≡ token_sets
token_sets_back [] [] [] = refl
token_sets_back [] [] (tokens ∷ token_sets) = ap (λ rest. tokens ∷ rest) (token_sets_back [] [] token_sets)
token_sets_back [] (pattern ∷ patterns) token_sets = token_sets_back [] patterns token_sets
token_sets_back (polygon ∷ polygons) patterns token_sets = token_sets_back polygons patterns token_sets

pub by_kind-listed : (r : Regions) → by_kind (listed r) ≡ r
by_kind-listed r = rw (polygons_back r.polygons r.patterns r.token_sets, patterns_back r.polygons r.patterns r.token_sets, token_sets_back r.polygons r.patterns r.token_sets) refl

-- ---- the listed regions are good

pub both_true : (a b : Bool) → (a && b) ≡ true → (a ≡ true) × (b ≡ true)
both_true true b h = (refl, h)
both_true false b h = absurd (cc)

all_joined : {A : Type 0} (test : A → Bool) (xs ys : List A) → list_all test xs ≡ true → list_all test ys ≡ true → list_all test (xs ++ ys) ≡ true
all_joined test [] ys h k = k
all_joined test (x ∷ xs) ys h k = let parts = both_true (test x) (list_all test xs) h in rw parts.0 (all_joined test xs ys parts.1 k)

positions_back : (positions : List (ℤ × ℤ)) → map position_of (map point_of positions) ≡ positions
positions_back [] = refl
positions_back (position ∷ positions) = ap (λ rest. position ∷ rest) (positions_back positions)

good_polygons : (regions : List Region) → list_all is_region regions ≡ true → list_all is_region (map ring_of (filter_map polygon_of regions)) ≡ true
good_polygons [] h = refl
good_polygons (RingRegion positions ∷ regions) h =
    let parts = both_true (is_ring positions) (list_all is_region regions) h in
    rw (positions_back positions, parts.0) (good_polygons regions parts.1)
good_polygons (PatternRegion pairs ∷ regions) h = good_polygons regions (both_true (is_none (pattern_fault pairs)) (list_all is_region regions) h).1
good_polygons (TokenRegion tokens ∷ regions) h = good_polygons regions (both_true (is_token_set tokens) (list_all is_region regions) h).1
good_polygons (UnreadableRegion ∷ regions) h = absurd (cc)

good_patterns : (regions : List Region) → list_all is_region regions ≡ true → list_all is_region (map PatternRegion (filter_map pattern_of regions)) ≡ true
good_patterns [] h = refl
good_patterns (RingRegion positions ∷ regions) h = good_patterns regions (both_true (is_ring positions) (list_all is_region regions) h).1
good_patterns (PatternRegion pairs ∷ regions) h =
    let parts = both_true (is_none (pattern_fault pairs)) (list_all is_region regions) h in
    rw parts.0 (good_patterns regions parts.1)
good_patterns (TokenRegion tokens ∷ regions) h = good_patterns regions (both_true (is_token_set tokens) (list_all is_region regions) h).1
good_patterns (UnreadableRegion ∷ regions) h = absurd (cc)

good_token_sets : (regions : List Region) → list_all is_region regions ≡ true → list_all is_region (map TokenRegion (filter_map token_set_of regions)) ≡ true
good_token_sets [] h = refl
good_token_sets (RingRegion positions ∷ regions) h = good_token_sets regions (both_true (is_ring positions) (list_all is_region regions) h).1
good_token_sets (PatternRegion pairs ∷ regions) h = good_token_sets regions (both_true (is_none (pattern_fault pairs)) (list_all is_region regions) h).1
good_token_sets (TokenRegion tokens ∷ regions) h =
    let parts = both_true (is_token_set tokens) (list_all is_region regions) h in
    rw parts.0 (good_token_sets regions parts.1)
good_token_sets (UnreadableRegion ∷ regions) h = absurd (cc)

pub good_listed : (regions : List Region) → list_all is_region regions ≡ true → list_all is_region (listed (by_kind regions)) ≡ true
good_listed regions h =
    let r = by_kind regions in
    all_joined is_region (map ring_of r.polygons) (map PatternRegion r.patterns ++ map TokenRegion r.token_sets) (good_polygons regions h)
    (all_joined is_region (map PatternRegion r.patterns) (map TokenRegion r.token_sets) (good_patterns regions h) (good_token_sets regions h))

-- ---- there are as many

length_joined : {A : Type 0} (xs ys : List A) → length (xs ++ ys) ≡ length xs + length ys
length_joined [] ys = omega arith
length_joined (x ∷ xs) ys =
    let rest : length (xs ++ ys) ≡ length xs + length ys = length_joined xs ys in
    omega arith

length_mapped : {A B : Type 0} (f : A → B) (xs : List A) → length (map f xs) ≡ length xs
length_mapped f [] = refl
length_mapped f (x ∷ xs) = ap suc (length_mapped f xs)

length_listed : (r : Regions) → length (listed r) ≡ length r.polygons + (length r.patterns + length r.token_sets)
length_listed r =
    length_joined (map ring_of r.polygons) (map PatternRegion r.patterns ++ map TokenRegion r.token_sets)
    ∙ ap₂ (λ a b. a + b) (length_mapped ring_of r.polygons) (length_joined (map PatternRegion r.patterns) (map TokenRegion r.token_sets) ∙ ap₂ (λ a b. a + b) (length_mapped PatternRegion r.patterns) (length_mapped TokenRegion r.token_sets))

first_up : (a b c n : ℕ) → a + (b + c) ≡ n → suc a + (b + c) ≡ suc n
first_up a b c n h = omega arith

second_up : (a b c n : ℕ) → a + (b + c) ≡ n → a + (suc b + c) ≡ suc n
second_up a b c n h = omega arith

third_up : (a b c n : ℕ) → a + (b + c) ≡ n → a + (b + suc c) ≡ suc n
third_up a b c n h = omega arith

counted : (regions : List Region) → list_all is_region regions ≡ true → length (by_kind regions).polygons + (length (by_kind regions).patterns + length (by_kind regions).token_sets) ≡ length regions
counted [] h = refl
counted (RingRegion positions ∷ regions) h =
    first_up (length (by_kind regions).polygons) (length (by_kind regions).patterns) (length (by_kind regions).token_sets) (length regions) (counted regions (both_true (is_ring positions) (list_all is_region regions) h).1)
counted (PatternRegion pairs ∷ regions) h =
    second_up (length (by_kind regions).polygons) (length (by_kind regions).patterns) (length (by_kind regions).token_sets) (length regions) (counted regions (both_true (is_none (pattern_fault pairs)) (list_all is_region regions) h).1)
counted (TokenRegion tokens ∷ regions) h =
    third_up (length (by_kind regions).polygons) (length (by_kind regions).patterns) (length (by_kind regions).token_sets) (length regions) (counted regions (both_true (is_token_set tokens) (list_all is_region regions) h).1)
counted (UnreadableRegion ∷ regions) h = absurd (cc)

right_by_length : (is_default : Bool) (some others : List Region) → length some ≡ length others → has_right_regions is_default some ≡ has_right_regions is_default others
right_by_length true some others h = ap (λ n. n == 0) h
right_by_length false some others h = ap (λ n. nat_lt 0 n) h

pub right_listed : (is_default : Bool) (regions : List Region) → list_all is_region regions ≡ true → has_right_regions is_default (listed (by_kind regions)) ≡ has_right_regions is_default regions
right_listed is_default regions h = right_by_length is_default (listed (by_kind regions)) regions (length_listed (by_kind regions) ∙ counted regions h)
