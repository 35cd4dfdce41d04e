-- A ring's crossings from run to run.
use Rattle.std.proofs.Common.{◌≡◌, refl, sym, ◌∙◌, ap, ℕ, zero, suc, ◌+◌, ◌<◌, ◌≤◌, Bool, true, false, not, ◌&&◌, subst, List, [], ◌∷◌, length, take, drop, ℤ, ◌≤ℤ◌, ◌<ℤ◌, int_le, int_lt, arith}
use Rattle.std.proofs.Math.Bool.{beq}
use Rattle.std.proofs.Math.Numerals.{add-one}
use Rattle.std.proofs.Math.Seq.{drop-nil}
use Rattle.std.proofs.lemmas.Int.{ints}
use Rattle.std.proofs.lemmas.List.{drop-drop}
use Rattle.lost_spec.specs.Ring.{Point, edges, spans, crosses}
use Rattle.lost_geo.specs.declared.bounds.Bounds.{Bounds}
use Rattle.lost_geo.specs.Bounds.{bounds_of}
use Rattle.lost_geo.specs.Laws.{is_just_one}
use Rattle.lost_geo.specs.Runs.{is_spanned, AreCornersOf}
use Rattle.lost_geo.proofs.Cuts.{odd_along}
use Rattle.lost_geo.proofs.Exact.{AreExact-bounds_of}
use Rattle.lost_geo.proofs.Parity.{odd_count, odd_count-cons, just_one_assoc, just_one_of_false, just_one_with_false}
use Rattle.lost_geo.proofs.Walk.{just_one-beq}
use Rattle.lost_geo.proofs.Within.{odd_count-same, none_crosses, both_above, both_not_above, both_west, both_east, above_place, below_place, not_above_place, not_le}

-- ---- a run and the positions from its end on

odd_along-cons : (a b : Point) (rest : List Point) (p : Point) → odd_along (a ∷ b ∷ rest) p ≡ is_just_one (crosses (a, b) p) (odd_along (b ∷ rest) p)
odd_along-cons a b rest p = odd_count-cons (λ e. crosses e p) (a, b) (edges (b ∷ rest))

odd_along-split : (n : ℕ) (ring : List Point) (p : Point) →
    odd_along ring p ≡ is_just_one (odd_along (take (suc n) ring) p) (odd_along (drop n ring) p)
odd_along-split zero [] p = refl
odd_along-split zero (a ∷ rest) p = sym (just_one_of_false (odd_along (a ∷ rest) p))
odd_along-split (suc n) [] p = refl
odd_along-split (suc n) (a ∷ []) p = sym (ap (λ (ring : List Point). is_just_one false (odd_along ring p)) (drop-nil {A = Point} n))
odd_along-split (suc n) (a ∷ b ∷ rest) p =
    let later = odd_along (drop n (b ∷ rest)) p in
    odd_along-cons a b rest p
    ∙ ap (is_just_one (crosses (a, b) p)) (odd_along-split n (b ∷ rest) p)
    ∙ sym (just_one_assoc (crosses (a, b) p) (odd_along (b ∷ take n rest) p) later)
    ∙ ap (λ (odd : Bool). is_just_one odd later) (sym (odd_along-cons a b (take n rest) p))

just_one_left : {a b : Bool} → a ≡ b → (c : Bool) → is_just_one a c ≡ is_just_one b c
just_one_left is c = ap (λ (odd : Bool). is_just_one odd c) is

at_run : (n : ℕ) (ring : List Point) (p : Point) → odd_along ring p ≡ is_just_one (odd_along (take (n + 1) ring) p) (odd_along (drop n ring) p)
at_run n ring p = rw (add-one n) (odd_along-split n ring p)

-- ---- a run that does not span the place

not_lt : (a b : ℤ) → int_lt a b ≡ false → b ≤ℤ a
not_lt a b test = grind (arith, ints)

-- where the first test fails, and where the second one does
none_beyond : (a : Point) (rest : List Point) (p : Point) (begun : Bool) →
    int_le (bounds_of (a ∷ rest)).lat_min p.lat ≡ begun → (begun && int_lt p.lat (bounds_of (a ∷ rest)).lat_max) ≡ false → odd_along (a ∷ rest) p ≡ false
none_beyond a rest p false begins ends =
    let bounds = bounds_of (a ∷ rest) in
    none_crosses (λ q. p.lat <ℤ q.lat) p (λ q r. both_above q r p) (a ∷ rest)
    (above_place bounds.lat_min (λ q. q.lat) p (a ∷ rest) (not_le bounds.lat_min p.lat begins) (AreExact-bounds_of a rest).lat_min.1)
none_beyond a rest p true begins ends =
    let bounds = bounds_of (a ∷ rest) in
    none_crosses (λ q. q.lat ≤ℤ p.lat) p (λ q r. both_not_above q r p) (a ∷ rest)
    (not_above_place bounds.lat_max (λ q. q.lat) p (a ∷ rest) (not_lt p.lat bounds.lat_max ends) (AreExact-bounds_of a rest).lat_max.1)

pub none_where_not_spanned : (run : Bounds) (positions : List Point) (p : Point) →
    run ≡ bounds_of positions → is_spanned run p.lat ≡ false → odd_along positions p ≡ false
none_where_not_spanned run [] p is beyond = refl
none_where_not_spanned run (a ∷ rest) p is beyond =
    none_beyond a rest p (int_le (bounds_of (a ∷ rest)).lat_min p.lat) refl (sym (ap (λ (r : Bounds). is_spanned r p.lat) is) ∙ beyond)

-- ---- a run beside the place

is_lt : (a b : ℤ) → int_lt a b ≡ true → a <ℤ b
is_lt a b test = grind (arith, ints)

pub none_where_left : (run : Bounds) (positions : List Point) (p : Point) →
    run ≡ bounds_of positions → int_lt run.lon_max p.lon ≡ true → odd_along positions p ≡ false
none_where_left run [] p is beside = refl
none_where_left run (a ∷ rest) p is beside =
    let bounds = bounds_of (a ∷ rest) in
    none_crosses (λ q. q.lon <ℤ p.lon) p (λ q r. both_west q r p) (a ∷ rest)
    (below_place bounds.lon_max (λ q. q.lon) p (a ∷ rest)
    (is_lt bounds.lon_max p.lon (sym (ap (λ (r : Bounds). int_lt r.lon_max p.lon) is) ∙ beside)) (AreExact-bounds_of a rest).lon_max.1)

pub spanned_where_right : (run : Bounds) (positions : List Point) (p : Point) →
    run ≡ bounds_of positions → int_lt p.lon run.lon_min ≡ true → odd_along positions p ≡ odd_count (λ e. spans e p) (edges positions)
spanned_where_right run [] p is beside = refl
spanned_where_right run (a ∷ rest) p is beside =
    let bounds = bounds_of (a ∷ rest) in
    odd_count-same (λ q. p.lon <ℤ q.lon) (λ e. crosses e p) (λ e. spans e p) (λ q r. both_east q r p) (a ∷ rest)
    (above_place bounds.lon_min (λ q. q.lon) p (a ∷ rest)
    (is_lt p.lon bounds.lon_min (sym (ap (λ (r : Bounds). int_lt p.lon r.lon_min) is) ∙ beside)) (AreExact-bounds_of a rest).lon_min.1)

-- ---- a walk over the runs

-- behind the first two corners are those of the positions behind the run
pub behind_a_run : (size : ℕ) (corners : List Point) (ring : List Point) (begin : ℕ) → 1 < length corners →
    AreCornersOf size corners (drop begin ring) → AreCornersOf size (drop 2 corners) (drop (begin + size) ring)
behind_a_run size [] ring begin some are = absurd (omega arith)
behind_a_run size (a ∷ []) ring begin some are = absurd (omega arith)
behind_a_run size (a ∷ b ∷ corners) ring begin some are = subst (AreCornersOf size corners) (drop-drop size begin ring) are.2

-- one run further
pub walk_more : (size : ℕ) (odd crossing total : Bool) (ring : List Point) (begin : ℕ) (p : Point) →
    crossing ≡ odd_along (take (size + 1) (drop begin ring)) p →
    is_just_one odd (odd_along (drop begin ring) p) ≡ total → is_just_one (not (beq odd crossing)) (odd_along (drop (begin + size) ring) p) ≡ total
walk_more size odd crossing total ring begin p counted before =
    just_one_left (just_one-beq odd crossing) (odd_along (drop (begin + size) ring) p)
    ∙ ap (λ (b : Bool). is_just_one (is_just_one odd b) (odd_along (drop (begin + size) ring) p)) counted
    ∙ ap (λ (ps : List Point). is_just_one (is_just_one odd (odd_along (take (size + 1) (drop begin ring)) p)) (odd_along ps p)) (sym (drop-drop size begin ring))
    ∙ just_one_assoc odd (odd_along (take (size + 1) (drop begin ring)) p) (odd_along (drop size (drop begin ring)) p)
    ∙ ap (is_just_one odd) (sym (at_run size (drop begin ring) p))
    ∙ before

no_edge : (ring : List Point) (p : Point) → length ring ≤ 1 → odd_along ring p ≡ false
no_edge [] p short = refl
no_edge (a ∷ []) p short = refl
no_edge (a ∷ b ∷ rest) p short = absurd (omega arith)

-- the end of the walk
pub walk_all : (size : ℕ) (odd total : Bool) (corners : List Point) (ring : List Point) (p : Point) → length corners ≤ 1 →
    AreCornersOf size corners ring → is_just_one odd (odd_along ring p) ≡ total → odd ≡ total
walk_all size odd total [] ring p past are before = sym (just_one_with_false odd) ∙ ap (is_just_one odd) (sym (no_edge ring p are)) ∙ before
walk_all size odd total (a ∷ []) ring p past are before = sym (just_one_with_false odd) ∙ ap (is_just_one odd) (sym (no_edge ring p are)) ∙ before
walk_all size odd total (a ∷ b ∷ corners) ring p past are before = absurd (omega arith)
