-- Where an odd number of a closed ring's edges cross, there the bounds of the ring hold the place.
use Rattle.std.proofs.Common.{◌≡◌, refl, sym, ◌∙◌, ap, subst, suc, Bool, true, false, not, ◌&&◌, List, [], ◌∷◌, length, map, All, get_or, ℤ, ◌-ℤ◌, ◌≤ℤ◌, ◌<ℤ◌, int_le, int_lt, arith, IsTrue, None, nat_lt}
use Rattle.std.proofs.Math.Bool.{and-true}
use Rattle.std.proofs.lemmas.Bool.{and_from, and_parts, and_right, true_from_ne_false, false_from_ne_true, false≢true, cond_both}
use Rattle.std.proofs.lemmas.Int.{ints}
use Rattle.std.proofs.lemmas.List.{get_or-map, length-map}
use Rattle.lost_spec.specs.declared.faults.RingError.TheVariants.{TooShort, NotClosed, TooLong}
use Rattle.lost_spec.specs.Text.{first_fault}
use Rattle.lost_spec.specs.Ring.{Point, Edge, edges, low_end, high_end, spans, crosses, crossings, is_odd, is_closed, inside, normal}
use Rattle.lost_geo.specs.Sides.{is_left_of}
use Rattle.lost_geo.specs.declared.bounds.Bounds.{Bounds}
use Rattle.lost_geo.specs.Bounds.{bounds_of, is_within_bounds, AreExact, IsRingWith}
use Rattle.lost_geo.specs.Laws.{is_just_one, InsideIsWithinBounds}
use Rattle.lost_geo.proofs.Exact.{AreExact-bounds_of}
use Rattle.lost_geo.proofs.Parity.{odd_count, odd_count-cons}
use Rattle.lost_geo.proofs.Products.{not_below-mul, below-mul}
use Rattle.lost_geo.proofs.Spans.{spans-is, spanned_evenly}

-- ---- two tests that agree at each edge between such positions

pub odd_count-same : (P : Point → Type 0) (f g : Edge → Bool) (same : (a b : Point) → P a → P b → f (a, b) ≡ g (a, b)) →
    (ring : List Point) → All P ring → odd_count f (edges ring) ≡ odd_count g (edges ring)
odd_count-same P f g same [] all = refl
odd_count-same P f g same (a ∷ []) all = refl
odd_count-same P f g same (a ∷ b ∷ rest) all =
    let here : f (a, b) ≡ g (a, b) = same a b (all 0 a (omega arith)) (all 1 b (omega arith)) in
    let later : odd_count f (edges (b ∷ rest)) ≡ odd_count g (edges (b ∷ rest)) =
    odd_count-same P f g same (b ∷ rest) (λ k d below. all (suc k) d (omega arith)) in
    odd_count-cons f (a, b) (edges (b ∷ rest))
    ∙ ap (λ (odd : Bool). is_just_one odd (odd_count f (edges (b ∷ rest)))) here
    ∙ ap (is_just_one (g (a, b))) later
    ∙ sym (odd_count-cons g (a, b) (edges (b ∷ rest)))

odd_count-none : (es : List Edge) → odd_count (λ _. false) es ≡ false
odd_count-none [] = refl
odd_count-none (e ∷ es) = odd_count-none es

-- no edge crosses where none between such positions does
pub none_crosses : (P : Point → Type 0) (p : Point) (no_edge : (a b : Point) → P a → P b → crosses (a, b) p ≡ false) →
    (ring : List Point) → All P ring → is_odd (crossings (edges ring) p) ≡ false
none_crosses P p no_edge ring all =
    odd_count-same P (λ e. crosses e p) (λ _. false) no_edge ring all ∙ odd_count-none (edges ring)

-- ---- one edge, of which both ends are beyond the place

pub both_above : (a b p : Point) → p.lat <ℤ a.lat → p.lat <ℤ b.lat → crosses (a, b) p ≡ false
both_above a b p below_a below_b =
    let at_a : int_le a.lat p.lat ≡ false = grind (arith, ints) in
    let at_b : int_le b.lat p.lat ≡ false = grind (arith, ints) in
    let spans_not : spans (a, b) p ≡ false = spans-is a b p ∙ ap (λ (t : Bool). is_just_one t (int_le b.lat p.lat)) at_a ∙ ap (is_just_one false) at_b in
    ap (λ (t : Bool). t && is_left_of (low_end (a, b)) (high_end (a, b)) p) spans_not

pub both_not_above : (a b p : Point) → a.lat ≤ℤ p.lat → b.lat ≤ℤ p.lat → crosses (a, b) p ≡ false
both_not_above a b p above_a above_b =
    let at_a : int_le a.lat p.lat ≡ true = grind (arith, ints) in
    let at_b : int_le b.lat p.lat ≡ true = grind (arith, ints) in
    let spans_not : spans (a, b) p ≡ false = spans-is a b p ∙ ap (λ (t : Bool). is_just_one t (int_le b.lat p.lat)) at_a ∙ ap (is_just_one true) at_b in
    ap (λ (t : Bool). t && is_left_of (low_end (a, b)) (high_end (a, b)) p) spans_not

both_below : (a b p : Point) → a.lat <ℤ p.lat → b.lat <ℤ p.lat → crosses (a, b) p ≡ false
both_below a b p above_a above_b = both_not_above a b p (omega (arith, ints)) (omega (arith, ints))

-- the two ends of an edge are its positions
low_end-of : (P : Point → Type 0) (a b : Point) → P a → P b → P (low_end (a, b))
low_end-of P a b at_a at_b = cond_both (int_le a.lat b.lat) a b P (λ _. at_a) (λ _. at_b)

high_end-of : (P : Point → Type 0) (a b : Point) → P a → P b → P (high_end (a, b))
high_end-of P a b at_a at_b = cond_both (int_le a.lat b.lat) b a P (λ _. at_b) (λ _. at_a)

-- an edge of which both ends tell on which side of it a place is that it spans
module _ (p : Point) (P : Point → Type 0) (side : Bool)
    (is : (lo hi : Point) → P lo → P hi → lo.lat ≤ℤ p.lat → p.lat <ℤ hi.lat → is_left_of lo hi p ≡ side) where
  where_spanned : (spanning : Bool) (lo hi : Point) → (int_le lo.lat p.lat && int_lt p.lat hi.lat) ≡ spanning →
      P lo → P hi → (spanning && is_left_of lo hi p) ≡ (spanning && side)
  where_spanned false lo hi spans at_lo at_hi = refl
  where_spanned true lo hi spans at_lo at_hi =
      let tests = and_parts (int_le lo.lat p.lat) (int_lt p.lat hi.lat) spans in
      let low : int_le lo.lat p.lat ≡ true = tests.0 in
      let high : int_lt p.lat hi.lat ≡ true = tests.1 in
      is lo hi at_lo at_hi (grind (arith, ints)) (grind (arith, ints))

  crosses-side : (a b : Point) → P a → P b → crosses (a, b) p ≡ (spans (a, b) p && side)
  crosses-side a b at_a at_b =
      where_spanned (spans (a, b) p) (low_end (a, b)) (high_end (a, b)) refl (low_end-of P a b at_a at_b) (high_end-of P a b at_a at_b)

pub both_west : (a b p : Point) → a.lon <ℤ p.lon → b.lon <ℤ p.lon → crosses (a, b) p ≡ false
both_west a b p west_a west_b =
    crosses-side p (λ q. q.lon <ℤ p.lon) false
    (λ lo hi lo_west hi_west low high. not_below-mul (p.lon -ℤ lo.lon) (hi.lon -ℤ lo.lon) (hi.lat -ℤ lo.lat) (p.lat -ℤ lo.lat) (omega (arith, ints)) (omega (arith, ints)) (omega (arith, ints)) (omega (arith, ints)))
    a b west_a west_b ∙ and_right (spans (a, b) p) false refl

pub both_east : (a b p : Point) → p.lon <ℤ a.lon → p.lon <ℤ b.lon → crosses (a, b) p ≡ spans (a, b) p
both_east a b p east_a east_b =
    crosses-side p (λ q. p.lon <ℤ q.lon) true
    (λ lo hi lo_east hi_east low high. below-mul (p.lon -ℤ lo.lon) (hi.lon -ℤ lo.lon) (hi.lat -ℤ lo.lat) (p.lat -ℤ lo.lat) (omega (arith, ints)) (omega (arith, ints)) (omega (arith, ints)) (omega (arith, ints)))
    a b east_a east_b ∙ and-true (spans (a, b) p)

-- ---- a ring with a bound beyond the place

All-of_map : (f : Point → ℤ) (P : ℤ → Type 0) (ring : List Point) → All P (map f ring) → All (λ q. P (f q)) ring
All-of_map f P ring all k d below =
    subst P (get_or-map f ring k d (f d) below) (all k (f d) (simp length-map below))

-- what holds of each number holds of each position
All-weaker : (P Q : Point → Type 0) (weaker : (q : Point) → P q → Q q) (ring : List Point) → All P ring → All Q ring
All-weaker P Q weaker ring all k d below = weaker (get_or ring k d) (all k d below)

pub above_place : (m : ℤ) (f : Point → ℤ) (p : Point) (ring : List Point) → f p <ℤ m → All (λ z. m ≤ℤ z) (map f ring) → All (λ q. f p <ℤ f q) ring
above_place m f p ring beyond all =
    All-weaker (λ q. m ≤ℤ f q) (λ q. f p <ℤ f q) (λ q above. omega (arith, ints)) ring (All-of_map f (λ z. m ≤ℤ z) ring all)

pub below_place : (m : ℤ) (f : Point → ℤ) (p : Point) (ring : List Point) → m <ℤ f p → All (λ z. z ≤ℤ m) (map f ring) → All (λ q. f q <ℤ f p) ring
below_place m f p ring beyond all =
    All-weaker (λ q. f q ≤ℤ m) (λ q. f q <ℤ f p) (λ q above. omega (arith, ints)) ring (All-of_map f (λ z. z ≤ℤ m) ring all)

pub not_above_place : (m : ℤ) (f : Point → ℤ) (p : Point) (ring : List Point) → m ≤ℤ f p → All (λ z. z ≤ℤ m) (map f ring) → All (λ q. f q ≤ℤ f p) ring
not_above_place m f p ring reached all =
    All-weaker (λ q. f q ≤ℤ m) (λ q. f q ≤ℤ f p) (λ q above. omega (arith, ints)) ring (All-of_map f (λ z. z ≤ℤ m) ring all)

pub not_le : (a b : ℤ) → int_le a b ≡ false → b <ℤ a
not_le a b test = grind (arith, ints)

-- a test that holds where an odd number of edges cross, since no odd number does where it fails
holds_where_odd : (test odd : Bool) → odd ≡ true → (test ≡ false → odd ≡ false) → test ≡ true
holds_where_odd test odd is_true fails =
    true_from_ne_false test (λ failed. false≢true (sym (fails failed) ∙ is_true))

-- the bounds of a ring with a position hold each place where an odd number of edges cross
within : (a : Point) (rest : List Point) (p : Point) → IsTrue (is_closed (a ∷ rest)) →
    is_odd (crossings (edges (a ∷ rest)) p) ≡ true → is_within_bounds (bounds_of (a ∷ rest)) p ≡ true
within a rest p closed odd =
    let ring = a ∷ rest in
    let bounds = bounds_of (a ∷ rest) in
    let exact : AreExact (bounds_of (a ∷ rest)) (a ∷ rest) = AreExact-bounds_of a rest in
    let south : int_le bounds.lat_min p.lat ≡ true =
    holds_where_odd (int_le bounds.lat_min p.lat) (is_odd (crossings (edges ring) p)) odd
    (λ failed. none_crosses (λ q. p.lat <ℤ q.lat) p (λ q r. both_above q r p) ring
    (above_place bounds.lat_min (λ q. q.lat) p ring (not_le bounds.lat_min p.lat failed) exact.lat_min.1)) in
    let north : int_le p.lat bounds.lat_max ≡ true =
    holds_where_odd (int_le p.lat bounds.lat_max) (is_odd (crossings (edges ring) p)) odd
    (λ failed. none_crosses (λ q. q.lat <ℤ p.lat) p (λ q r. both_below q r p) ring
    (below_place bounds.lat_max (λ q. q.lat) p ring (not_le p.lat bounds.lat_max failed) exact.lat_max.1)) in
    let west : int_le bounds.lon_min p.lon ≡ true =
    holds_where_odd (int_le bounds.lon_min p.lon) (is_odd (crossings (edges ring) p)) odd
    (λ failed.
    odd_count-same (λ q. p.lon <ℤ q.lon) (λ e. crosses e p) (λ e. spans e p) (λ q r. both_east q r p) ring
    (above_place bounds.lon_min (λ q. q.lon) p ring (not_le bounds.lon_min p.lon failed) exact.lon_min.1)
    ∙ spanned_evenly ring p closed) in
    let east : int_le p.lon bounds.lon_max ≡ true =
    holds_where_odd (int_le p.lon bounds.lon_max) (is_odd (crossings (edges ring) p)) odd
    (λ failed. none_crosses (λ q. q.lon <ℤ p.lon) p (λ q r. both_west q r p) ring
    (below_place bounds.lon_max (λ q. q.lon) p ring (not_le p.lon bounds.lon_max failed) exact.lon_max.1)) in
    and_from (int_le bounds.lat_min p.lat && int_le p.lat bounds.lat_max) (int_le bounds.lon_min p.lon && int_le p.lon bounds.lon_max)
    (and_from (int_le bounds.lat_min p.lat) (int_le p.lat bounds.lat_max) south north)
    (and_from (int_le bounds.lon_min p.lon) (int_le p.lon bounds.lon_max) west east)

pub inside_is_within_bounds : InsideIsWithinBounds
inside_is_within_bounds [] p closed is_inside = absurd (false≢true closed)
inside_is_within_bounds (a ∷ rest) p closed is_inside = within a rest (normal p) closed is_inside

-- ---- a polygon's test

closed_by : (short closed long : Bool) → first_fault ((short, TooShort) ∷ (not closed, NotClosed) ∷ (long, TooLong) ∷ []) ≡ None → closed ≡ true
closed_by true closed long none = absurd (cc)
closed_by false true long none = refl
closed_by false false long none = absurd (cc)

-- a place beyond the bounds that a polygon keeps is not inside its ring
pub not_inside_beyond : (ring : List Point) (bounds : Bounds) (point place : Point) (held : Bool) → IsRingWith ring bounds → place ≡ normal point →
    held ≡ is_within_bounds bounds place → held ≡ false → held ≡ inside ring point
not_inside_beyond ring bounds point place held kept at tested beyond =
    let closed : is_closed ring ≡ true = closed_by (nat_lt (length ring) 4) (is_closed ring) (nat_lt 4096 (length ring)) kept.is_ring in
    let within_where_inside : inside ring point ≡ true → is_within_bounds bounds place ≡ true =
    λ is_inside. rw (at, kept.exact) (inside_is_within_bounds ring point closed is_inside) in
    beyond ∙ sym (false_from_ne_true (inside ring point) (λ is_inside. false≢true (sym beyond ∙ tested ∙ within_where_inside is_inside)))
