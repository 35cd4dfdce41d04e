-- Laws of crossings and of the inside of a ring (own).
use Rattle.std.specs.Prelude.{◌≡◌, Bool, false, not, ◌&&◌, ◌||◌, List, [], ◌∷◌, ◌++◌, length, reverse, filter, IsTrue}
use Rattle.lost_spec.specs.Ring.{Point, is_closed, edges, spans, crosses, is_odd, inside, normal}
use Rattle.lost_geo.specs.Bounds.{bounds_of, is_within_bounds}

-- an edge and its reverse cross at the same points
abbrev pub ReverseCrossesAlike : Type 0
ReverseCrossesAlike = (a b p : Point) → crosses (a, b) p ≡ crosses (b, a) p

-- in a closed ring an even number of edges spans the latitude of a point
abbrev pub SpannedEvenly : Type 0
SpannedEvenly =
    (ring : List Point) (p : Point) → IsTrue (is_closed ring) → is_odd (length (filter (λ e. spans e p) (edges ring))) ≡ false

-- where a point is inside a closed ring, its normal form is within the bounds of the ring
abbrev pub InsideIsWithinBounds : Type 0
InsideIsWithinBounds =
    (ring : List Point) (p : Point) → IsTrue (is_closed ring) → IsTrue (inside ring p) → IsTrue (is_within_bounds (bounds_of ring) (normal p))

-- ---- cuts

-- a cut of a ring: the ring goes from `start` over `middle` to `end`, and the chain goes another way between these two
pub record Cut : Type 0 where
  pub front : List Point
  pub start : Point
  pub middle : List Point
  pub end : Point
  pub back : List Point
  pub chain : List Point

-- the ring before the cut
abbrev pub whole : Cut → List Point
whole c = c.front ++ c.start ∷ c.middle ++ c.end ∷ c.back

-- the part that takes the chain in place of the way over `middle`
abbrev pub outer_part : Cut → List Point
outer_part c = c.front ++ c.start ∷ c.chain ++ c.end ∷ c.back

-- the part between that way and the chain
abbrev pub inner_part : Cut → List Point
inner_part c = c.start ∷ c.middle ++ c.end ∷ reverse c.chain ++ c.start ∷ []

-- one of the two, and not both
abbrev pub is_just_one : Bool → Bool → Bool
is_just_one a b = (a || b) && not (a && b)

-- both parts of a ring are closed: the outer one begins and ends as the ring does
pub record PartsAreClosed (c : Cut) : Type 0 where
  pub outer : is_closed (outer_part c) ≡ is_closed (whole c)
  pub inner : IsTrue (is_closed (inner_part c))

abbrev pub CutsAreRings : Type 0
CutsAreRings = (c : Cut) → PartsAreClosed c

-- a point is inside the whole exactly where it is inside one of the two parts and not both
abbrev pub CutsShareTheInside : Type 0
CutsShareTheInside =
    (c : Cut) (p : Point) → inside (whole c) p ≡ is_just_one (inside (outer_part c) p) (inside (inner_part c) p)
