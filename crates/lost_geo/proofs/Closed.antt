-- A closed list of positions by its first and its last place.
use Rattle.std.proofs.Common.{◌≡◌, refl, sym, ◌∙◌, ap, ℕ, ◌-◌, ◌<◌, true, List, [], ◌∷◌, ◌++◌, map, length, get_or, ℤ, arith, IsTrue}
use Rattle.std.specs.Ordering.{int_eq}
use Rattle.std.proofs.lemmas.Bool.{and_from, and_parts}
use Rattle.std.proofs.lemmas.Bool.Decides.{Decides-int_eq}
use Rattle.std.proofs.lemmas.Cmp.{int_eq_equiv}
use Rattle.lost_spec.specs.Place.{point_of}
use Rattle.lost_spec.specs.Ring.{Point, same_point, last_after, is_closed}

-- the last position, by its place
pub get_or-last : (p : Point) (rest : List Point) (d : Point) → get_or (p ∷ rest) (length rest) d ≡ last_after p rest
get_or-last p [] d = refl
get_or-last p (q ∷ rest) d = get_or-last q rest d

-- `first` and `last` stand at the two ends
pub is_closed-ends : (ring : List Point) (first last : Point) → 0 < length ring →
    first ≡ get_or ring 0 first → last ≡ get_or ring (length ring - 1) last → same_point first last ≡ is_closed ring
is_closed-ends [] first last some at_first at_last = absurd (omega arith)
is_closed-ends (p ∷ rest) first last some at_first at_last =
    let place : length (p ∷ rest) - 1 ≡ length rest = omega arith in
    let e : last ≡ last_after p rest = at_last ∙ ap (λ (k : ℕ). get_or (p ∷ rest) k last) place ∙ get_or-last p rest last in
    rw at_first (ap (same_point p) e)

-- ---- latitudes and longitudes

last_of_items : {Item : Type 0} (position_of : Item → ℤ × ℤ) (item : Item) (rest : List Item) (d : Item) → point_of (position_of (get_or (item ∷ rest) (length rest) d)) ≡ last_after (point_of (position_of item)) (map point_of (map position_of rest))
last_of_items position_of item [] d = refl
last_of_items position_of item (other ∷ rest) d = last_of_items position_of other rest d

-- what stands at the two ends of what the points are made of
pub is_closed-positions : {Item : Type 0} (position_of : Item → ℤ × ℤ) (items : List Item) (first last : Item) → 0 < length items →
    first ≡ get_or items 0 first → last ≡ get_or items (length items - 1) last → same_point (point_of (position_of first)) (point_of (position_of last)) ≡ is_closed (map point_of (map position_of items))
is_closed-positions position_of [] first last some at_first at_last = absurd (omega arith)
is_closed-positions position_of (item ∷ rest) first last some at_first at_last =
    let place : length (item ∷ rest) - 1 ≡ length rest = omega arith in
    let e : point_of (position_of last) ≡ last_after (point_of (position_of item)) (map point_of (map position_of rest)) = ap (λ i. point_of (position_of i)) (at_last ∙ ap (λ (k : ℕ). get_or (item ∷ rest) k last) place) ∙ last_of_items position_of item rest last in
    rw at_first (ap (same_point (point_of (position_of item))) e)

-- ---- joined lists

pub last_after-append : (p : Point) (front : List Point) (q : Point) (back : List Point) → last_after p (front ++ q ∷ back) ≡ last_after q back
last_after-append p [] q back = refl
last_after-append p (r ∷ front) q back = last_after-append r front q back

pub same_point-refl : (p : Point) → same_point p p ≡ true
same_point-refl p = and_from (int_eq p.lat p.lat) (int_eq p.lon p.lon) (int_eq_equiv.refl p.lat) (int_eq_equiv.refl p.lon)

-- a closed list ends at the latitude at which it begins
pub lat-last_after : (p : Point) (rest : List Point) → IsTrue (is_closed (p ∷ rest)) → (last_after p rest).lat ≡ p.lat
lat-last_after p rest closed =
    let both = and_parts (int_eq p.lat (last_after p rest).lat) (int_eq p.lon (last_after p rest).lon) closed in
    sym ((Decides-int_eq p.lat (last_after p rest).lat).0 both.0)
