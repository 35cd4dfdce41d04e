-- A vertex on an edge cuts it into two parts, of which just one crosses where the edge does.
use Rattle.std.specs.Prelude.{◌≡◌, ℕ, ◌+◌, ◌<◌, ◌≤◌, Bool, true, false, ◌&&◌, cond, ℤ, pos, negsuc, neg_ℤ, ◌-ℤ◌, ◌*ℤ◌, ◌<ℤ◌, ◌≤ℤ◌, int_lt, int_le, ◌⊎◌}
use Rattle.std.proofs.Common.{refl, sym, ap, ◌∙◌, arith, inl, inr}
use Rattle.std.proofs.Math.IntN.{zero-*ℤ}
use Rattle.std.proofs.lemmas.Int.{ints}
use Rattle.lost_spec.specs.Ring.{Point, crosses}
use Rattle.lost_spec.specs.RingLaws.{just_one, VertexOnAnEdgeChangesNothing}
use Rattle.lost_spec.proofs.ProductLemmas.{mul-neg, mul-add, sub-mul, mul-swap, int_lt-mul, int_lt-add}

-- ---- the side of a place, seen from one part of the edge and from the whole
-- x, e and m: how far east of the low end the place, the high end and the vertex are; d, a and c: how far north of the low end the
-- high end and the vertex are, and the high end of the vertex; k and j: how far north of the low end and of the vertex the place is

left_of_lower : (x e m : ℤ) (d a k : ℕ) → 0 < a → a ≤ d → m *ℤ pos d ≡ e *ℤ pos a →
    int_lt (x *ℤ pos a) (m *ℤ pos k) ≡ int_lt (x *ℤ pos d) (e *ℤ pos k)
left_of_lower x e m d a k some fits line =
    let wider = int_lt-mul (x *ℤ pos a) (m *ℤ pos k) d (omega arith) in
    let narrower = int_lt-mul (x *ℤ pos d) (e *ℤ pos k) a some in
    let left = mul-swap x a d in
    let right : (m *ℤ pos k) *ℤ pos d ≡ (e *ℤ pos k) *ℤ pos a = mul-swap m k d ∙ ap (λ z. z *ℤ pos k) line ∙ mul-swap e a k in
    sym wider ∙ ap (λ z. int_lt z ((m *ℤ pos k) *ℤ pos d)) left ∙ ap (int_lt ((x *ℤ pos d) *ℤ pos a)) right ∙ narrower

left_of_upper : (x e m y f : ℤ) (d a c k j : ℕ) → 0 < c → d ≡ a + c → k ≡ a + j → y ≡ x -ℤ m → f ≡ e -ℤ m → m *ℤ pos d ≡ e *ℤ pos a →
    int_lt (y *ℤ pos c) (f *ℤ pos j) ≡ int_lt (x *ℤ pos d) (e *ℤ pos k)
left_of_upper x e m y f d a c k j some whole high east wide line =
    let wider = int_lt-mul (y *ℤ pos c) (f *ℤ pos j) d (omega arith) in
    let narrower = int_lt-mul (y *ℤ pos d) (e *ℤ pos j) c some in
    let left = mul-swap y c d in
    let far = mul-add e a c d whole in
    let rise : f *ℤ pos d ≡ e *ℤ pos c = sub-mul e m f d wide ∙ omega (arith, ints) in
    let right : (f *ℤ pos j) *ℤ pos d ≡ (e *ℤ pos j) *ℤ pos c = mul-swap f j d ∙ ap (λ z. z *ℤ pos j) rise ∙ mul-swap e c j in
    let across = sub-mul x m y d east in
    let up = mul-add e a j k high in
    let moved = int_lt-add (x *ℤ pos d) (e *ℤ pos k) (y *ℤ pos d) (e *ℤ pos j) (e *ℤ pos a) (omega (arith, ints)) (omega (arith, ints)) in
    sym wider ∙ ap (λ z. int_lt z ((f *ℤ pos j) *ℤ pos d)) left ∙ ap (int_lt ((y *ℤ pos d) *ℤ pos c)) right ∙ narrower ∙ moved

-- a number that is not negative is a natural one
natural : (z : ℤ) → pos 0 ≤ℤ z → (n : ℕ) × (z ≡ pos n)
natural (pos n) h = (n, refl)
natural (negsuc n) h = absurd (omega (arith, ints))

-- differences of integers that are natural numbers
above_zero : (x y : ℤ) (n : ℕ) → y -ℤ x ≡ pos n → x <ℤ y → 0 < n
above_zero x y n e h = omega (arith, ints)

no_more : (x y z : ℤ) (n d : ℕ) → y -ℤ x ≡ pos n → z -ℤ x ≡ pos d → y ≤ℤ z → n ≤ d
no_more x y z n d e f h = omega (arith, ints)

sum_of : (x y z : ℤ) (n c d : ℕ) → y -ℤ x ≡ pos n → z -ℤ y ≡ pos c → z -ℤ x ≡ pos d → d ≡ n + c
sum_of x y z n c d e f g = omega (arith, ints)

-- a place is to the left of the line from lo up to hi
abbrev is_left_of : Point → Point → Point → Bool
is_left_of lo hi p = int_lt ((p.lon -ℤ lo.lon) *ℤ (hi.lat -ℤ lo.lat)) ((hi.lon -ℤ lo.lon) *ℤ (p.lat -ℤ lo.lat))

module _ (a b m p : Point) (line : (m.lon -ℤ a.lon) *ℤ (b.lat -ℤ a.lat) ≡ (b.lon -ℤ a.lon) *ℤ (m.lat -ℤ a.lat)) where
  -- the same, where those differences of latitudes are natural numbers
  lower_of : (d n k : ℕ) → b.lat -ℤ a.lat ≡ pos d → m.lat -ℤ a.lat ≡ pos n → p.lat -ℤ a.lat ≡ pos k → 0 < n → n ≤ d → is_left_of a b p ≡ is_left_of a m p
  lower_of d n k whole part place some fits =
      let on_line : (m.lon -ℤ a.lon) *ℤ pos d ≡ (b.lon -ℤ a.lon) *ℤ pos n = rw (whole, part) at line in
      rw (whole, part, place) (sym (left_of_lower (p.lon -ℤ a.lon) (b.lon -ℤ a.lon) (m.lon -ℤ a.lon) d n k some fits on_line))

  upper_of : (d n c k j : ℕ) → b.lat -ℤ a.lat ≡ pos d → m.lat -ℤ a.lat ≡ pos n → b.lat -ℤ m.lat ≡ pos c → p.lat -ℤ a.lat ≡ pos k → p.lat -ℤ m.lat ≡ pos j →
      0 < c → d ≡ n + c → k ≡ n + j → is_left_of a b p ≡ is_left_of m b p
  upper_of d n c k j whole part rest place higher some sum high =
      let on_line : (m.lon -ℤ a.lon) *ℤ pos d ≡ (b.lon -ℤ a.lon) *ℤ pos n = rw (whole, part) at line in
      let east : p.lon -ℤ m.lon ≡ (p.lon -ℤ a.lon) -ℤ (m.lon -ℤ a.lon) = omega (arith, ints) in
      let wide : b.lon -ℤ m.lon ≡ (b.lon -ℤ a.lon) -ℤ (m.lon -ℤ a.lon) = omega (arith, ints) in
      rw (whole, rest, place, higher)
      (sym (left_of_upper (p.lon -ℤ a.lon) (b.lon -ℤ a.lon) (m.lon -ℤ a.lon) (p.lon -ℤ m.lon) (b.lon -ℤ m.lon) d n c k j some sum high east wide on_line))

  lower_side : a.lat <ℤ m.lat → m.lat ≤ℤ b.lat → a.lat ≤ℤ p.lat → is_left_of a b p ≡ is_left_of a m p
  lower_side rises below from =
      let d = natural (b.lat -ℤ a.lat) (omega (arith, ints)) in
      let n = natural (m.lat -ℤ a.lat) (omega (arith, ints)) in
      let k = natural (p.lat -ℤ a.lat) (omega (arith, ints)) in
      lower_of d.0 n.0 k.0 d.1 n.1 k.1 (above_zero a.lat m.lat n.0 n.1 rises) (no_more a.lat m.lat b.lat n.0 d.0 n.1 d.1 below)

  upper_side : a.lat ≤ℤ m.lat → m.lat <ℤ b.lat → m.lat ≤ℤ p.lat → is_left_of a b p ≡ is_left_of m b p
  upper_side rises below from =
      let d = natural (b.lat -ℤ a.lat) (omega (arith, ints)) in
      let n = natural (m.lat -ℤ a.lat) (omega (arith, ints)) in
      let c = natural (b.lat -ℤ m.lat) (omega (arith, ints)) in
      let k = natural (p.lat -ℤ a.lat) (omega (arith, ints)) in
      let j = natural (p.lat -ℤ m.lat) (omega (arith, ints)) in
      upper_of d.0 n.0 c.0 k.0 j.0 d.1 n.1 c.1 k.1 j.1 (above_zero m.lat b.lat c.0 c.1 below)
      (sum_of a.lat m.lat b.lat n.0 c.0 d.0 n.1 c.1 d.1) (sum_of a.lat m.lat p.lat n.0 j.0 k.0 n.1 j.1 k.1)

-- ---- crossing

-- when an edge that does not fall crosses
crosses_rising : (a b p : Point) → int_le a.lat b.lat ≡ true → crosses (a, b) p ≡ ((int_le a.lat p.lat && int_lt p.lat b.lat) && is_left_of a b p)
crosses_rising a b p rises =
    ap (λ t. (int_le (cond t a b).lat p.lat && int_lt p.lat (cond t b a).lat) && is_left_of (cond t a b) (cond t b a) p) rises

-- where one part spans nothing, and the other spans what the whole does and has it on the same side
by_second : (s s1 s2 l l1 l2 : Bool) → s1 ≡ false → s ≡ s2 → (s2 ≡ true → l ≡ l2) → (s && l) ≡ just_one (s1 && l1) (s2 && l2)
by_second s true s2 l l1 l2 none same side = absurd (cc)
by_second true false s2 l l1 l2 none same side = rw (sym same) (side (sym same))
by_second false false s2 l l1 l2 none same side = rw (sym same) refl

by_first : (s s1 s2 l l1 l2 : Bool) → s2 ≡ false → s ≡ s1 → (s1 ≡ true → l ≡ l1) → (s && l) ≡ just_one (s1 && l1) (s2 && l2)
by_first s s1 true l l1 l2 none same side = absurd (cc)
by_first s true false l true l2 none same side = rw (same, side refl) refl
by_first s true false l false l2 none same side = rw (same, side refl) refl
by_first s false false l l1 l2 none same side = rw same refl

-- a vertex of an edge that does not fall
rising : (a b m p : Point) → a.lat ≤ℤ m.lat → m.lat ≤ℤ b.lat → (m.lon -ℤ a.lon) *ℤ (b.lat -ℤ a.lat) ≡ (b.lon -ℤ a.lon) *ℤ (m.lat -ℤ a.lat) →
    crosses (a, b) p ≡ just_one (crosses (a, m) p) (crosses (m, b) p)
rising a b m p below above line =
    let up : int_le a.lat b.lat ≡ true = grind (arith, ints) in
    let up_to : int_le a.lat m.lat ≡ true = grind (arith, ints) in
    let up_from : int_le m.lat b.lat ≡ true = grind (arith, ints) in
    crosses_rising a b p up ∙ by (int_le m.lat p.lat) refl
    ∙ sym (ap (λ t. just_one t (crosses (m, b) p)) (crosses_rising a m p up_to) ∙ ap (just_one ((int_le a.lat p.lat && int_lt p.lat m.lat) && is_left_of a m p)) (crosses_rising m b p up_from))
  where
    by : (t : Bool) → int_le m.lat p.lat ≡ t →
        ((int_le a.lat p.lat && int_lt p.lat b.lat) && is_left_of a b p)
        ≡ just_one ((int_le a.lat p.lat && int_lt p.lat m.lat) && is_left_of a m p) ((int_le m.lat p.lat && int_lt p.lat b.lat) && is_left_of m b p)
    by true e =
        let from : m.lat ≤ℤ p.lat = grind (arith, ints) in
        by_second (int_le a.lat p.lat && int_lt p.lat b.lat) (int_le a.lat p.lat && int_lt p.lat m.lat) (int_le m.lat p.lat && int_lt p.lat b.lat)
        (is_left_of a b p) (is_left_of a m p) (is_left_of m b p)
        (grind (arith, ints)) (grind (arith, ints))
        (λ h. let higher : m.lat <ℤ b.lat = grind (arith, ints) in upper_side a b m p line below higher from)
    by false e =
        let before : p.lat <ℤ m.lat = grind (arith, ints) in
        by_first (int_le a.lat p.lat && int_lt p.lat b.lat) (int_le a.lat p.lat && int_lt p.lat m.lat) (int_le m.lat p.lat && int_lt p.lat b.lat)
        (is_left_of a b p) (is_left_of a m p) (is_left_of m b p)
        (grind (arith, ints)) (grind (arith, ints))
        (λ h.
        let from : a.lat ≤ℤ p.lat = grind (arith, ints) in
        let rises : a.lat <ℤ m.lat = omega (arith, ints) in
        lower_side a b m p line rises above from)

-- ---- edges turned round

turned : (a b p : Point) → crosses (a, b) p ≡ crosses (b, a) p
turned a b p = grind (arith, ints)

just_one_comm : (s t : Bool) → just_one s t ≡ just_one t s
just_one_comm true true = refl
just_one_comm true false = refl
just_one_comm false true = refl
just_one_comm false false = refl

-- a line that falls, seen from its other end
line_turned : (e m f n : ℤ) (d c k : ℕ) → d ≡ c + k → f ≡ neg_ℤ e → n ≡ m -ℤ e → m *ℤ neg_ℤ (pos d) ≡ e *ℤ neg_ℤ (pos c) → n *ℤ pos d ≡ f *ℤ pos k
line_turned e m f n d c k whole back from line =
    let first = mul-neg m d in
    let second = mul-neg e c in
    let difference = sub-mul m e n d from in
    let sum = mul-add e c k d whole in
    let zero_less : f ≡ pos 0 -ℤ e = omega (arith, ints) in
    let other = sub-mul (pos 0) e f k zero_less in
    let none : pos 0 *ℤ pos k ≡ pos 0 = zero-*ℤ (pos k) in
    omega (arith, ints)

falling_of : (a b m : Point) (d c k : ℕ) → a.lat -ℤ b.lat ≡ pos d → a.lat -ℤ m.lat ≡ pos c → m.lat -ℤ b.lat ≡ pos k → d ≡ k + c →
    (m.lon -ℤ a.lon) *ℤ (b.lat -ℤ a.lat) ≡ (b.lon -ℤ a.lon) *ℤ (m.lat -ℤ a.lat) →
    (m.lon -ℤ b.lon) *ℤ (a.lat -ℤ b.lat) ≡ (a.lon -ℤ b.lon) *ℤ (m.lat -ℤ b.lat)
falling_of a b m d c k whole part rest sum line =
    let down : b.lat -ℤ a.lat ≡ neg_ℤ (pos d) = omega (arith, ints) in
    let down_to : m.lat -ℤ a.lat ≡ neg_ℤ (pos c) = omega (arith, ints) in
    let on_line : (m.lon -ℤ a.lon) *ℤ neg_ℤ (pos d) ≡ (b.lon -ℤ a.lon) *ℤ neg_ℤ (pos c) = rw (down, down_to) at line in
    let back : a.lon -ℤ b.lon ≡ neg_ℤ (b.lon -ℤ a.lon) = omega (arith, ints) in
    let from : m.lon -ℤ b.lon ≡ (m.lon -ℤ a.lon) -ℤ (b.lon -ℤ a.lon) = omega (arith, ints) in
    rw (whole, rest)
    (line_turned (b.lon -ℤ a.lon) (m.lon -ℤ a.lon) (a.lon -ℤ b.lon) (m.lon -ℤ b.lon) d c k (omega arith) back from on_line)

falling : (a b m : Point) → b.lat ≤ℤ m.lat → m.lat ≤ℤ a.lat → (m.lon -ℤ a.lon) *ℤ (b.lat -ℤ a.lat) ≡ (b.lon -ℤ a.lon) *ℤ (m.lat -ℤ a.lat) →
    (m.lon -ℤ b.lon) *ℤ (a.lat -ℤ b.lat) ≡ (a.lon -ℤ b.lon) *ℤ (m.lat -ℤ b.lat)
falling a b m below above line =
    let d = natural (a.lat -ℤ b.lat) (omega (arith, ints)) in
    let c = natural (a.lat -ℤ m.lat) (omega (arith, ints)) in
    let k = natural (m.lat -ℤ b.lat) (omega (arith, ints)) in
    falling_of a b m d.0 c.0 k.0 d.1 c.1 k.1 (sum_of b.lat m.lat a.lat k.0 c.0 d.0 k.1 c.1 d.1) line

-- the law `VertexOnAnEdgeChangesNothing`
pub vertex_on_an_edge_changes_nothing_lem : VertexOnAnEdgeChangesNothing
vertex_on_an_edge_changes_nothing_lem a b m p on = by on.between
  where
    by : ((a.lat ≤ℤ m.lat) × (m.lat ≤ℤ b.lat)) ⊎ ((b.lat ≤ℤ m.lat) × (m.lat ≤ℤ a.lat)) → crosses (a, b) p ≡ just_one (crosses (a, m) p) (crosses (m, b) p)
    by (inl up) = rising a b m p up.0 up.1 on.on_line
    by (inr down) =
        turned a b p ∙ rising b a m p down.0 down.1 (falling a b m down.0 down.1 on.on_line)
        ∙ just_one_comm (crosses (b, m) p) (crosses (m, a) p)
        ∙ ap (λ t. just_one t (crosses (b, m) p)) (turned m a p) ∙ ap (just_one (crosses (a, m) p)) (turned b m p)
