-- Edges that span a latitude: a closed ring has an even number of them.
use Rattle.std.proofs.Common.{◌≡◌, refl, sym, ◌∙◌, ap, ℕ, ◌-◌, ◌<◌, Bool, true, false, ◌&&◌, cond, List, [], ◌∷◌, length, get_or, ℤ, int_le, int_lt, arith}
use Rattle.std.proofs.lemmas.Int.{ints}
use Rattle.lost_spec.specs.Ring.{Point, edges, spans, last_after}
use Rattle.lost_geo.specs.Laws.{is_just_one, SpannedEvenly}
use Rattle.lost_geo.proofs.Closed.{get_or-last, lat-last_after}
use Rattle.lost_geo.proofs.Parity.{odd_count, odd_count-cons, just_one_assoc, just_one_of_false}

-- from low up to before high: at or above just one of the two
between : (low high z : ℤ) → int_le low high ≡ true → (int_le low z && int_lt z high) ≡ is_just_one (int_le low z) (int_le high z)
between low high z order = grind (arith, ints)

between_down : (low high z : ℤ) → int_le high low ≡ false → (int_le low z && int_lt z high) ≡ is_just_one (int_le high z) (int_le low z)
between_down low high z order = grind (arith, ints)

spans_by : (up : Bool) (a b p : Point) → int_le a.lat b.lat ≡ up →
    (int_le (cond up a b).lat p.lat && int_lt p.lat (cond up b a).lat) ≡ is_just_one (int_le a.lat p.lat) (int_le b.lat p.lat)
spans_by true a b p order = between a.lat b.lat p.lat order
spans_by false a b p order = between_down b.lat a.lat p.lat order

pub spans-is : (a b p : Point) → spans (a, b) p ≡ is_just_one (int_le a.lat p.lat) (int_le b.lat p.lat)
spans-is a b p = spans_by (int_le a.lat b.lat) a b p refl

just_one_same : (a : Bool) → false ≡ is_just_one a a
just_one_same true = refl
just_one_same false = refl

just_one_joined : (a b c : Bool) → is_just_one (is_just_one a b) (is_just_one b c) ≡ is_just_one a c
just_one_joined a b c =
    just_one_assoc a b (is_just_one b c)
    ∙ ap (is_just_one a) (sym (just_one_assoc b b c) ∙ ap (λ (x : Bool). is_just_one x c) (sym (just_one_same b)) ∙ just_one_of_false c)

-- the number is odd just where the latitude is between those of the two ends of the list
spanned : (a : Point) (rest : List Point) (p : Point) →
    odd_count (λ e. spans e p) (edges (a ∷ rest)) ≡ is_just_one (int_le a.lat p.lat) (int_le (last_after a rest).lat p.lat)
spanned a [] p = just_one_same (int_le a.lat p.lat)
spanned a (b ∷ rest) p =
    odd_count-cons (λ e. spans e p) (a, b) (edges (b ∷ rest))
    ∙ ap (λ (odd : Bool). is_just_one odd (odd_count (λ e. spans e p) (edges (b ∷ rest)))) (spans-is a b p)
    ∙ ap (is_just_one (is_just_one (int_le a.lat p.lat) (int_le b.lat p.lat))) (spanned b rest p)
    ∙ just_one_joined (int_le a.lat p.lat) (int_le b.lat p.lat) (int_le (last_after b rest).lat p.lat)

pub spanned_evenly : SpannedEvenly
spanned_evenly [] p closed = refl
spanned_evenly (a ∷ rest) p closed =
    spanned a rest p
    ∙ ap (λ (z : ℤ). is_just_one (int_le a.lat p.lat) (int_le z p.lat)) (lat-last_after a rest closed)
    ∙ sym (just_one_same (int_le a.lat p.lat))

-- the same, of the positions that stand at the two ends
pub spanned-ends : (ring : List Point) (first last p : Point) → 0 < length ring →
    first ≡ get_or ring 0 first → last ≡ get_or ring (length ring - 1) last →
    is_just_one (int_le first.lat p.lat) (int_le last.lat p.lat) ≡ odd_count (λ e. spans e p) (edges ring)
spanned-ends [] first last p some at_first at_last = absurd (omega arith)
spanned-ends (a ∷ rest) first last p some at_first at_last =
    let place : length (a ∷ rest) - 1 ≡ length rest = omega arith in
    let is_last : last ≡ last_after a rest = at_last ∙ ap (λ (k : ℕ). get_or (a ∷ rest) k last) place ∙ get_or-last a rest last in
    ap (λ (q : Point). is_just_one (int_le q.lat p.lat) (int_le last.lat p.lat)) at_first
    ∙ ap (λ (q : Point). is_just_one (int_le a.lat p.lat) (int_le q.lat p.lat)) is_last
    ∙ sym (spanned a rest p)
