-- A ring's crossings from piece to piece, and what a cut makes of them.
use Rattle.std.proofs.Common.{◌≡◌, refl, sym, ◌∙◌, ap, Bool, true, false, List, [], ◌∷◌, ◌++◌, reverse, append_assoc}
use Rattle.std.proofs.lemmas.List.{reverse-append}
use Rattle.lost_spec.specs.Ring.{Point, Edge, edges, crosses, same_point, is_closed, normal}
use Rattle.lost_geo.specs.Laws.{ReverseCrossesAlike, Cut, whole, outer_part, inner_part, is_just_one, CutsAreRings, CutsShareTheInside}
use Rattle.lost_geo.proofs.Closed.{last_after-append, same_point-refl}
use Rattle.lost_geo.proofs.Parity.{odd_count, odd_count-append, odd_count-cons, just_one_with_false}

-- whether an odd number of the edges of a list of positions crosses at p
abbrev pub odd_along : List Point → Point → Bool
odd_along ring p = odd_count (λ e. crosses e p) (edges ring)

just_one_comm : (a b : Bool) → is_just_one a b ≡ is_just_one b a
just_one_comm true true = refl
just_one_comm true false = refl
just_one_comm false true = refl
just_one_comm false false = refl

-- ---- pieces

edges-append : (front : List Point) (a : Point) (back : List Point) → edges (front ++ a ∷ back) ≡ edges (front ++ a ∷ []) ++ edges (a ∷ back)
edges-append [] a back = refl
edges-append (p ∷ []) a back = refl
edges-append (p ∷ q ∷ front) a back = ap (λ (es : List Edge). (p, q) ∷ es) (edges-append (q ∷ front) a back)

-- at a position, a list falls into the part up to it and the part from it on
odd_along-at : (front : List Point) (a : Point) (back : List Point) (p : Point) →
    odd_along (front ++ a ∷ back) p ≡ is_just_one (odd_along (front ++ a ∷ []) p) (odd_along (a ∷ back) p)
odd_along-at front a back p =
    ap (odd_count (λ e. crosses e p)) (edges-append front a back)
    ∙ odd_count-append (λ e. crosses e p) (edges (front ++ a ∷ [])) (edges (a ∷ back))

-- at two positions, into three parts
odd_along-between : (front : List Point) (a : Point) (middle : List Point) (b : Point) (back : List Point) (p : Point) →
    odd_along (front ++ a ∷ middle ++ b ∷ back) p
    ≡ is_just_one (is_just_one (odd_along (front ++ a ∷ []) p) (odd_along (a ∷ middle ++ b ∷ []) p)) (odd_along (b ∷ back) p)
odd_along-between front a middle b back p =
    odd_along-at (front ++ a ∷ middle) b back p
    ∙ ap (λ (odd : Bool). is_just_one odd (odd_along (b ∷ back) p))
    (ap (λ (ring : List Point). odd_along ring p) (append_assoc front (a ∷ middle) (b ∷ []))
    ∙ odd_along-at front a (middle ++ b ∷ []) p)

-- ---- the way back

reverse-cons : (p : Point) (rest : List Point) → reverse (p ∷ rest) ≡ reverse rest ++ p ∷ []
reverse-cons p rest = reverse-append (p ∷ []) rest

one_edge : (a b p : Point) → odd_along (a ∷ b ∷ []) p ≡ crosses (a, b) p
one_edge a b p = odd_count-cons (λ e. crosses e p) (a, b) [] ∙ just_one_with_false (crosses (a, b) p)

-- a list and its reverse meet the same number of crossings
odd_along-reverse : (alike : ReverseCrossesAlike) (ring : List Point) (p : Point) → odd_along (reverse ring) p ≡ odd_along ring p
odd_along-reverse alike [] p = refl
odd_along-reverse alike (a ∷ []) p = refl
odd_along-reverse alike (a ∷ b ∷ rest) p =
    let turned : reverse (a ∷ b ∷ rest) ≡ reverse rest ++ b ∷ a ∷ [] =
    reverse-cons a (b ∷ rest) ∙ ap (λ (ring : List Point). ring ++ a ∷ []) (reverse-cons b rest)
    ∙ append_assoc (reverse rest) (b ∷ []) (a ∷ []) in
    let before : odd_along (reverse rest ++ b ∷ []) p ≡ odd_along (b ∷ rest) p =
    ap (λ (ring : List Point). odd_along ring p) (sym (reverse-cons b rest)) ∙ odd_along-reverse alike (b ∷ rest) p in
    let edge : odd_along (b ∷ a ∷ []) p ≡ crosses (a, b) p = one_edge b a p ∙ alike b a p in
    ap (λ (ring : List Point). odd_along ring p) turned
    ∙ odd_along-at (reverse rest) b (a ∷ []) p
    ∙ ap (λ (odd : Bool). is_just_one odd (odd_along (b ∷ a ∷ []) p)) before
    ∙ ap (is_just_one (odd_along (b ∷ rest) p)) edge
    ∙ just_one_comm (odd_along (b ∷ rest) p) (crosses (a, b) p)
    ∙ sym (odd_count-cons (λ e. crosses e p) (a, b) (edges (b ∷ rest)))

-- ---- a cut

-- the chain counts in both parts, and so not at all
shared : (front middle back chain : Bool) →
    is_just_one (is_just_one front middle) back
    ≡ is_just_one (is_just_one (is_just_one front chain) back) (is_just_one middle chain)
shared true true true true = refl
shared true true true false = refl
shared true true false true = refl
shared true true false false = refl
shared true false true true = refl
shared true false true false = refl
shared true false false true = refl
shared true false false false = refl
shared false true true true = refl
shared false true true false = refl
shared false true false true = refl
shared false true false false = refl
shared false false true true = refl
shared false false true false = refl
shared false false false true = refl
shared false false false false = refl

turned_chain : (a : Point) (chain : List Point) (b : Point) → reverse (a ∷ chain ++ b ∷ []) ≡ b ∷ reverse chain ++ a ∷ []
turned_chain a chain b =
    reverse-cons a (chain ++ b ∷ []) ∙ ap (λ (ring : List Point). ring ++ a ∷ []) (reverse-append chain (b ∷ []))

odd_along-inner : (alike : ReverseCrossesAlike) (c : Cut) (p : Point) →
    odd_along (inner_part c) p
    ≡ is_just_one (odd_along (c.start ∷ c.middle ++ c.end ∷ []) p) (odd_along (c.start ∷ c.chain ++ c.end ∷ []) p)
odd_along-inner alike c p =
    ap (λ (ring : List Point). odd_along ring p) (append_assoc (c.start ∷ c.middle) (c.end ∷ reverse c.chain) (c.start ∷ []))
    ∙ odd_along-at (c.start ∷ c.middle) c.end (reverse c.chain ++ c.start ∷ []) p
    ∙ ap (is_just_one (odd_along (c.start ∷ c.middle ++ c.end ∷ []) p))
    (ap (λ (ring : List Point). odd_along ring p) (sym (turned_chain c.start c.chain c.end))
    ∙ odd_along-reverse alike (c.start ∷ c.chain ++ c.end ∷ []) p)

odd_along-cut : (alike : ReverseCrossesAlike) (c : Cut) (p : Point) →
    odd_along (whole c) p ≡ is_just_one (odd_along (outer_part c) p) (odd_along (inner_part c) p)
odd_along-cut alike c p =
    let front = odd_along (c.front ++ c.start ∷ []) p in
    let middle = odd_along (c.start ∷ c.middle ++ c.end ∷ []) p in
    let chain = odd_along (c.start ∷ c.chain ++ c.end ∷ []) p in
    let back = odd_along (c.end ∷ c.back) p in
    let outer : odd_along (outer_part c) p ≡ is_just_one (is_just_one front chain) back =
    odd_along-between c.front c.start c.chain c.end c.back p in
    let inner : odd_along (inner_part c) p ≡ is_just_one middle chain = odd_along-inner alike c p in
    odd_along-between c.front c.start c.middle c.end c.back p
    ∙ shared front middle back chain
    ∙ sym (ap (λ (odd : Bool). is_just_one odd (odd_along (inner_part c) p)) outer
    ∙ ap (is_just_one (is_just_one (is_just_one front chain) back)) inner)

pub cuts_share_the_inside : ReverseCrossesAlike → CutsShareTheInside
cuts_share_the_inside alike c p = odd_along-cut alike c (normal p)

-- ---- closed parts

outer_closed : (front : List Point) (a : Point) (chain : List Point) (middle : List Point) (b : Point) (back : List Point) →
    is_closed (front ++ a ∷ chain ++ b ∷ back) ≡ is_closed (front ++ a ∷ middle ++ b ∷ back)
outer_closed [] a chain middle b back =
    ap (same_point a) (last_after-append a chain b back ∙ sym (last_after-append a middle b back))
outer_closed (p ∷ front) a chain middle b back =
    ap (same_point p) (last_after-append p (front ++ a ∷ chain) b back ∙ sym (last_after-append p (front ++ a ∷ middle) b back))

pub cuts_are_rings : CutsAreRings
cuts_are_rings c = record {
  outer = outer_closed c.front c.start c.chain c.middle c.end c.back;
  inner =
      ap (same_point c.start) (last_after-append c.start (c.middle ++ c.end ∷ reverse c.chain) c.start [])
      ∙ same_point-refl c.start;
}
