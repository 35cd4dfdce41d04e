-- A walk over a ring's edges that keeps whether it has met an odd number of crossings.
use Rattle.std.proofs.Common.{◌≡◌, refl, sym, ◌∙◌, ap, ℕ, ◌+◌, suc, ◌<◌, ◌≤◌, Bool, true, false, not, List, ◌∷◌, length, drop, get_or}
use Rattle.std.proofs.Math.Bool.{beq}
use Rattle.std.proofs.Math.Numerals.{add-one}
use Rattle.std.proofs.Math.Seq.{drop-cons}
use Rattle.std.proofs.lemmas.List.{drop_all}
use Rattle.lost_spec.specs.Ring.{Point, edges, crosses, crossings, is_odd}
use Rattle.lost_geo.specs.Laws.{is_just_one}
use Rattle.lost_geo.proofs.Parity.{odd_count-cons, just_one_assoc, just_one_with_false}

-- whether an odd number of the edges of a list of positions crosses at p
abbrev pub odd_from : Point → List Point → Point → Bool
odd_from from rest p = is_odd (crossings (edges (from ∷ rest)) p)

pub just_one-beq : (a b : Bool) → not (beq a b) ≡ is_just_one a b
just_one-beq true true = refl
just_one-beq true false = refl
just_one-beq false true = refl
just_one-beq false false = refl

crossed : (odd : Bool) (from to : Point) (rest : List Point) (p : Point) →
    is_just_one (not (beq odd (crosses (from, to) p))) (odd_from to rest p) ≡ is_just_one odd (odd_from from (to ∷ rest) p)
crossed odd from to rest p =
    rw (just_one-beq odd (crosses (from, to) p), just_one_assoc odd (crosses (from, to) p) (odd_from to rest p))
    (ap (is_just_one odd) (sym (odd_count-cons (λ e. crosses e p) (from, to) (edges (to ∷ rest)))))

-- one edge further
pub walk_more : (odd crossing total : Bool) (from to : Point) (rest : List Point) (i : ℕ) (p : Point) →
    i < length rest → to ≡ get_or rest i to → crossing ≡ crosses (from, to) p →
    is_just_one odd (odd_from from (drop i rest) p) ≡ total →
    is_just_one (not (beq odd crossing)) (odd_from to (drop (i + 1) rest) p) ≡ total
walk_more odd crossing total from to rest i p below at was before =
    let first : drop i rest ≡ to ∷ drop (i + 1) rest =
    rw (add-one i, drop-cons rest i to) (ap (λ (q : Point). q ∷ drop (suc i) rest) (sym at)) in
    rw was (crossed odd from to (drop (i + 1) rest) p ∙ ap (λ (qs : List Point). is_just_one odd (odd_from from qs p)) (sym first) ∙ before)

-- the end of the walk
pub walk_all : (odd total : Bool) (from : Point) (rest : List Point) (i : ℕ) (p : Point) →
    length rest ≤ i → is_just_one odd (odd_from from (drop i rest) p) ≡ total → odd ≡ total
walk_all odd total from rest i p past before =
    sym (just_one_with_false odd) ∙ ap (λ (qs : List Point). is_just_one odd (odd_from from qs p)) (sym (drop_all i rest past)) ∙ before
