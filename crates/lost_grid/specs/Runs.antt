-- Whole numbers that rise from one to another.
use Rattle.std.proofs.Common.{◌≡◌, refl, ap, ◌∙◌, ℕ, ◌+◌, ◌<◌, [], ◌∷◌, ◌++◌, length, map, get_or, ℤ, pos, negsuc, ◌+ℤ◌, ◌-ℤ◌, ◌≤ℤ◌, ◌<ℤ◌, Contains, arith}
use Rattle.std.specs.List.{range_with_len}
use Rattle.std.proofs.lemmas.Int.{ints}
use Rattle.std.proofs.lemmas.List.FromFn.{length-map-range_with_len, get_or-map-range_with_len, map-range_with_len_more}
use Rattle.lost_grid.specs.Lines.{at_least_zero, up_to}

at_least_zero_is : (z : ℤ) → pos 0 ≤ℤ z → pos (at_least_zero z) ≡ z
at_least_zero_is (pos n) positive = refl
at_least_zero_is (negsuc n) positive = absurd (omega (arith, ints))

-- how many there are
pub length-up_to : (low end : ℤ) → low ≤ℤ end → pos (length (up_to low end)) ≡ end -ℤ low
length-up_to low end order =
    let positive : pos 0 ≤ℤ (end -ℤ low) = omega (arith, ints) in
    ap pos (length-map-range_with_len (λ i. low +ℤ pos i) 0 (at_least_zero (end -ℤ low))) ∙ at_least_zero_is (end -ℤ low) positive

pub up_to_none : (low : ℤ) → up_to low low ≡ []
up_to_none low =
    let none : low -ℤ low ≡ pos 0 = omega (arith, ints) in
    ap (λ (z : ℤ). map (λ i. low +ℤ pos i) (range_with_len 0 (at_least_zero z))) none

-- one more at the end
pub up_to_more : (low z : ℤ) → low ≤ℤ z → up_to low (z +ℤ pos 1) ≡ up_to low z ++ z ∷ []
up_to_more low z order =
    let positive : pos 0 ≤ℤ (z -ℤ low) = omega (arith, ints) in
    let more : pos 0 ≤ℤ (z +ℤ pos 1 -ℤ low) = omega (arith, ints) in
    let count = at_least_zero_is (z -ℤ low) positive in
    let count_more = at_least_zero_is (z +ℤ pos 1 -ℤ low) more in
    let next : at_least_zero (z +ℤ pos 1 -ℤ low) ≡ at_least_zero (z -ℤ low) + 1 = omega (arith, ints) in
    let last : low +ℤ pos (at_least_zero (z -ℤ low)) ≡ z = omega (arith, ints) in
    ap (λ (n : ℕ). map (λ i. low +ℤ pos i) (range_with_len 0 n)) next
    ∙ map-range_with_len_more (λ i. low +ℤ pos i) 0 (at_least_zero (z -ℤ low)) (at_least_zero (z -ℤ low)) (omega arith)
    ∙ ap (λ (y : ℤ). up_to low z ++ y ∷ []) last

-- the number at a place
pub get_or-up_to : (low end : ℤ) (i : ℕ) (d : ℤ) → i < length (up_to low end) → get_or (up_to low end) i d ≡ low +ℤ pos i
get_or-up_to low end i d below =
    let n = at_least_zero (end -ℤ low) in
    get_or-map-range_with_len (λ k. low +ℤ pos k) 0 n i i d (omega (arith, length-map-range_with_len (λ k. low +ℤ pos k) 0 n)) (omega arith)

-- a number between stands there
pub Contains-up_to : (low end z : ℤ) → low ≤ℤ z → z <ℤ end → Contains (up_to low end) z
Contains-up_to low end z from before =
    let positive : pos 0 ≤ℤ (z -ℤ low) = omega (arith, ints) in
    let i = at_least_zero (z -ℤ low) in
    let at : pos (at_least_zero (z -ℤ low)) ≡ z -ℤ low = at_least_zero_is (z -ℤ low) positive in
    let count : pos (length (up_to low end)) ≡ end -ℤ low = length-up_to low end (omega (arith, ints)) in
    let below : at_least_zero (z -ℤ low) < length (up_to low end) = omega (arith, ints) in
    let same : low +ℤ pos (at_least_zero (z -ℤ low)) ≡ z = omega (arith, ints) in
    (i, below, get_or-up_to low end i z below ∙ same)
