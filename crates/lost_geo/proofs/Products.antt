-- Products of a difference of longitudes and a difference of latitudes, compared.
use Rattle.std.proofs.Common.{◌≡◌, refl, ℕ, zero, suc, ◌*◌, ◌<◌, ◌≤◌, true, false, ℤ, pos, negsuc, neg_ℤ, ◌*ℤ◌, ◌≤ℤ◌, ◌<ℤ◌, int_lt, arith}
use Rattle.std.proofs.Math.Nat.{mul-le-mul, mul-lt-mul_of_pos_left}
use Rattle.std.proofs.lemmas.Bool.{le-ltb, lt-ltb}
use Rattle.std.proofs.lemmas.Int.{ints}

-- ---- numbers and their negatives

pos_not_below_neg : (a b : ℕ) → int_lt (pos a) (neg_ℤ (pos b)) ≡ false
pos_not_below_neg a zero = le-ltb a zero (omega arith)
pos_not_below_neg a (suc b) = refl

neg_below_pos : (a b : ℕ) → 0 < a → int_lt (neg_ℤ (pos a)) (pos b) ≡ true
neg_below_pos zero b some = absurd (omega arith)
neg_below_pos (suc a) b some = refl

neg_below_neg : (a b : ℕ) → b < a → int_lt (neg_ℤ (pos a)) (neg_ℤ (pos b)) ≡ true
neg_below_neg zero b below = absurd (omega arith)
neg_below_neg (suc a) zero below = refl
neg_below_neg (suc a) (suc b) below = lt-ltb b a (omega arith)

-- ---- products

smaller_product : (a b m n : ℕ) → a ≤ m → b < n → 0 < m → a * b < m * n
smaller_product a b m n narrow tall some =
    let wide : a * b ≤ m * b = mul-le-mul narrow (omega arith) in
    let high : m * b < m * n = mul-lt-mul_of_pos_left tall some in
    omega arith

-- the larger width times the larger height is not below the smaller one times the smaller one
pub not_below-mul : (east width high low : ℤ) → pos 0 ≤ℤ east → width ≤ℤ east → pos 0 ≤ℤ low → low ≤ℤ high →
    int_lt (east *ℤ high) (width *ℤ low) ≡ false
not_below-mul (pos e) (pos w) (pos h) (pos l) at_left wide at_low tall =
    let narrow : w ≤ e = omega (arith, ints) in
    let short : l ≤ h = omega (arith, ints) in
    le-ltb (e * h) (w * l) (mul-le-mul narrow short)
not_below-mul (pos e) (negsuc w) (pos h) (pos l) at_left wide at_low tall = pos_not_below_neg (e * h) (suc w * l)
not_below-mul (negsuc e) width high low at_left wide at_low tall = absurd (omega (arith, ints))
not_below-mul east width high (negsuc l) at_left wide at_low tall = absurd (omega (arith, ints))
not_below-mul east width (negsuc h) low at_left wide at_low tall = absurd (omega (arith, ints))

-- to the west of both ends the product is below
pub below-mul : (east width high low : ℤ) → east <ℤ pos 0 → east <ℤ width → pos 0 ≤ℤ low → low <ℤ high →
    int_lt (east *ℤ high) (width *ℤ low) ≡ true
below-mul (negsuc e) (pos w) (pos h) (pos l) at_right narrow at_low tall =
    let some : 0 * l < suc e * h = smaller_product 0 l (suc e) h (omega arith) (omega (arith, ints)) (omega arith) in
    neg_below_pos (suc e * h) (w * l) (omega arith)
below-mul (negsuc e) (negsuc w) (pos h) (pos l) at_right narrow at_low tall =
    neg_below_neg (suc e * h) (suc w * l)
    (smaller_product (suc w) l (suc e) h (omega (arith, ints)) (omega (arith, ints)) (omega arith))
below-mul (pos e) width high low at_right narrow at_low tall = absurd (omega (arith, ints))
below-mul east width high (negsuc l) at_right narrow at_low tall = absurd (omega (arith, ints))
below-mul east width (negsuc h) low at_right narrow at_low tall = absurd (omega (arith, ints))
