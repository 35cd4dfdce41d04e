-- Products of an integer and a natural number: sums, order, and the order of factors.
use Rattle.std.specs.Prelude.{◌≡◌, ℕ, zero, suc, ◌+◌, ◌<◌, Bool, true, false, ℤ, pos, neg_ℤ, ◌+ℤ◌, ◌-ℤ◌, ◌*ℤ◌, ◌<ℤ◌, ◌≤ℤ◌, int_lt}
use Rattle.std.proofs.Common.{refl, sym, ap, ◌∙◌, arith}
use Rattle.std.proofs.Math.IntN.{suc_ℤ-*ℤ, *ℤ_comm, *ℤ-zero, *ℤ-negsuc}
use Rattle.std.proofs.lemmas.Int.{ints}

-- one time more
pub mul-suc : (z : ℤ) (n : ℕ) → z *ℤ pos (suc n) ≡ z *ℤ pos n +ℤ z
mul-suc z n = *ℤ_comm z (pos (suc n)) ∙ suc_ℤ-*ℤ (pos n) z ∙ ap (λ x. x +ℤ z) (*ℤ_comm (pos n) z)

-- a negative number of times
pub mul-neg : (z : ℤ) (n : ℕ) → z *ℤ neg_ℤ (pos n) ≡ neg_ℤ (z *ℤ pos n)
mul-neg z zero = *ℤ-zero z ∙ sym (ap neg_ℤ (*ℤ-zero z))
mul-neg z (suc n) = *ℤ-negsuc z n

-- so many times and so many more
pub mul-add : (z : ℤ) (n k s : ℕ) → s ≡ n + k → z *ℤ pos s ≡ z *ℤ pos n +ℤ z *ℤ pos k
mul-add z n zero s e =
    let same : s ≡ n = omega arith in
    let none = *ℤ-zero z in
    rw (same, none) (omega (arith, ints))
mul-add z n (suc k) zero e = absurd (omega arith)
mul-add z n (suc k) (suc s) e =
    let less = mul-add z n k s (omega arith) in
    let one = mul-suc z s in
    let other = mul-suc z k in
    omega (arith, ints)

-- a difference so many times
pub sub-mul : (x y d : ℤ) (n : ℕ) → d ≡ x -ℤ y → d *ℤ pos n ≡ x *ℤ pos n -ℤ y *ℤ pos n
sub-mul x y d zero e = rw (*ℤ-zero d, *ℤ-zero x, *ℤ-zero y) refl
sub-mul x y d (suc n) e =
    let less = sub-mul x y d n e in
    let first = mul-suc x n in
    let second = mul-suc y n in
    let both = mul-suc d n in
    omega (arith, ints)

-- so many times so many times, in either order
pub mul-swap : (z : ℤ) (n k : ℕ) → (z *ℤ pos n) *ℤ pos k ≡ (z *ℤ pos k) *ℤ pos n
mul-swap z n zero = *ℤ-zero (z *ℤ pos n) ∙ sym (ap (λ x. x *ℤ pos n) (*ℤ-zero z) ∙ *ℤ_comm (pos 0) (pos n) ∙ *ℤ-zero (pos n))
mul-swap z n (suc k) =
    let less = mul-swap z n k in
    let one = mul-suc (z *ℤ pos n) k in
    let step = mul-suc z k in
    let parts = sub-mul (z *ℤ pos (suc k)) z (z *ℤ pos k) n (omega (arith, ints)) in
    omega (arith, ints)

-- ---- order

lt-mul : (x y : ℤ) (n : ℕ) → x <ℤ y → (x *ℤ pos (suc n)) <ℤ (y *ℤ pos (suc n))
lt-mul x y zero below =
    let first = mul-suc x 0 in
    let second = mul-suc y 0 in
    let none = *ℤ-zero x in
    let nothing = *ℤ-zero y in
    omega (arith, ints)
lt-mul x y (suc n) below =
    let less = lt-mul x y n below in
    let first = mul-suc x (suc n) in
    let second = mul-suc y (suc n) in
    omega (arith, ints)

le-mul : (x y : ℤ) (n : ℕ) → x ≤ℤ y → (x *ℤ pos n) ≤ℤ (y *ℤ pos n)
le-mul x y zero below =
    let none = *ℤ-zero x in
    let nothing = *ℤ-zero y in
    omega (arith, ints)
le-mul x y (suc n) below =
    let less = le-mul x y n below in
    let first = mul-suc x n in
    let second = mul-suc y n in
    omega (arith, ints)

-- tests of order that say the same
same_test : (x y u v : ℤ) → (x <ℤ y → u <ℤ v) → (y ≤ℤ x → v ≤ℤ u) → int_lt u v ≡ int_lt x y
same_test x y u v below above = by (int_lt x y) refl
  where
    by : (b : Bool) → int_lt x y ≡ b → int_lt u v ≡ b
    by true e =
        let here : x <ℤ y = grind (arith, ints) in
        let there = below here in
        grind (arith, ints)
    by false e =
        let here : y ≤ℤ x = grind (arith, ints) in
        let there = above here in
        grind (arith, ints)

-- a positive number of times keeps the order
pub int_lt-mul : (x y : ℤ) (n : ℕ) → 0 < n → int_lt (x *ℤ pos n) (y *ℤ pos n) ≡ int_lt x y
int_lt-mul x y zero some = absurd (omega arith)
int_lt-mul x y (suc n) some = same_test x y (x *ℤ pos (suc n)) (y *ℤ pos (suc n)) (lt-mul x y n) (le-mul y x (suc n))

-- more on both sides keeps it
pub int_lt-add : (x y u v z : ℤ) → u ≡ x -ℤ z → v ≡ y -ℤ z → int_lt u v ≡ int_lt x y
int_lt-add x y u v z e f = same_test x y u v (λ h. omega (arith, ints)) (λ h. omega (arith, ints))
