-- How large a number is that digits spell.
use Rattle.std.proofs.Common.{◌≡◌, ℕ, ◌+◌, ◌-◌, ◌*◌, ◌^◌, ◌<◌, ◌≤◌, true, ◌&&◌, [], ◌∷◌, length, take, fold, nat_eq, lit<, sym, ap, ◌∙◌, arith}
use Rattle.std.specs.List.{list_all}
use Rattle.std.proofs.Math.Nat.{mul-le-mul_right, pow-suc, one-le-pow}
use Rattle.std.proofs.lemmas.Nat.{pow-add}
use Rattle.std.proofs.lemmas.Bool.Decides.{nat_tests}
use Rattle.std.proofs.lemmas.List.{length-take}
use Rattle.lost_spec.specs.Text.{Text, is_digit, is_between, last_is}
use Rattle.lost_spec.specs.Moment.{digits_value, is_fraction}
use Rattle.lost_mapping.proofs.BoolLemmas.{both_true}

between_high : (low high n : ℕ) → is_between low high n ≡ true → n ≤ high
between_high low high n h = grind (arith, nat_tests)

digit_bound : (b : ℕ) → is_digit b ≡ true → b - 48 ≤ 9
digit_bound b h = grind (arith, nat_tests)

digit_step : (a d p n : ℕ) → d ≤ 9 → n + 1 ≤ (a * 10 + d + 1) * p → n + 1 ≤ (a + 1) * (p * 10)
digit_step a d p n h k =
    let step : a * 10 + d + 1 ≤ (a + 1) * 10 = omega arith in
    let scaled = mul-le-mul_right p step in
    omega (arith, scaled, k)

fold_bound : (a : ℕ) (xs : Text) → list_all is_digit xs ≡ true → fold (λ n b. n * 10 + (b - 48)) a xs + 1 ≤ (a + 1) * 10 ^ length xs
fold_bound a [] h = omega arith
fold_bound a (b ∷ xs) h =
    let parts = both_true (is_digit b) (list_all is_digit xs) h in
    rw pow-suc (digit_step a (b - 48) (10 ^ length xs) _ (digit_bound b parts.0) (fold_bound (a * 10 + (b - 48)) xs parts.1))

digits_bound : (xs : Text) → list_all is_digit xs ≡ true → digits_value xs < 10 ^ length xs
digits_bound xs h = omega (arith, fold_bound 0 xs h)

scaled_small : (n v : ℕ) → n ≤ 9 → v < 10 ^ n → v * 10 ^ (9 - n) < 1_000_000_000
scaled_small n v h k =
    let whole : n + (9 - n) ≡ 9 = omega arith in
    let product : 10 ^ n * 10 ^ (9 - n) ≡ 1_000_000_000 = sym (pow-add 10 n (9 - n)) ∙ ap (λ k. 10 ^ k) whole in
    let some = one-le-pow (9 - n) 10 (lit< tt) in
    let scaled = mul-le-mul_right (10 ^ (9 - n)) k in
    omega (arith, product, some, scaled)

is_fraction-digits : (text : Text) → is_fraction text ≡ true → (length (take (length text - 1) text) ≤ 9) × (list_all is_digit (take (length text - 1) text) ≡ true)
is_fraction-digits text h =
    let parts = both_true (last_is (λ b. nat_eq b 90) text && is_between 2 10 (length text)) (list_all is_digit (take (length text - 1) text)) h in
    let within = (both_true (last_is (λ b. nat_eq b 90) text) (is_between 2 10 (length text)) parts.0).1 in
    let short : length text ≤ 10 = between_high 2 10 (length text) within in
    (omega (arith, length-take (length text - 1) text), parts.1)

-- a fraction of a second is less than a second
pub fraction_small : (text : Text) (v p : ℕ) → is_fraction text ≡ true → v ≡ digits_value (take (length text - 1) text) → p ≡ 10 ^ (9 - length (take (length text - 1) text)) → v * p < 1_000_000_000
fraction_small text v p h value power =
    let known = is_fraction-digits text h in
    rw (value, power) (scaled_small (length (take (length text - 1) text)) (digits_value (take (length text - 1) text)) known.0 (digits_bound (take (length text - 1) text) known.1))
