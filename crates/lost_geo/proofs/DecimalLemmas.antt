-- How large the numbers of a decimal text are, and what the text is by its two numbers.
use Rattle.std.proofs.Common.{◌≡◌, ℕ, ℤ, ◌+◌, ◌-◌, ◌*◌, ◌^◌, ◌<◌, ◌≤◌, Option, Some, None, sym, ap, ◌∙◌, lit<, arith}
use Rattle.std.specs.Prelude.{option_map, option_and_then}
use Rattle.std.proofs.Math.Nat.{mul-le-mul_right, one-le-pow}
use Rattle.std.proofs.lemmas.Nat.{pow-add}
use Rattle.lost_spec.specs.Text.{Text}
use Rattle.lost_spec.specs.Decimal.{is_word_byte, is_space, front, behind, read_number, decimal}

-- digits that are filled up to seven
pub filled_small : (n v p : ℕ) → n ≤ 7 → v + 23 ≤ 23 * 10 ^ n → p ≡ 10 ^ (7 - n) → v * p < 1_000_000_000
filled_small n v p short small power =
    let whole : n + (7 - n) ≡ 7 = omega arith in
    let product : 10 ^ n * 10 ^ (7 - n) ≡ 10_000_000 = sym (pow-add 10 n (7 - n)) ∙ ap (λ k. 10 ^ k) whole in
    let some = one-le-pow (7 - n) 10 (lit< tt) in
    let scaled = mul-le-mul_right (10 ^ (7 - n)) small in
    rw power (omega (arith, product, some, scaled))

-- ---- the position that a text spells

pub no_lat : (text : Text) → read_number (front is_word_byte text) ≡ None → decimal text ≡ None
unfolding decimal
no_lat text is = ap (λ o. option_and_then (λ lat. option_map (λ lon. (lat, lon)) (read_number (behind is_space (behind is_word_byte text)))) o) is

pub both : (text : Text) (lat : ℤ) (lon : Option ℤ) → read_number (front is_word_byte text) ≡ Some lat → read_number (behind is_space (behind is_word_byte text)) ≡ lon
    → decimal text ≡ option_map (λ lon. (lat, lon)) lon
unfolding decimal
both text lat lon is then =
    ap (λ o. option_and_then (λ lat. option_map (λ lon. (lat, lon)) (read_number (behind is_space (behind is_word_byte text)))) o) is
    ∙ ap (λ o. option_map (λ lon. (lat, lon)) o) then
