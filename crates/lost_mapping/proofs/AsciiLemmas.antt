-- A stamp is ASCII: its first bytes by their shape, and its end by its digits.
use Rattle.std.proofs.Common.{◌≡◌, ◌⊎◌, ℕ, ◌-◌, ◌<◌, suc, Bool, true, false, ◌&&◌, cond, nat_eq, nat_lt, None, Some, is_some, [], ◌∷◌, length, take, drop, inl, inr, refl, sym, subst, ◌∙◌, arith}
use Rattle.std.specs.List.{list_all}
use Rattle.std.specs.Str.{IsAscii}
use lib.Pointwise.{pointwise}
use Rattle.std.proofs.lemmas.Bool.Decides.{nat_tests}
use Rattle.std.proofs.lemmas.List.{take-append-drop, nil_from_length}
use Rattle.std.proofs.lemmas.Str.{IsAscii-append}
use Rattle.std.proofs.lemmas.Str.Ascii.{IsAscii-nil, IsAscii-cons}
use Rattle.lost_spec.specs.Text.{Text, is_digit, is_between, last_is}
use Rattle.lost_spec.specs.Moment.{stamp_shape, fits_shape, is_date, is_time, is_fraction, fraction_value, read_end, is_stamp}
use Rattle.lost_mapping.specs.StampText.{number_in, has_shape, end_of}
use Rattle.lost_mapping.proofs.BoolLemmas.{both_true}
use Rattle.lost_mapping.proofs.StampLemmas.{is_stamp-parts}

-- ---- the first bytes

fits_ascii : (shape b : ℕ) → nat_lt shape 128 ≡ true → fits_shape shape b ≡ true → b < 128
fits_ascii shape b small h = grind (arith, nat_tests)

ascii_front : (shape xs : Text) → list_all (λ b. nat_lt b 128) shape ≡ true → pointwise fits_shape shape xs ≡ true → IsAscii xs
ascii_front [] [] small h = IsAscii-nil
ascii_front [] (x ∷ xs) small h = absurd (cc)
ascii_front (s ∷ shape) [] small h = absurd (cc)
ascii_front (s ∷ shape) (x ∷ xs) small h =
    let below = both_true (nat_lt s 128) (list_all (λ b. nat_lt b 128) shape) small in
    let parts = both_true (fits_shape s x) (pointwise fits_shape shape xs) h in
    IsAscii-cons x xs (fits_ascii s x below.0 parts.0) (ascii_front shape xs below.1 parts.1)

-- ---- the end

digit_ascii : (b : ℕ) → is_digit b ≡ true → b < 128
digit_ascii b h = grind (arith, nat_tests)

end_ascii : (b : ℕ) → nat_eq b 90 ≡ true → b < 128
end_ascii b h = grind (arith, nat_tests)

dot_ascii : (b : ℕ) → nat_eq b 46 ≡ true → b < 128
dot_ascii b h = grind (arith, nat_tests)

-- digits up to a last Z
ascii_digits : (xs : Text) → last_is (λ b. nat_eq b 90) xs ≡ true → list_all is_digit (take (length xs - 1) xs) ≡ true → IsAscii xs
ascii_digits [] ends digits = IsAscii-nil
ascii_digits (b ∷ []) ends digits = IsAscii-cons b [] (end_ascii b ends) IsAscii-nil
ascii_digits (b ∷ c ∷ rest) ends digits =
    let front : length (b ∷ c ∷ rest) - 1 ≡ suc (length (c ∷ rest) - 1) = omega arith in
    let parts = both_true (is_digit b) (list_all is_digit (take (length (c ∷ rest) - 1) (c ∷ rest))) (rw front at digits) in
    IsAscii-cons b (c ∷ rest) (digit_ascii b parts.0) (ascii_digits (c ∷ rest) ends parts.1)

ascii_fraction : (xs : Text) → is_fraction xs ≡ true → IsAscii xs
ascii_fraction xs h =
    let parts = both_true (last_is (λ b. nat_eq b 90) xs && is_between 2 10 (length xs)) (list_all is_digit (take (length xs - 1) xs)) h in
    ascii_digits xs (both_true (last_is (λ b. nat_eq b 90) xs) (is_between 2 10 (length xs)) parts.0).0 parts.1

either : (x y : Bool) (m n : ℕ) → is_some (cond x (Some m) (cond y (Some n) None)) ≡ true → (x ≡ true) ⊎ (y ≡ true)
either true y m n h = inl refl
either false true m n h = inr refl
either false false m n h = absurd (cc)

no_more : (xs : Text) → nat_eq (length xs) 0 ≡ true → IsAscii xs
no_more xs h = let none : length xs ≡ 0 = grind (arith, nat_tests) in rw (nil_from_length xs none) IsAscii-nil

ascii_end : (xs : Text) → is_some (read_end xs) ≡ true → IsAscii xs
ascii_end [] h = IsAscii-nil
ascii_end (b ∷ rest) h =
    elim (either (nat_eq b 90 && nat_eq (length rest) 0) (nat_eq b 46 && is_fraction rest) 0 (fraction_value rest) h) [
      | inl whole ↦ let parts = both_true (nat_eq b 90) (nat_eq (length rest) 0) whole in
          IsAscii-cons b rest (end_ascii b parts.0) (no_more rest parts.1)
      | inr dot ↦ let parts = both_true (nat_eq b 46) (is_fraction rest) dot in
          IsAscii-cons b rest (dot_ascii b parts.0) (ascii_fraction rest parts.1)
    ]

-- ---- the whole

ascii_parts : (text : Text) → has_shape text ≡ true → is_some (end_of text) ≡ true → IsAscii text
unfolding has_shape end_of
ascii_parts text front rest =
    let P : Text → Type 0 = λ t. IsAscii t in
    subst P (take-append-drop 19 text) (IsAscii-append (take 19 text) (drop 19 text) (ascii_front stamp_shape (take 19 text) refl front) (ascii_end (drop 19 text) rest))

pub ascii_stamp : (text : Text) → is_stamp text ≡ true → IsAscii text
ascii_stamp text h =
    let date = is_date (number_in text 0 4) (number_in text 5 7) (number_in text 8 10) in
    let time = is_time (number_in text 11 13) (number_in text 14 16) (number_in text 17 19) in
    let parts = both_true (has_shape text && date && time) (is_some (end_of text)) (sym (is_stamp-parts text) ∙ h) in
    let timed = both_true (has_shape text && date) time parts.0 in
    ascii_parts text (both_true (has_shape text) date timed.0).0 parts.1
