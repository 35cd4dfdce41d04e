-- Whole numbers in decimal, and the numbers that they are read as.
use Rattle.std.proofs.Common.{◌≡◌, ◌≢◌, ℕ, ℤ, pos, negsuc, ◌<◌, ◌≤◌, ◌^◌, List, [], ◌++◌, Some, length, take, drop, get_or, decimal, option_and_then, sym, ap, subst, refl, ◌∙◌, arith, take-append-drop, append-nil, lt-ltb}
use Rattle.std.specs.Str.Parse.{AllDigits, digits_value}
use Rattle.std.proofs.lemmas.Str.Parse.{numerals_by_value, tells_digits}
use Rattle.std.proofs.lemmas.Fmt.{decimal-digits_value}
use Rattle.std.proofs.lemmas.List.{get_or-take, length-take-le}
use Rattle.std.specs.Fmt.{signed_decimal}
use lib.Signed.{mag}
use Rattle.json.specs.Print.{IsNumber}
use Rattle.json.proofs.Printed.Decimals.{IsNumber-signed_decimal}
use Rattle.serde_json.specs.Data.{Num, unsigned, negative}
use Rattle.serde_json.specs.Find.{as_i64}
use Rattle.serde_json.specs.Read.{number_of}
use Rattle.serde_json.proofs.Numbers.{number_of-decimal, number_of-negative}
use Rattle.lost_spec.specs.Text.{Text}
use Rattle.lost_tape.specs.Numbers.{IsNumberBefore}

-- digits with no zero before another digit are those of the number that they spell
pub number_front : (text : List ℕ) (n value : ℕ) → n ≤ length text → AllDigits 10 (take n text) → value ≡ digits_value 10 (take n text) → value < 2 ^ 64 → 0 < n → (get_or text 0 0 ≡ 48 → n ≡ 1)
    → text ≡ decimal value ++ drop n text
number_front text n value within digits is small some lead =
    let long : length (take n text) ≡ n = length-take-le n text within in
    let first : get_or (take n text) 0 0 ≡ get_or text 0 0 = get_or-take n text 0 0 some in
    let same = decimal-digits_value (numerals_by_value _ tells_digits) (take n text) digits (omega (arith, long)) (λ e. long ∙ lead (sym first ∙ e)) (omega (arith, is)) in
    sym (take-append-drop n text) ∙ ap (λ t. t ++ drop n text) (sym (ap decimal is ∙ same))

-- a number's text, and the number that it is read as
pub record Spells (text : Text) (value : ℤ) : Type 0 where
  pub held : Num
  pub is_number : IsNumber text
  pub reads : number_of text ≡ Some held
  pub whole : as_i64 held ≡ Some value

pub spells : (z : ℤ) → mag z < 2 ^ 63 → Spells (signed_decimal z) z
spells (pos n) h = record { held = unsigned n; is_number = IsNumber-signed_decimal (pos n) h; reads = number_of-decimal n (omega arith); whole = rw (lt-ltb n _ h) }
spells (negsuc n) h = record { held = negative (negsuc n); is_number = IsNumber-signed_decimal (negsuc n) h; reads = number_of-negative n (omega arith); whole = refl }
