-- A stamp's test and its instant, from the parts of its text.
use Rattle.std.proofs.Common.{◌≡◌, ◌↔◌, ℕ, ◌+◌, ◌*◌, ◌<◌, ◌≤◌, Bool, true, false, ◌&&◌, Option, None, Some, is_some, IsNone, unwrap_or, refl, arith, ℤ}
use Rattle.lost_spec.specs.Text.{Text}
use Rattle.lost_spec.specs.Moment.{Instant, nanoseconds_of_a_day, is_date, is_time, day_number, is_stamp, moment_of}
use Rattle.lost_mapping.specs.StampText.{number_in, has_shape, end_of}
use Rattle.lost_mapping.proofs.BoolLemmas.{first_fails, second_fails, third_fails, fourth_fails, all_hold}

-- a text is a stamp where each of its parts is good
pub is_stamp-parts : (text : Text) → is_stamp text
    ≡ (has_shape text && is_date (number_in text 0 4) (number_in text 5 7) (number_in text 8 10) && is_time (number_in text 11 13) (number_in text 14 16) (number_in text 17 19) && is_some (end_of text))
unfolding is_stamp has_shape number_in end_of
is_stamp-parts text = refl

-- the calendar has the day in the text, and the clock the second
abbrev date_of : Text → Bool
date_of text = is_date (number_in text 0 4) (number_in text 5 7) (number_in text 8 10)

abbrev time_of : Text → Bool
time_of text = is_time (number_in text 11 13) (number_in text 14 16) (number_in text 17 19)

-- a text is no stamp where one part fails
pub no_shape : (text : Text) → false ≡ has_shape text → false ≡ is_stamp text
no_shape text = first_fails (is_stamp text) (has_shape text) (date_of text) (time_of text) (is_some (end_of text)) (is_stamp-parts text)

pub no_date : (text : Text) → false ≡ date_of text → false ≡ is_stamp text
no_date text = second_fails (is_stamp text) (has_shape text) (date_of text) (time_of text) (is_some (end_of text)) (is_stamp-parts text)

pub no_time : (text : Text) → false ≡ time_of text → false ≡ is_stamp text
no_time text = third_fails (is_stamp text) (has_shape text) (date_of text) (time_of text) (is_some (end_of text)) (is_stamp-parts text)

pub no_end : (text : Text) → false ≡ is_some (end_of text) → false ≡ is_stamp text
no_end text = fourth_fails (is_stamp text) (has_shape text) (date_of text) (time_of text) (is_some (end_of text)) (is_stamp-parts text)

pub is_whole : (text : Text) → true ≡ has_shape text → true ≡ date_of text → true ≡ time_of text → true ≡ is_some (end_of text) → true ≡ is_stamp text
is_whole text = all_hold (is_stamp text) (has_shape text) (date_of text) (time_of text) (is_some (end_of text)) (is_stamp-parts text)

-- ---- the instant

moment_of-parts : (text : Text) → moment_of text
    ≡ record {
      day = day_number (number_in text 0 4) (number_in text 5 7) (number_in text 8 10);
      nanosecond = ((number_in text 11 13 * 60 + number_in text 14 16) * 60 + number_in text 17 19) * 1_000_000_000 + unwrap_or (end_of text) 0;
    }
unfolding moment_of number_in end_of day_number
moment_of-parts text = refl

-- the instant, from its day, its second of the day and its nanosecond of the second
pub moment_is : (text : Text) (day : ℤ) (second fraction : ℕ) → day ≡ day_number (number_in text 0 4) (number_in text 5 7) (number_in text 8 10)
    → second ≡ (number_in text 11 13 * 60 + number_in text 14 16) * 60 + number_in text 17 19 → Some fraction ≡ end_of text
    → record { day = day; nanosecond = second * 1_000_000_000 + fraction } ≡ moment_of text
moment_is text day second fraction day_is second_is fraction_is = rw (moment_of-parts text, day_is, second_is, ← fraction_is) refl

-- a day and a nanosecond of it have an instant
pub is_moment : (o : Option Instant) (n : ℕ) → IsNone o ↔ (nanoseconds_of_a_day ≤ n) → n < nanoseconds_of_a_day → is_some o ≡ true
is_moment None n h small = absurd (let past = h.0 refl in omega arith)
is_moment (Some m) n h small = refl
