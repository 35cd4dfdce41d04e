-- Instants and stamps: the calendar, which texts are stamps, and the instant that a stamp names.
use Rattle.std.specs.Prelude.{ℕ, zero, suc, ◌+◌, ◌-◌, ◌*◌, ◌%◌, ◌^◌, Bool, not, ◌&&◌, ◌||◌, if◌then◌else◌, [], ◌∷◌, take, drop, length, Option, Some, None, is_some, unwrap_or, ℤ, pos, ◌-ℤ◌, int_lt, nat_le, nat_lt, ◌==◌, slice_range, fold, codes}
use Rattle.std.specs.List.{list_all}
use Rattle.std.specs.Ordering.{int_eq}
use lib.Pointwise.{pointwise}
use Rattle.lost_spec.specs.Text.{Text, is_digit, is_between, last_is}

-- an instant: a civil day number from 1970-01-01 and a nanosecond of that day, in UTC (own)
pub record Instant : Type 0 where
  pub day : ℤ
  pub nanosecond : ℕ

-- an instant is before another: by day number, then by nanosecond of the day (own)
abbrev pub is_earlier : Instant → Instant → Bool
is_earlier a b = int_lt a.day b.day || (int_eq a.day b.day && nat_lt a.nanosecond b.nanosecond)

-- the nanoseconds of a day; an instant's are below it (own)
abbrev pub nanoseconds_of_a_day : ℕ
nanoseconds_of_a_day = 86_400_000_000_000

-- ---- the calendar (Gregorian)

-- every fourth year, but of the centuries only every fourth
abbrev pub is_leap_year : ℕ → Bool
is_leap_year year = (year % 4 == 0) && (not (year % 100 == 0) || (year % 400 == 0))

abbrev pub days_in_year : ℕ → ℕ
days_in_year year = if is_leap_year year then 366 else 365

-- thirty days have September, April, June and November
abbrev pub days_in_month : ℕ → ℕ → ℕ
days_in_month year month =
    if month == 2 then (if is_leap_year year then 29 else 28)
    else (if (month == 4) || (month == 6) || (month == 9) || (month == 11) then 30 else 31)

-- the days of the years 1 to n
unfoldable pub days_of_years : ℕ → ℕ
days_of_years zero = 0
days_of_years (suc n) = days_of_years n + days_in_year (suc n)

-- the days of the months 1 to n of a year
unfoldable pub days_of_months : ℕ → ℕ → ℕ
days_of_months year zero = 0
days_of_months year (suc n) = days_of_months year n + days_in_month year (suc n)

-- the day number of a date: 0 for 1970-01-01, before which lie 719,162 days of the years from 1 on
unfoldable pub day_number : ℕ → ℕ → ℕ → ℤ
unfolding days_of_years days_of_months
day_number year month day = pos (days_of_years (year - 1) + days_of_months year (month - 1) + (day - 1)) -ℤ pos 719_162

-- the calendar has this day
abbrev pub is_date : ℕ → ℕ → ℕ → Bool
is_date year month day = is_between 1 9999 year && is_between 1 12 month && is_between 1 (days_in_month year month) day

-- the clock has this second
abbrev pub is_time : ℕ → ℕ → ℕ → Bool
is_time hour minute second = nat_le hour 23 && nat_le minute 59 && nat_le second 59

-- ---- stamps

-- the first 19 bytes of a stamp, in which 0 stands for any digit (own; RFC 3339 in UTC)
abbrev pub stamp_shape : Text
stamp_shape = codes "0000-00-00T00:00:00"

-- a byte fits a byte of the shape
abbrev pub fits_shape : ℕ → ℕ → Bool
fits_shape shape b = if shape == 48 then is_digit b else b == shape

-- the number that decimal digits spell
abbrev pub digits_value : Text → ℕ
digits_value text = fold (λ n b. n * 10 + (b - 48)) 0 text

-- the number that stands in the bytes from one place up to another
abbrev pub number_at : Text → ℕ → ℕ → ℕ
number_at text from to = digits_value (slice_range text from to)

-- one to nine digits and then Z
abbrev pub is_fraction : Text → Bool
is_fraction rest = last_is (λ b. b == 90) rest && is_between 2 10 (length rest) && list_all is_digit (take (length rest - 1) rest)

-- the nanoseconds that such digits spell: absent digits are zeros
abbrev pub fraction_value : Text → ℕ
fraction_value rest = digits_value (take (length rest - 1) rest) * 10 ^ (10 - length rest)

-- what follows the seconds: Z alone, or a dot and a fraction
abbrev pub read_end : Text → Option ℕ
read_end [] = None
read_end (b ∷ rest) =
    if (b == 90) && (length rest == 0) then Some 0
    else (if (b == 46) && is_fraction rest then Some (fraction_value rest) else None)

-- the text is a stamp: `YYYY-MM-DDThh:mm:ss`, perhaps a dot and one to nine digits, then `Z`, of a day and a second that exist (own)
unfoldable pub is_stamp : Text → Bool
is_stamp text =
    pointwise fits_shape stamp_shape (take 19 text)
    && is_date (number_at text 0 4) (number_at text 5 7) (number_at text 8 10)
    && is_time (number_at text 11 13) (number_at text 14 16) (number_at text 17 19)
    && is_some (read_end (drop 19 text))

-- the instant of a stamp: its day number, and its nanosecond of the day (own)
unfoldable pub moment_of : Text → Instant
unfolding day_number
moment_of text = record {
  day = day_number (number_at text 0 4) (number_at text 5 7) (number_at text 8 10);
  nanosecond =
      ((number_at text 11 13 * 60 + number_at text 14 16) * 60 + number_at text 17 19) * 1_000_000_000
      + unwrap_or (read_end (drop 19 text)) 0;
}

-- a stamp: its text, which is kept, and its instant
pub record Stamp : Type 0 where
  pub text : Text
  pub moment : Instant

abbrev pub stamp_of : Text → Stamp
stamp_of text = record { text = text; moment = moment_of text }

-- the stamp that a text spells
abbrev pub read_stamp : Text → Option Stamp
read_stamp text = if is_stamp text then Some (stamp_of text) else None
