-- The calendar of `jiff`, which counts its years from -10000, and the one of the definitions, which counts from year 1.
use Rattle.std.proofs.Common.{◌≡◌, ℕ, ◌+◌, ◌-◌, ◌≤◌, zero, suc, true, false, ◌&&◌, refl, sym, ap, arith, ℤ, pos, ◌-ℤ◌, ◌+ℤ◌, unsigned_abs}
use Rattle.std.proofs.lemmas.Bool.Decides.{nat_tests}
use Rattle.jiff_core.specs.Calendar as jiff
use Rattle.jiff_core.proofs.CalendarLemmas.{days_from_civil-day_count}
use Rattle.jiff_core.proofs.MarchLemmas.{days_of_years-march_days}
use Rattle.jiff_core.proofs.SignedLemmas.{signed_arith}
use Rattle.lost_spec.specs.Text.{is_between}
use Rattle.lost_spec.specs.Moment.{days_in_month, days_of_years, days_of_months, day_number, is_date}
use Rattle.lost_mapping.proofs.BoolLemmas.{not_true}

-- ---- the days of years and of months

-- 3,652,791 days lie before the year 1 in the count of `jiff`
first_year : jiff.days_of_years 10001 ≡ 3_652_791
first_year = omega (arith, days_of_years-march_days 10001)

same_years : (n : ℕ) → jiff.days_of_years (n + 10001) ≡ days_of_years n + 3_652_791
unfolding jiff.days_of_years days_of_years
same_years zero = first_year
same_years (suc n) =
    let next : suc n + 10001 ≡ suc (n + 10001) = omega arith in
    let year : pos (n + 10001) -ℤ pos 10000 ≡ pos (suc n) = omega (arith, signed_arith) in
    rw (next, year) (omega (arith, same_years n))

same_months : (y n : ℕ) → jiff.days_of_months (pos y) n ≡ days_of_months y n
unfolding jiff.days_of_months days_of_months
same_months y zero = refl
same_months y (suc n) = ap (λ days. days + days_in_month y (suc n)) (same_months y n)

-- ---- the day number

same_count : (y m d : ℕ) → 1 ≤ y → jiff.day_count (pos y) m d ≡ days_of_years (y - 1) + 3_652_791 + (days_of_months y (m - 1) + d - 1)
unfolding jiff.day_count
same_count y m d year =
    let place : unsigned_abs (pos y +ℤ pos 10000) ≡ (y - 1) + 10001 = omega (arith, signed_arith) in
    rw (place, same_years (y - 1), same_months y (m - 1))

pub same_day_number : (y m d : ℕ) → 1 ≤ y → 1 ≤ d → jiff.days_from_civil (pos y) m d ≡ day_number y m d
unfolding day_number
same_day_number y m d year day =
    omega (arith, signed_arith, days_from_civil-day_count (pos y) m d, same_count y m d year)

-- ---- which days there are

all_between : (y m d last : ℕ) → 1 ≤ y → y ≤ 9999 → 1 ≤ m → m ≤ 12 → 1 ≤ d → d ≤ last → (is_between 1 9999 y && is_between 1 12 m && is_between 1 last d) ≡ true
all_between y m d last a b e f g h = grind (arith, nat_tests)

bounds : (y m d last : ℕ) → (is_between 1 9999 y && is_between 1 12 m && is_between 1 last d) ≡ true → (1 ≤ y) × (y ≤ 9999) × (1 ≤ m) × (m ≤ 12) × (1 ≤ d) × (d ≤ last)
bounds y m d last h = grind (arith, nat_tests)

-- what `jiff` has from the year 1 on, there is
pub date_exists : (y m d : ℕ) → 1 ≤ y → jiff.IsDate (pos y) (pos m) (pos d) → is_date y m d ≡ true
date_exists y m d year h =
    all_between y m d (days_in_month y m) year (omega (arith, signed_arith)) (omega (arith, signed_arith)) (omega (arith, signed_arith)) (omega (arith, signed_arith)) (omega (arith, signed_arith))

-- what there is, `jiff` has
pub jiff_has : (y m d : ℕ) → is_date y m d ≡ true → jiff.IsDate (pos y) (pos m) (pos d)
jiff_has y m d h =
    let within = bounds y m d (days_in_month y m) h in
    omega (arith, signed_arith)

-- the same, of the signed numbers that `jiff` takes
pub date_found : (y m d : ℕ) (year month day : ℤ) → year ≡ pos y → month ≡ pos m → day ≡ pos d → 1 ≤ y → jiff.IsDate year month day → true ≡ is_date y m d
date_found y m d year month day year_is month_is day_is low h =
    sym (date_exists y m d low (rw year_is at (rw month_is at (rw day_is at h))))

pub no_date : (y m d : ℕ) (year month day : ℤ) → year ≡ pos y → month ≡ pos m → day ≡ pos d → ¬ (jiff.IsDate year month day) → false ≡ is_date y m d
no_date y m d year month day year_is month_is day_is h =
    not_true (is_date y m d) (λ is. h (rw (year_is, month_is, day_is) (jiff_has y m d is)))

pub number_found : (y m d : ℕ) (year : ℤ) (month day : ℕ) → year ≡ pos y → pos month ≡ pos m → pos day ≡ pos d → 1 ≤ y → 1 ≤ day → jiff.days_from_civil year month day ≡ day_number y m d
number_found y m d year month day year_is month_is day_is low first =
    let same_month : month ≡ m = cc in
    let same_day : day ≡ d = cc in
    let first' : 1 ≤ d = omega arith in
    rw (year_is, same_month, same_day) (same_day_number y m d low first')
