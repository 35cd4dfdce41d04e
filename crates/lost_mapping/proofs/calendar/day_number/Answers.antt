use Rattle.std.proofs.Common.{◌≡◌, ◌≤◌, rules, pos, Ok, sym, ap, ◌∙◌, arith, FitsSigned, w8, w16, w32}
use Rattle.std.proofs.lemmas.Int.{to_z-of_z}
use Rattle.std.proofs.lemmas.Result.{IfOk-at_ok}
use Rattle.jiff_core.specs.Date.{IsYmd, epoch_day}
use Rattle.lost_mapping.proofs.CalendarLemmas.{date_found, no_date, number_found}
use Rattle.lost_mapping.proofs.calendar.day_number.Goals as goal

pub returns-in_err-date-clause-exists : goal.returns-in_err-date-clause-exists
returns-in_err-date-clause-exists c =
    let year : c.in_ok-year.year ≡ pos c.args.year = grind arith in
    let month : c.in_ok-month.month ≡ pos c.args.month = grind arith in
    let day : c.in_ok-day.day ≡ pos c.args.day = grind arith in
    let year_fits : FitsSigned w16 c.in_ok-year.year = search rules in
    let month_fits : FitsSigned w8 c.in_ok-month.month = search rules in
    let day_fits : FitsSigned w8 c.in_ok-day.day = search rules in
    let succeeds = simp to_z-of_z at c.new.ensures.succeeds in
    rw (c.from_residual-in_err-date.ensures) (no_date c.args.year c.args.month c.args.day _ _ _ year month day (λ is. let ok = succeeds.1 is in grind arith))

pub returns : goal.returns
returns c =
    let year : c.in_ok-year.year ≡ pos c.args.year = grind arith in
    let month : c.in_ok-month.month ≡ pos c.args.month = grind arith in
    let day : c.in_ok-day.day ≡ pos c.args.day = grind arith in
    let low : 1 ≤ c.args.year = omega arith in
    let year_fits : FitsSigned w16 c.in_ok-year.year = search rules in
    let month_fits : FitsSigned w8 c.in_ok-month.month = search rules in
    let day_fits : FitsSigned w8 c.in_ok-day.day = search rules in
    let succeeds = simp to_z-of_z at c.new.ensures.succeeds in
    let ok : c.new.result ≡ Ok c.in_ok-date.date = grind arith in
    let value = simp to_z-of_z at c.new.ensures.value in
    let ymd = IfOk-at_ok (IsYmd c.in_ok-year.year c.in_ok-month.month c.in_ok-day.day) ok value in
    let fits : FitsSigned w32 c.to_unix_epoch_day.result = search rules in
    record {
      exists = date_found c.args.year c.args.month c.args.day c.in_ok-year.year c.in_ok-month.month c.in_ok-day.day year month day low (succeeds.0 (sym c.in_ok-date.ensures.variant));
      value =
          rw to_z-of_z (
          c.to_unix_epoch_day.ensures.value ∙ ap epoch_day c.to_plain.ensures
          ∙ number_found c.args.year c.args.month c.args.day c.in_ok-date.date.year c.in_ok-date.date.month c.in_ok-date.date.day
          (ymd.0 ∙ year) (ymd.1 ∙ month) (ymd.2 ∙ day) low c.in_ok-date.date.day_in.0);
    }
