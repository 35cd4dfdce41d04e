use Rattle.std.proofs.Common.{◌*◌, ◌+◌, is_some, sym, ap, ◌∙◌, arith, rules, FitsSigned, w32}
use Rattle.std.proofs.lemmas.Int.{to_z-of_z}
use Rattle.std.proofs.lemmas.Option.{IfSome_then}
use Rattle.lost_mapping.proofs.StampLemmas.{no_shape, no_date, no_time, no_end, is_whole, moment_is, is_moment}
use Rattle.lost_mapping.proofs.stamp_text.read_moment.Goals as goal

pub returns-then-not-has_shape-clause-exists : goal.returns-then-not-has_shape-clause-exists
returns-then-not-has_shape-clause-exists c = no_shape c.args.text.now (sym c.if-not-has_shape.true ∙ c.has_shape.ensures.value)

pub returns-in_err-day-clause-exists : goal.returns-in_err-day-clause-exists
returns-in_err-day-clause-exists c = rw (c.from_residual.ensures) (no_date c.args.text.now (ap is_some (sym c.in_err-day.was) ∙ c.day_in.ensures.exists))

pub returns-in_err-second-clause-exists : goal.returns-in_err-second-clause-exists
returns-in_err-second-clause-exists c = rw (c.from_residual-in_err-second.ensures) (no_time c.args.text.now (ap is_some (sym c.in_err-second.was) ∙ c.second_of_day_in.ensures.exists))

pub returns-in_err-fraction-clause-exists : goal.returns-in_err-fraction-clause-exists
returns-in_err-fraction-clause-exists c = rw (c.from_residual-in_err-fraction.ensures) (no_end c.args.text.now (ap is_some (sym c.in_err-fraction.was ∙ c.fraction_in.ensures.value)))

pub returns-clause-exists : goal.returns-clause-exists
returns-clause-exists c =
    let whole = is_whole c.args.text.now (sym c.if-not-has_shape.false ∙ c.has_shape.ensures.value) (ap is_some (sym c.in_ok-day.was) ∙ c.day_in.ensures.exists)
    (ap is_some (sym c.in_ok-second.was) ∙ c.second_of_day_in.ensures.exists) (ap is_some (sym c.in_ok-fraction.was ∙ c.fraction_in.ensures.value)) in
    is_moment c.new.result (c.in_ok-second.second * 1_000_000_000 + c.in_ok-fraction.fraction) c.new.ensures.none (omega (arith, c.in_ok-second.ensures.small, c.in_ok-fraction.ensures.small)) ∙ whole

pub returns-clause-value : goal.returns-clause-value
returns-clause-value c =
    let fits : FitsSigned w32 c.in_ok-day.day = search rules in
    let value = simp to_z-of_z at c.new.ensures.value in
    IfSome_then c.new.result value
    (λ m is. is ∙ moment_is c.args.text.now c.in_ok-day.day c.in_ok-second.second c.in_ok-fraction.fraction c.in_ok-day.ensures.value c.in_ok-second.ensures.value c.in_ok-fraction.ensures.value)
