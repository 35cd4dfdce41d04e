use Rattle.std.proofs.Common.{get_or, pos, ℤ}
use Rattle.std.specs.List.{list_all}
use Rattle.std.proofs.lemmas.List.Folds.{list_all_at}
use Rattle.std.proofs.lemmas.Result.{err_from_is_err_and}
use Rattle.lost_location.specs.Refusals.{is_position}
use Rattle.lost_location.proofs.RegionLemmas.{refused_with_part}
use Rattle.lost_location.proofs.rings.read_points.Goals as goal

pub returns-in_err-point-clause-refuses : goal.returns-in_err-point-clause-refuses
returns-in_err-point-clause-refuses c =
    let positions = c.args.positions.now in
    let at = c.loop-position.position-index in
    let zero : ℤ × ℤ = (pos 0, pos 0) in
    let seen = err_from_is_err_and c.from_residual.result c.from_residual.ensures.1 in
    rw (seen.1, seen.2) (refused_with_part (is_position (get_or positions at zero)) (list_all is_position positions) _ (list_all_at is_position positions at zero c.loop-position-test.true) c.in_err-point.ensures.refuses)
