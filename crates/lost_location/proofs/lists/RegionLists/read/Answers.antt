use Rattle.std.proofs.Common.{rules}
use Rattle.std.specs.List.{list_all}
use Rattle.std.proofs.lemmas.Result.{err_from_is_err_and}
use Rattle.lost_spec.specs.Place.{is_region}
use Rattle.lost_location.specs.Region.{region_of, regions_of}
use Rattle.lost_location.proofs.RegionLemmas.{refused_with_part}
use Rattle.lost_location.proofs.lists.RegionLists.read.Goals as goal

pub returns-in_err-add-clause-refuses : goal.returns-in_err-add-clause-refuses
returns-in_err-add-clause-refuses c =
    let seen = err_from_is_err_and c.from_residual.result c.from_residual.ensures.1 in
    rw (seen.1, seen.2) (refused_with_part (is_region (region_of c.in-Some.region)) (list_all is_region (regions_of c.args.regions.items)) _ (λ fails. search rules) c.in_err-add.ensures.refuses)
