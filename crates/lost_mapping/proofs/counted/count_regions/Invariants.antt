use Rattle.std.proofs.Common.{◌≡◌, ◌+◌, ◌≤◌, length, map}
use Rattle.std.specs.List.{list_all}
use Rattle.lost_spec.specs.Place.{is_region, by_kind}
use Rattle.lost_location.specs.Counted.{total}
use Rattle.lost_mapping.proofs.counted.count_regions.Given as goal

abbrev pub invariant-loop-region : goal.invariant-loop-region
invariant-loop-region g l =
    let left = map g.T.PartItems.region_of l.rest in
    let all = map g.T.PartItems.region_of l.regions in
    record {
      polygons : l.counts.polygons + length (by_kind left).polygons ≡ length (by_kind all).polygons;
      patterns : l.counts.patterns + length (by_kind left).patterns ≡ length (by_kind all).patterns;
      token_sets : l.counts.token_sets + length (by_kind left).token_sets ≡ length (by_kind all).token_sets;
      passed : list_all is_region all ≡ list_all is_region left;
      within : total l.counts + length l.rest ≤ length l.regions;
    }

abbrev pub decreases-loop-region : goal.decreases-loop-region
decreases-loop-region g l = length l.rest
